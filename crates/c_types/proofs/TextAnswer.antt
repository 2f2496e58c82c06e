-- The answer to a text is that to its functions and declarations, in front of which nothing is declared.
use Rattle.std.proofs.Common.{◌≡◌, Bool, List, sym, ap, ◌∙◌}
use Rattle.std.proofs.Math.Path.{fun_ext}
use Rattle.std.specs.List.{filter_map}
use Rattle.c_values.specs.Name.{Name, is_among}
use Rattle.c_values.specs.Types.{Target}
use Rattle.c_grammar.specs.Tree as tree
use Rattle.typing_rules.specs.declared.fault.TypeFault.{TypeFault}
use Rattle.typing_rules.specs.declared.fault.TypeFault.TheVariants.{Bad as BadNode, Memory}
use Rattle.typing_rules.specs.CodeAnswers.{IsFaultOf}
use Rattle.typing_rules.specs.Checked.{Good}
use Rattle.typing_rules.specs.Scope.{Scope}
use Rattle.typing_rules.specs.Unit.{IsTyped, at_beginning, body_name, externals, unit_in, whole}
use Rattle.c_lang.specs.Typed as C
use Rattle.c_types.specs.CodeUnit.{IsBadText}
use Rattle.typing_scope.specs.CodeInFront.{in_front}

-- in front of a text, with the names of its functions
begun : (t : Target) (xs : List tree.External) (w : Name → Bool) → ((x : Name) → w x ≡ is_among x (filter_map body_name xs)) → in_front t w ≡ at_beginning t xs
begun t xs w h = ap (in_front t) (fun_ext h)

pub text_typed : (t : Target) (xs : List tree.External) (w : Name → Bool) (s u : Scope) (fs : List C.TypedFn) (unit : C.TypedUnit) → s ≡ in_front t w → ((x : Name) → w x ≡ is_among x (filter_map body_name xs)) → externals xs s ≡ Good (fs, u) → unit ≡ unit_in fs u → IsTyped t xs unit
text_typed t xs w s u fs unit front names typed is =
    ap (λ v. whole (externals xs v)) (sym (front ∙ begun t xs w names)) ∙ ap whole typed ∙ ap Good (sym is)

pub text_bad : (t : Target) (xs : List tree.External) (w : Name → Bool) (s : Scope) (e : TypeFault) → s ≡ in_front t w → ((x : Name) → w x ≡ is_among x (filter_map body_name xs)) → IsFaultOf e (externals xs s) → IsBadText t xs e
text_bad t xs w s (BadNode at kind) front names bad = ap (λ v. whole (externals xs v)) (sym (front ∙ begun t xs w names)) ∙ ap whole bad
text_bad t xs w s Memory front names bad = tt
