-- What the code's names with kinds stand for, the last first.
use Rattle.std.specs.Prelude.{List, [], map, string_bytes}
use Rattle.expression_lang.specs.Sort.{Scope}
use Rattle.expression_lang.specs.Signature.{Binder, names_of, kinds_of}
use Rattle.expression_lang.specs.CodeExpression.{kind_of}
use Rattle.expression_lang.specs.CodeSignature.{binder_of}
use Rattle.monad_lang.specs.Run.{start_names}
use Rattle.monad_lang.specs.CodeProgram.{start_of}
use Rattle.rule_word.specs.declared.kinds.Kinds as K
use Rattle.rule_word.specs.declared.rule.Context as C
use Rattle.rule_word.specs.declared.rule.Point as P
use Rattle.rule_word.specs.Rule.{Point}
use Rattle.rule_word.specs.Scopes.{with_kinds, words}
use Rattle.rule_word.specs.CodeRule.{known_in, context_in}
use Rattle.rule_word.specs.CodeStretch.{found_behind}

abbrev pub binders_in : K.Kinds → List Binder
binders_in K.None = []
binders_in (K.AllOf' p outer bs) = with_kinds (names_of (map binder_of bs.now)) (kinds_of (map binder_of bs.now)) (binders_in outer)
binders_in (K.Named' p outer xs ks) = with_kinds (map string_bytes xs.now) (map kind_of ks.now) (binders_in outer)
binders_in (K.Started' p outer starts ks) = with_kinds (start_names (map start_of starts.now)) (map kind_of ks.now) (binders_in outer)
binders_in (K.Passed' p outer s) = found_behind s.now (binders_in outer)

abbrev pub point_in : P.Point → Point
point_in at = record { facts = known_in at.facts.now; names = binders_in at.names.now }

-- what is in scope, with words under the names
abbrev pub scope_in : C.Context → K.Kinds → Scope
scope_in c names = (words (context_in c) (binders_in names)).scope

abbrev pub scope_at : C.Context → P.Point → Scope
scope_at c at = scope_in c at.names.now
