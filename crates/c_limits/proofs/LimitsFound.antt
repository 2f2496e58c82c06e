-- The limit that is found on a script is the first one that its tree passes.
use Rattle.std.proofs.Common.{◌≡◌, ◌∙◌, List, [], ◌∷◌, Option, Some, None, map, fold, refl, ap, subst, arith}
use Rattle.std.specs.Option.{option_map}
use Rattle.c_lex.specs.Lexeme.{Lexeme}
use Rattle.c_grammar.specs.declared.symbol.Production.{Production}
use Rattle.c_grammar.specs.declared.scripts.Step.{Step}
use Rattle.c_grammar.specs.declared.scripts.Step.TheVariants.{Shift, Reduce}
use Rattle.c_grammar.specs.Tree.{External}
use Rattle.c_grammar.specs.CodeBuild.{Value, Tok, OfUnit, act}
use Rattle.c_grammar.specs.CodeScript.{replay}
use Rattle.c_limits.specs.declared.limits.Limit.TheVariants as limit
use Rattle.c_limits.specs.Limits.{earlier, unit, first_limit}
use Rattle.c_limits.specs.CodeMeasure.{Part, cut, cut_part, reduced, advanced, measured, limit_of}
use Rattle.c_limits.proofs.LimitsLists.{get_take}
use Rattle.c_limits.proofs.LimitsParts.{Agrees, part, reduces}
use Rattle.c_limits.proofs.LimitsCut.{cut_reduced}

-- the parts behind steps, of which the first argument is what is left of them
abbrev parts_behind : List Step → List Lexeme → List Part → List Part
parts_behind ss ts ps = (fold (λ state step. advanced cut step state) (ts, ps) ss).1

-- the measures of values
abbrev parts : List Value → List Part
parts vs = map cut_part (map part vs)

reduced_parts : (p : Production) (vs ws : List Value) → act p vs ≡ Some ws → reduced cut p (parts vs) ≡ parts ws
reduced_parts p vs ws h =
    cut_reduced p (map part vs) ∙ ap (λ ps. map cut_part ps) (subst (λ o. Agrees p vs o) h (reduces p vs)).0

abbrev values_of : Option (List Value) → List Value
values_of None = []
values_of (Some vs) = vs

-- where the steps give values, they give the parts of these
pub replayed : (ss : List Step) (ts : List Lexeme) (vs ws : List Value) → replay ss ts vs ≡ Some ws → parts_behind ss ts (parts vs) ≡ parts ws
unfolding replay advanced
replayed [] ts vs ws h = ap (λ o. parts (values_of o)) h
replayed (Shift ∷ ss) [] vs ws h = absurd cc
replayed (Shift ∷ ss) (t ∷ ts) vs ws h = replayed ss ts (Tok t ∷ vs) ws h
replayed (Reduce p ∷ ss) ts vs ws h =
    (elim (act p vs) as (λ o. act p vs ≡ o → (elim o [ None ↦ None | Some us ↦ replay ss ts us ]) ≡ Some ws → parts_behind ss ts (reduced cut p (parts vs)) ≡ parts ws) [
      | None ↦ λ e k. absurd cc
      | Some us ↦ λ e k. ap (λ ps. parts_behind ss ts ps) (reduced_parts p vs us e) ∙ replayed ss ts us ws k
    ]) refl h

-- the limit that is found is the first one that the tree passes
pub found : (steps : List Step) (tokens : List Lexeme) (exts : List External) → replay steps tokens [] ≡ Some (OfUnit exts ∷ []) → limit_of (measured cut steps tokens) ≡ first_limit exts
found steps tokens exts h =
    ap limit_of (replayed steps tokens [] (OfUnit exts ∷ []) h)
    ∙ ap (λ o. earlier (option_map (λ a. (limit.Functions, a)) o) (unit exts).fault) (get_take 1024 1025 (unit exts).functions (omega arith))
