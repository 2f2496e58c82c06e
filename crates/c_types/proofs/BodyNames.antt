-- The names of the functions with a body.
use Rattle.std.proofs.Common.{◌≡◌, Bool, true, false, cond, ◌||◌, [], ◌∷◌, refl, ap, ◌∙◌}
use Rattle.std.specs.Prelude.{Option, Some, None}
use Rattle.std.specs.List.{filter_map}
use Rattle.c_values.specs.Name.{Name, same_name, is_among, with_name}
use Rattle.c_grammar.specs.Tree as tree
use Rattle.c_values.proofs.Names.{same_name_swapped}
use Rattle.typing_rules.specs.Unit.{body_name, declared_name}

-- a name more
pub name_added : (x k : Name) (old : Bool) → with_name k true (λ y. old) x ≡ ((same_name x k || false) || old)
name_added x k old = ap (λ b. cond b true old) (same_name_swapped k x) ∙ by_cases (same_name x k)
  where
    by_cases : (b : Bool) → cond b true old ≡ ((b || false) || old)
    by_cases true = refl
    by_cases false = refl

-- with the name of a function that has a body
abbrev pub added : Option Name → (Name → Bool) → Name → Bool
added None f = f
added (Some k) f = with_name k true f

pub body_added : (d : tree.External) (o : Option Name) (old new : Name → Bool) → o ≡ body_name d → new ≡ added o old → (x : Name) → new x ≡ (is_among x (filter_map body_name (d ∷ [])) || old x)
body_added (tree.Function ws h ps is) o old new e more x = ap (λ f. f x) (more ∙ ap (λ p. added p old) e) ∙ name_added x (declared_name h) (old x)
body_added (tree.Declaration at ws ts) o old new e more x = ap (λ f. f x) (more ∙ ap (λ p. added p old) e)
