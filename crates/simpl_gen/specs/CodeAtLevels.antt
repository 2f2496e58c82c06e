-- What is made of each function at the level that stands at its position.
use Rattle.std.specs.Prelude.{List, [], ◌∷◌}
use Rattle.expression_lang.specs.Sort.{Level}
use Rattle.c_lang.specs.Typed.{TypedFn}

abbrev pub at_levels : {A : Type 0} → (Level → TypedFn → A) → List TypedFn → List Level → List A
at_levels make [] ks = []
at_levels make (f ∷ fs) [] = []
at_levels make (f ∷ fs) (k ∷ ks) = make k f ∷ at_levels make fs ks
