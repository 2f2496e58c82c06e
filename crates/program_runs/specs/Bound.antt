-- Bindings that are put behind others: names with values, as many as there are of both.
use Rattle.std.specs.Prelude.{◌≡◌, List, [], ◌∷◌, ◌++◌, string_bytes}
use Rattle.c_values.specs.Name.{Name}
use Rattle.c_values.specs.Value.{Value}
use Rattle.c_values.specs.CodeValue.{value_of}
use Rattle.expression_lang.specs.CodeState.{Bindings}

abbrev pub AreBound : List Name → List Value → Bindings → Type 0
AreBound (x ∷ xs) (v ∷ vs) (b ∷ bs) = (string_bytes b.0 ≡ x) × (value_of b.1 ≡ v) × AreBound xs vs bs
AreBound (x ∷ xs) (v ∷ vs) [] = ⊥
AreBound [] vs bs = bs ≡ []
AreBound (x ∷ xs) [] bs = bs ≡ []

pub record Extends (old : Bindings) (xs : List Name) (vs : List Value) (new : Bindings) : Type 0 where
  pub more : Bindings
  pub same : new ≡ old ++ more
  pub bound : AreBound xs vs more
