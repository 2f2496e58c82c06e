-- What is made words is of the shape.
use Rattle.std.proofs.Common.{◌≡◌, ℕ, zero, suc, true}
use Rattle.std.specs.Prelude.{replicate}
use Rattle.std.proofs.lemmas.Bool.{and_parts}
use Rattle.c_values.specs.Types.{Target}
use Rattle.c_values.specs.Layout.{Shape, Scalar, Record, Row, Fields, no_fields, field}
use Rattle.c_values.specs.Path.{HasShape, AreMembers, AreElements}
use Rattle.c_values.specs.Value.{Value, Values, Bits, Number, Parts, no_values, more}
use Rattle.expression_lang.proofs.Filled.{word_fits}
use Rattle.memory_text.specs.ValueText.{shapes_in, is_value, are_values}
use Rattle.run_start.specs.Start.{as_words, all_as_words}

mutual
  pub value_shaped : (g : Target) (s : Shape) (v : Value) → is_value g s v ≡ true → HasShape s (as_words s v)
  value_shaped g (Scalar t width) (Number n) is = word_fits width n
  value_shaped g (Record x bytes align fs) (Parts vs) is = members_shaped g fs vs is
  value_shaped g (Row e n) (Parts vs) is = elements_shaped g e n vs is
  value_shaped g s (Bits w) is = absurd cc
  value_shaped g _ _ is = absurd cc

  members_shaped : (g : Target) (fs : Fields) (vs : Values) → are_values g (shapes_in fs) vs ≡ true → AreMembers fs (all_as_words (shapes_in fs) vs)
  members_shaped g no_fields no_values is = tt
  members_shaped g (field offset s fs) (more v vs) is =
      let p = and_parts (is_value g s v) (are_values g (shapes_in fs) vs) is in
      (value_shaped g s v p.0, members_shaped g fs vs p.1)
  members_shaped g _ _ is = absurd cc

  elements_shaped : (g : Target) (e : Shape) (n : ℕ) (vs : Values) → are_values g (replicate n e) vs ≡ true → AreElements (λ w. HasShape e w) n (all_as_words (replicate n e) vs)
  elements_shaped g e zero no_values is = tt
  elements_shaped g e (suc n) (more v vs) is =
      let p = and_parts (is_value g e v) (are_values g (replicate n e) vs) is in
      (value_shaped g e v p.0, elements_shaped g e n vs p.1)
  elements_shaped g e _ _ is = absurd cc
