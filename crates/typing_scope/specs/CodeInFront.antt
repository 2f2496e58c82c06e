-- What is declared in front of a text: nothing.
use Rattle.std.specs.Prelude.{Bool, false, [], ◌∷◌, None}
use Rattle.c_values.specs.Name.{Name}
use Rattle.c_values.specs.Types.{Target}
use Rattle.typing_rules.specs.Scope.{Scope}
use Rattle.typing_rules.specs.Progress.{at_start}

-- in front of a text with these functions that have a body
abbrev pub in_front : Target → (Name → Bool) → Scope
in_front t with_body = record {
  layout = record { target = t; structs = [] };
  tags = λ x. None;
  unnamed = 0;
  typedefs = λ x. None;
  blocks = (λ x. None) ∷ [];
  file = record { with_body = with_body; with_body_so_far = λ x. false; globals = [] };
  progress = at_start [];
  folds_cast = false;
}
