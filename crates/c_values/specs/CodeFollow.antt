-- Paths that can be followed in a value: at each step there are parts.
use Rattle.std.specs.Prelude.{◌<◌, List, [], ◌∷◌, unwrap_or}
use Rattle.c_values.specs.Value.{Value, Parts, count, part}
use Rattle.c_values.specs.Path.{Step, place_of}

abbrev pub CanFollow : Value → List Step → Type 0
CanFollow v [] = Unit {0}
CanFollow (Parts vs) (p ∷ ps) = (0 < count vs) × CanFollow (part vs (unwrap_or (place_of p (count vs)) 0)) ps
CanFollow _ (p ∷ ps) = ⊥
