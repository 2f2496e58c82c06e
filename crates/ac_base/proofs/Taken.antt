-- What a sink took in two calls.
use Rattle.std.proofs.Common.{◌≡◌, ℕ, List, ◌++◌, Option, Some, None, refl, ap}
use Rattle.std.proofs.lemmas.List.{append_assoc}
use Rattle.ac_base.specs.Sink.{grown}

-- grown twice is grown once
pub grown-grown : (told : Option (List ℕ)) (a b : List ℕ) → grown (grown told a) b ≡ grown told (a ++ b)
grown-grown None a b = refl
grown-grown (Some before) a b = ap Some (append_assoc before a b)
