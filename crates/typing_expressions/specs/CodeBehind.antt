-- Lists that are found piece by piece.
use Rattle.std.specs.Prelude.{List, ◌++◌}
use Rattle.typing_rules.specs.Checked.{Judgement, pure, ◌>>=◌}

-- what is found, behind what is there
abbrev pub behind : {A : Type 0} → List A → Judgement (List A) → Judgement (List A)
behind before j = j >>= λ more. pure (before ++ more)
