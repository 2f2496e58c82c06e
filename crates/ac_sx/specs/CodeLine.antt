-- Where the recogniser is behind a text, or the first fault that it met there.
use Rattle.std.specs.Prelude.{ℕ, ◌+◌, nat_lt, List, [], ◌∷◌, None, Some, Result, Ok, Err, if◌then◌else◌}
use Rattle.ac_sx.specs.declared.recogniser.Place.TheVariants.{Begin}
use Rattle.ac_sx.specs.declared.recogniser.Reading.{Reading}
use Rattle.ac_sx.specs.declared.fault.SxFault.{SxFault}
use Rattle.ac_sx.specs.declared.fault.SxFault.TheVariants.{NotText, Deep}
use Rattle.ac_sx.specs.Tree.{deepest}
use Rattle.ac_sx.specs.CodeRecogniser.{reading, step}

abbrev pub reached_from : Reading → ℕ → List ℕ → Result Reading SxFault
reached_from r at [] = Ok r
reached_from r at (b ∷ bs) = elim (step r b) [
  | None ↦ Err (NotText at)
  | Some next ↦ if nat_lt deepest next.lists then Err (Deep at) else reached_from next (at + 1) bs
]

abbrev pub reached : List ℕ → Result Reading SxFault
reached text = reached_from (reading Begin 0) 0 text
