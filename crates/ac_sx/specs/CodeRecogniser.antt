-- The recogniser of files, step by step.
use Rattle.std.specs.Prelude.{ℕ, ◌+◌, ◌-◌, ◌==◌, nat_lt, List, [], ◌∷◌, Option, Some, None, Result, Ok, Err, if◌then◌else◌}
use Rattle.ac_sx.specs.declared.recogniser.Place.{Place}
use Rattle.ac_sx.specs.declared.recogniser.Place.TheVariants.{Begin, Opened, Word, Ended, Whole}
use Rattle.ac_sx.specs.declared.recogniser.Reading.{Reading}
use Rattle.ac_sx.specs.declared.fault.SxFault.{SxFault}
use Rattle.ac_sx.specs.declared.fault.SxFault.TheVariants.{NotText, Deep}
use Rattle.ac_sx.specs.Tree.{opening, closing, space, line_end, is_atom_byte, deepest}

abbrev pub reading : Place → ℕ → Reading
reading place lists = record { place = place; lists = lists }

-- what begins a tree
abbrev pub begun : ℕ → ℕ → Option Reading
begun lists b = if b == opening then Some (reading Opened (lists + 1)) else if is_atom_byte b then Some (reading Word lists) else None

-- the end of the innermost list that is open
abbrev pub closed : ℕ → Option Reading
closed lists = if lists == 0 then None else Some (reading Ended (lists - 1))

-- what follows a tree
abbrev pub followed : ℕ → ℕ → Option Reading
followed lists b =
    if b == closing then closed lists
    else if lists == 0 then (if b == line_end then Some (reading Whole 0) else None)
    else if b == space then Some (reading Begin lists) else None

abbrev pub step_at : Place → ℕ → ℕ → Option Reading
step_at Begin lists b = begun lists b
step_at Opened lists b = if b == closing then closed lists else begun lists b
step_at Word lists b = if is_atom_byte b then Some (reading Word lists) else followed lists b
step_at Ended lists b = followed lists b
step_at Whole lists b = None

abbrev pub step : Reading → ℕ → Option Reading
step r b = step_at r.place r.lists b

abbrev pub ended : ℕ → Place → Result (Unit {0}) SxFault
ended at Whole = Ok tt
ended at _ = Err (NotText at)

-- the first fault of what is left of a text, from this offset
abbrev pub recognised_from : Reading → ℕ → List ℕ → Result (Unit {0}) SxFault
recognised_from r at [] = ended at r.place
recognised_from r at (b ∷ bs) = elim (step r b) [
  | None ↦ Err (NotText at)
  | Some next ↦ if nat_lt deepest next.lists then Err (Deep at) else recognised_from next (at + 1) bs
]

abbrev pub recognised : List ℕ → Result (Unit {0}) SxFault
recognised text = recognised_from (reading Begin 0) 0 text
