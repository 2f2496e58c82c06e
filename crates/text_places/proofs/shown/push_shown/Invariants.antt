-- What stands is what stood, and what is written for the bytes so far.
use Rattle.std.proofs.Common.{◌≡◌, ◌++◌, map, take}
use Rattle.text_places.specs.Shown.{shown}
use Rattle.text_places.proofs.shown.push_shown.Given as goal

abbrev pub invariant-loop-byte : goal.invariant-loop-byte
invariant-loop-byte l = l.lines.items ≡ l.fn.lines.items ++ map shown (take l.byte-index l.bytes)
