-- What is left has the text's first fault.
use Rattle.std.proofs.Common.{◌≡◌, ◌≤◌, drop}
use Rattle.ac_sx.specs.Tree.{deepest}
use Rattle.ac_sx.specs.CodeLine.{reached_from, reached}
use Rattle.ac_sx.proofs.recogniser.reach.Given as goal

abbrev pub invariant-loop-at : goal.invariant-loop-at
invariant-loop-at l = record {
  same : reached_from l.reading l.at (drop l.at l.text) ≡ reached l.text;
  shallow : l.reading.lists ≤ deepest;
}
