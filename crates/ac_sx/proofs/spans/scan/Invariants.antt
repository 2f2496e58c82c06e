-- What has been found and what is left to be found are the parts.
use Rattle.std.proofs.Common.{◌≡◌, ◌++◌, ◌≤◌, drop}
use Rattle.ac_sx.specs.CodeSpans.{scanned_from, scanned}
use Rattle.ac_sx.proofs.spans.scan.Given as goal

abbrev pub invariant-loop-at : goal.invariant-loop-at
invariant-loop-at l = record {
  same : l.parts.items ++ scanned_from l.cursor l.at (drop l.at l.text) ≡ scanned l.text;
  lists : l.cursor.lists ≤ l.at;
  nodes : l.cursor.nodes ≤ l.at;
}
