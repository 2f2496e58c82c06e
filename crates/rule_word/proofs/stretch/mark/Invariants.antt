-- What is left of a name leads on to its mark.
use Rattle.std.proofs.Common.{◌≡◌, ◌<◌, length}
use Rattle.rule_word.specs.CodeStretch.{mark, mark_from}
use Rattle.rule_word.proofs.stretch.mark.Given as goal

abbrev pub invariant-bytes : goal.invariant-bytes
invariant-bytes l = record {
  leads : mark_from l.found l.rest ≡ mark l.name;
  few : l.found < 64;
}

abbrev pub decreases-bytes : goal.decreases-bytes
decreases-bytes l = length l.rest
