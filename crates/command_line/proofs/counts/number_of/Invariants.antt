-- The digits behind the number write the whole one.
use Rattle.std.proofs.Common.{◌≡◌, length}
use Rattle.command_line.specs.Words.{with_digits, number_of}
use Rattle.command_line.proofs.Digits.{IsBelow}
use Rattle.command_line.proofs.counts.number_of.Given as goal

abbrev pub invariant-digits : goal.invariant-digits
invariant-digits l = record {
  value : with_digits l.number l.rest ≡ number_of l.word;
  below : IsBelow l.number l.rest;
}

abbrev pub decreases-digits : goal.decreases-digits
decreases-digits l = length l.rest
