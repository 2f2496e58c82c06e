-- What the kernel's answers stand for.
use Rattle.std.specs.Prelude.{ℕ, Result, Ok, Err}
use Rattle.rule_trees.specs.declared.numbers.At as A

abbrev pub verdict_of : Result (Unit {0}) A.At → Result (Unit {0}) ℕ
verdict_of (Ok done) = Ok done
verdict_of (Err at) = Err at.0
