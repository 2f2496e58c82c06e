-- What is written, and the endings that are left, are the whole.
use Rattle.std.proofs.Common.{◌≡◌, ◌++◌, vec_len}
use Rattle.abs_print.specs.CodeEndings.{endings_text}
use Rattle.abs_print.proofs.endings.push_endings.Given as goal

abbrev pub invariant-back : goal.invariant-back
invariant-back l = l.out.items ++ endings_text l.endings.items ≡ l.initial.out.items ++ endings_text l.initial.endings.items

abbrev pub decreases-back : goal.decreases-back
decreases-back l = vec_len l.endings
