-- What is written, and what is left, is the whole.
use Rattle.std.proofs.Common.{◌≡◌, ◌++◌, map, length}
use Rattle.abs_print.specs.Texts.{each_after}
use Rattle.abs_print.proofs.texts.push_each_after.Given as goal

abbrev pub invariant-parts : goal.invariant-parts
invariant-parts g l = l.out.items ++ each_after l.separator (map g.T.Shown.text l.rest) ≡ l.fn.out.items ++ each_after l.fn.separator (map g.T.Shown.text l.fn.parts)

abbrev pub decreases-parts : goal.decreases-parts
decreases-parts g l = length l.rest
