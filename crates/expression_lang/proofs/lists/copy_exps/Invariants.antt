-- What is copied so far.
use Rattle.std.proofs.Common.{◌≡◌, map, take}
use Rattle.expression_lang.specs.CodeExpression.{exp_of}
use Rattle.expression_lang.proofs.lists.copy_exps.Given as goal

abbrev pub invariant-loop-exp : goal.invariant-loop-exp
invariant-loop-exp l = map exp_of l.copies.items ≡ map exp_of (take l.exp-index l.exps)
