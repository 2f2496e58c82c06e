-- What is asked so far.
use Rattle.std.proofs.Common.{◌≡◌, map}
use Rattle.simpl_lang.specs.CodeCommand.{condition_of}
use Rattle.rule_exn.specs.Table.{unless_thrown}
use Rattle.exception_elim.proofs.flags.conditions_unless_thrown.Given as goal

abbrev pub invariant-loop-condition : goal.invariant-loop-condition
invariant-loop-condition l = map condition_of l.asked.items ≡ unless_thrown (map condition_of l.yielded)
