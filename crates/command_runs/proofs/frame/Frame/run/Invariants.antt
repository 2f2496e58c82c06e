-- Each end of what is left is an end of the command, and a step leaves less to do.
use Rattle.simpl_lang.specs.CodeCommand.{simpl_of}
use Rattle.command_runs.specs.CodeRun.{machine_in}
use Rattle.command_runs.specs.CodeMachine.{now_of, point, steps_left}
use Rattle.command_runs.proofs.RunLaws.{IsLeft}
use Rattle.command_runs.proofs.frame.Frame.run.Given as goal

abbrev pub invariant-steps : goal.invariant-steps
invariant-steps l = IsLeft l.self (simpl_of l.c) l.turns (machine_in l.self l.fn.locals.items l.fn.state) (point l.stack.items (now_of l.next) l.locals.items l.state)

abbrev pub decreases-steps : goal.decreases-steps
decreases-steps l = steps_left (point l.stack.items (now_of l.next) l.locals.items l.state)
