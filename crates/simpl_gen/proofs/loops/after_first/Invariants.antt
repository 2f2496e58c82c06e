-- The conditions so far don't stand in front of the first turn.
use Rattle.std.proofs.Common.{◌≡◌, map}
use Rattle.simpl_lang.specs.CodeCommand.{condition_of}
use Rattle.generation.specs.Generate.{after_first}
use Rattle.simpl_gen.proofs.loops.after_first.Given as goal

abbrev pub invariant-loop-guard : goal.invariant-loop-guard
invariant-loop-guard l = map condition_of l.later.items ≡ after_first l.n (map condition_of l.yielded)
