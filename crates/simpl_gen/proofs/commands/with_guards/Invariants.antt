-- The guards that are left, around what has been made, are all of them around the command.
use Rattle.std.proofs.Common.{◌≡◌, map, vec_len}
use Rattle.simpl_lang.specs.CodeCommand.{condition_of, simpl_of}
use Rattle.generation.specs.Generate.{guarded}
use Rattle.simpl_gen.proofs.commands.with_guards.Given as goal

abbrev pub invariant-guards : goal.invariant-guards
invariant-guards l = guarded (map condition_of l.guards.items) (simpl_of l.guarded.value) ≡ guarded (map condition_of l.initial.guards.items) (simpl_of l.initial.guarded.value)

abbrev pub decreases-guards : goal.decreases-guards
decreases-guards l = vec_len l.guards
