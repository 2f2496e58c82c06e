-- No function before has the name.
use Rattle.std.proofs.Common.{◌≡◌, length, map}
use Rattle.simpl_lang.specs.Command.{simpl_fn}
use Rattle.simpl_lang.specs.CodeCommand.{simpl_fn_of}
use Rattle.command_runs.proofs.functions.function_in.Given as goal

abbrev pub invariant-functions : goal.invariant-functions
invariant-functions l = simpl_fn (map simpl_fn_of l.rest) l.name ≡ simpl_fn (map simpl_fn_of l.functions) l.name

abbrev pub decreases-functions : goal.decreases-functions
decreases-functions l = length l.rest
