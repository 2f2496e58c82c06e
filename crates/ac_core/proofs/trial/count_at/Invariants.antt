-- What was counted and what is left are what there is at the level, and no more was counted than was passed.
use Rattle.std.proofs.Common.{◌≡◌, ◌+◌, ◌≤◌, map, length}
use Rattle.expression_lang.specs.CodeExpression.{level_of}
use Rattle.simpl_lang.specs.CodeCommand.{simpl_fn_of}
use Rattle.ac_core.specs.Trial.{count_at}
use Rattle.ac_core.proofs.trial.count_at.Given as goal

abbrev pub invariant-functions : goal.invariant-functions
invariant-functions l =
    (l.count + count_at (level_of l.level) (map simpl_fn_of l.rest) ≡ count_at (level_of l.level) (map simpl_fn_of l.functions))
    × (l.count + length l.rest ≤ length l.functions)

abbrev pub decreases-functions : goal.decreases-functions
decreases-functions l = length l.rest
