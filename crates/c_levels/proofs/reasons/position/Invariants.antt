-- It is looked for among the functions that are left.
use Rattle.std.proofs.Common.{◌≡◌, ◌+◌, map, length}
use Rattle.c_lang.specs.CodeTyped.{function_of}
use Rattle.expression_lang.specs.CodeExpression.{level_of}
use Rattle.c_levels.specs.CodeReason.{position_from}
use Rattle.c_levels.proofs.reasons.position.Given as goal

abbrev pub invariant-functions : goal.invariant-functions
invariant-functions l = record {
  same : position_from l.k (map function_of l.functions) (map level_of l.levels) l.name ≡ position_from 0 (map function_of l.initial.functions) (map level_of l.initial.levels) l.name;
  count : l.k + length l.functions ≡ length l.initial.functions;
}

abbrev pub decreases-functions : goal.decreases-functions
decreases-functions l = length l.functions
