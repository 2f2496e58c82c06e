-- The levels so far, and then those of the functions that are left.
use Rattle.std.proofs.Common.{◌≡◌, ◌++◌, map, length}
use Rattle.expression_lang.specs.CodeExpression.{level_of}
use Rattle.checking.proofs.levels.levels.Given as goal

abbrev pub invariant-functions : goal.invariant-functions
invariant-functions g l =
    map level_of l.levels.items ++ map g.C.Levelled.at_level l.rest ≡ map g.C.Levelled.at_level l.certificate

abbrev pub decreases-functions : goal.decreases-functions
decreases-functions g l = length l.rest
