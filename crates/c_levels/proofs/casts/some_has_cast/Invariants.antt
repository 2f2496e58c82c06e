-- None so far has one, so the arguments do exactly where those that are left do.
use Rattle.std.proofs.Common.{◌≡◌, map, length}
use Rattle.c_lang.specs.CodeTyped.{expr_of}
use Rattle.c_meaning.specs.Levels.{some_has_cast}
use Rattle.c_levels.proofs.casts.some_has_cast.Given as goal

abbrev pub invariant-rest : goal.invariant-rest
invariant-rest l = some_has_cast (map expr_of l.rest) ≡ some_has_cast (map expr_of l.arguments)

abbrev pub decreases-rest : goal.decreases-rest
decreases-rest l = length l.rest
