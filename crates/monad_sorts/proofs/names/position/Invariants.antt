-- Those behind what is left have other names, and fewer are left at each turn.
use Rattle.std.proofs.Common.{◌≡◌, List, Option, map, length}
use Rattle.c_values.specs.Name.{Name}
use Rattle.expression_lang.specs.Sort.{Scalar}
use Rattle.monad_sorts.specs.CodeTold.{names_given}
use Rattle.monad_sorts.proofs.names.position.Given as goal

abbrev pub invariant-items : goal.invariant-items
invariant-items g l = (os : List (Option Scalar)) (names : Name → Option Scalar) →
    names_given (map g.T.Named.named l.items) os names l.name ≡ names_given (map g.T.Named.named l.rest) os names l.name

abbrev pub decreases-items : goal.decreases-items
decreases-items g l = length l.rest
