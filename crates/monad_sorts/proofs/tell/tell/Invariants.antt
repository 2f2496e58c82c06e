-- The operand that is left has the expression's scalar.
use Rattle.std.proofs.Common.{◌≡◌, Option}
use Rattle.c_values.specs.Name.{Name}
use Rattle.expression_lang.specs.declared.expression.Exp.{size-Exp}
use Rattle.expression_lang.specs.Sort.{Scalar}
use Rattle.expression_lang.specs.CodeExpression.{exp_of}
use Rattle.monad_sorts.specs.CodeTold.{told}
use Rattle.monad_sorts.specs.CodeInside.{setting_in}
use Rattle.monad_sorts.proofs.tell.tell.Given as goal

abbrev pub invariant-along : goal.invariant-along
invariant-along l =
    (names : Name → Option Scalar) →
    told (setting_in l.setting names).scope (exp_of l.rest) ≡ told (setting_in l.setting names).scope (exp_of l.e)

abbrev pub decreases-along : goal.decreases-along
decreases-along l = size-Exp l.rest
