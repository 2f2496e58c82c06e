-- What is made so far, before the zeros that are left, is all.
use Rattle.std.proofs.Common.{◌≡◌, true, List, Some, length, map, string_bytes}
use Rattle.expression_lang.specs.Expression.{Exp}
use Rattle.expression_lang.specs.CodeExpression.{exp_of}
use Rattle.expression_lang.specs.CodeSignature.{binder_of}
use Rattle.expression_lang.specs.Signature.{kinds_of}
use Rattle.expression_lang.specs.Sort.{are_kinds}
use Rattle.rule_local.specs.Table.{zeros}
use Rattle.local_lift.proofs.ZeroLaws.{ZerosSo}
use Rattle.local_lift.proofs.translation.zeros.Given as goal

abbrev pub invariant-along : goal.invariant-along
invariant-along l = (es : List Exp) → zeros (map binder_of l.locals) (map string_bytes l.names) ≡ Some es → are_kinds (kinds_of (map binder_of l.locals)) ≡ true →
    ZerosSo (map binder_of l.locals) (map string_bytes l.rest) (map exp_of l.exps.items) es

abbrev pub decreases-along : goal.decreases-along
decreases-along l = length l.rest
