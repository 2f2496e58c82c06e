-- What is left of the arguments fits what is left of the parameters if all do.
use Rattle.std.proofs.Common.{◌≡◌, map, length}
use Rattle.expression_lang.specs.Signature.{kinds_of}
use Rattle.expression_lang.specs.Sorted.{scalars_of}
use Rattle.expression_lang.specs.CodeExpression.{exp_of}
use Rattle.expression_lang.specs.CodeSignature.{binder_of}
use Rattle.expression_lang.specs.CodeSort.{scope_by}
use Rattle.program_sorts.specs.Sorts.{may_take}
use Rattle.program_sorts.specs.CodeSorts.{sort_for}
use Rattle.program_sorts.proofs.calls.may_take.Given as goal

abbrev pub invariant-arguments : goal.invariant-arguments
invariant-arguments g l =
    may_take (sort_for l.phase) (kinds_of (map binder_of l.left)) (scalars_of (scope_by l.l (g.N.Scope.scalars l.names) l.globals) (map exp_of l.right))
    ≡ may_take (sort_for l.phase) (kinds_of (map binder_of l.params)) (scalars_of (scope_by l.l (g.N.Scope.scalars l.names) l.globals) (map exp_of l.arguments))

abbrev pub decreases-arguments : goal.decreases-arguments
decreases-arguments g l = length l.left
