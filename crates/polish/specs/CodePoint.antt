-- What the code's points of programs stand for.
use Rattle.std.specs.Prelude.{List, [], map, None}
use Rattle.ac_expr.specs.declared.chain.Facts as F
use Rattle.expression_lang.specs.declared.signatures.Binder as B
use Rattle.expression_lang.specs.Signature.{names_of, kinds_of}
use Rattle.expression_lang.specs.Sorted.{names_with}
use Rattle.expression_lang.specs.CodeSignature.{binder_of}
use Rattle.program_sorts.specs.CodeSorts.{sort_for}
use Rattle.expression_steps.specs.declared.points.Scoped as N
use Rattle.expression_steps.specs.declared.points.Passed as P
use Rattle.expression_steps.specs.CodePoint.{known_in}
use Rattle.given_scalars.specs.declared.unit.Unit as U
use Rattle.given_scalars.specs.CodeScalars.{setting_over, setting_in}
use Rattle.rule_eq.specs.Rule.{Point}
use Rattle.rule_eq.specs.Table.{point}

abbrev pub point_in : U.Unit → N.Scoped → F.Facts P.Passed → Point
point_in u scope fs = point (known_in fs) (setting_in scope u)

-- where a function's program begins
abbrev pub root_point : U.Unit → List B.Binder → Point
root_point u bs =
    point []
    (setting_over u
    (names_with (names_of (map binder_of bs)) (map (sort_for u.phase) (kinds_of (map binder_of bs))) (λ _. None)))
