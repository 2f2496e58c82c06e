-- What is known after no part is what was known.
use Rattle.std.proofs.Common.{true, ap, ◌∙◌}
use Rattle.c_values.specs.Number.{least, greatest}
use Rattle.expression_lang.specs.Expression.{Between}
use Rattle.expression_lang.specs.CodeExpression.{exp_of}
use Rattle.expression_steps.specs.CodePoint.{known_in}
use Rattle.expression_steps.specs.Known.{is_known}
use Rattle.expression_steps.proofs.Tested.{integer_tested}
use Rattle.expression_steps.proofs.table_steps.is_integer.Goals as goal

pub returns : goal.returns
returns c =
    integer_tested (known_in c.pass-here.result) (exp_of c.args.number.now) c.args.width c.half-size.result c.new-low.result
    c.new-high.result c.is_known.result c.half-size.ensures.value c.new-low.ensures c.new-high.ensures c.is_known.ensures
    ∙ ap
    (λ fs. is_known fs (Between (least true c.args.width) (exp_of c.args.number.now) (greatest true c.args.width)))
    c.pass-here.ensures.facts
