-- The size is its rule's, and the conversions are noted.
use Rattle.typing_rules.specs.CodeOperand.{operand_of}
use Rattle.typing_rules.specs.Expressions.{size_constant}
use Rattle.typing_rules.specs.Operand.{operand_type, operand_has_cast}
use Rattle.typing_scope.specs.CodeScope.{scope_of}
use Rattle.typing_expressions.proofs.Conversions.{noted_good}
use Rattle.typing_expressions.proofs.noted.size_at.Goals as goal

pub returns : goal.returns
returns c =
    let s = scope_of c.args.scope.now in
    let a = operand_of c.args.operand.now in
    noted_good operand_of c.args.at s (scope_of c.note.new.self) c.size_of_operand.result c.in_ok-size.size (size_constant s.layout (operand_type a)) c.operand_has_cast.result (operand_has_cast a) c.size_of_operand.ensures c.in_ok-size.ensures c.operand_has_cast.ensures c.note.ensures
