-- What the code's operands, and what it finds of them on the way, stand for.
use Rattle.std.specs.Prelude.{string_bytes}
use Rattle.c_values.specs.CodeTypes.{int_type_of, type_of}
use Rattle.typing_rules.specs.declared.operands.Operand.{Operand as CodeOperand}
use Rattle.typing_rules.specs.declared.operands.Operand.TheVariants as O
use Rattle.typing_rules.specs.declared.operands.Demand.{Demand as CodeDemand}
use Rattle.typing_rules.specs.declared.operands.Demand.TheVariants as D
use Rattle.typing_rules.specs.declared.operators.Pair.{Pair as CodePair}
use Rattle.typing_rules.specs.declared.operators.Balanced.{Balanced as CodeBalanced}
use Rattle.typing_rules.specs.Operand.{Operand, Valued, Variable, At, Demand, ForValue, ForElement, ForPlace}
use Rattle.typing_rules.specs.Operators.{Pair, Balanced}
use Rattle.c_lang.specs.CodeTyped.{expr_of, place_of}

abbrev pub operand_of : CodeOperand → Operand
operand_of (O.Valued e) = Valued (expr_of e)
operand_of (O.Variable x t) = Variable (string_bytes x) (type_of t)
operand_of (O.At p) = At (place_of p)

abbrev pub demand_of : CodeDemand → Demand
demand_of D.Value = ForValue
demand_of D.Element = ForElement
demand_of D.Place = ForPlace

abbrev pub pair_of : CodePair → Pair
pair_of p = record { type = type_of p.ty; left = expr_of p.left.value; right = expr_of p.right.value }

abbrev pub balanced_of : CodeBalanced → Balanced
balanced_of b = record { type = int_type_of b.ty; left = expr_of b.left.value; right = expr_of b.right.value }
