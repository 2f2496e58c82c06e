-- Assignments and calls as statements.
use Rattle.std.proofs.Common.{◌≡◌, true, pos, arith}
use Rattle.c_values.specs.Types.{Int}
use Rattle.c_grammar.specs.Tree as tree
use Rattle.c_grammar.specs.declared.operator.BinaryOperator.{BinaryOperator}
use Rattle.c_grammar.specs.declared.operator.BinaryOperator.TheVariants.{Add, Subtract}
use Rattle.c_grammar.specs.declared.operator.StepOperator.{StepOperator}
use Rattle.c_grammar.specs.declared.operator.StepOperator.TheVariants.{Increment, Decrement}
use Rattle.typing_rules.specs.Scope.{Scope}
use Rattle.typing_rules.specs.Operand.{Operand, ForPlace, destination}
use Rattle.typing_rules.specs.Operators.{binary, converted}
use Rattle.typing_rules.specs.Expressions.{first, place, value}
use Rattle.typing_rules.specs.Calls.{Right, right, call, calls_for, ignored}
use Rattle.typing_rules.specs.Simple.{assignment, value_at, update, step, simple}
use Rattle.c_lang.specs.Typed as C
use Rattle.c_lang.specs.WellTyped.{is_typed_target}
use Rattle.c_lang.specs.WellTyped as W
use Rattle.typing_laws.specs.Written.{IsSimple}
use Rattle.typing_laws.proofs.Tests.{both}
use Rattle.typing_laws.proofs.Rulings.{Rules, ruled, rules_then}
use Rattle.typing_laws.proofs.Integers.{small_is_int}
use Rattle.typing_laws.proofs.Operators.{IsTyped}
use Rattle.typing_laws.proofs.Binary.{binary_typed, converted_typed}
use Rattle.typing_laws.proofs.Expressions.{IsOperand, destination_typed}
use Rattle.typing_laws.proofs.Scopes.{Variables}
use Rattle.typing_laws.proofs.Later.{IsWithin, within_before}
use Rattle.typing_laws.proofs.Steps.{Judges, reach_then, reach_pure, reach_rule}
use Rattle.typing_laws.proofs.Operands.{operand_typed, value_reached}
use Rattle.typing_laws.proofs.Calls.{IsPlain, IsRight, call_typed, call_reached, right_reached, ignored_typed, assigned_typed}

assignment_typed : (g : W.Scope) (o : Operand) (r : Right) (s : Scope) → IsOperand g o → IsRight g r → Rules (IsPlain g) (assignment o r s)
assignment_typed g o r s h k = rules_then (destination o) _ (destination_typed g o h) (λ d m. assigned_typed g s.layout d r m k)

at_target : (g : W.Scope) (d : C.Destination) → is_typed_target g d ≡ true → IsTyped g (value_at d)
at_target g (C.ToLocal x t) h = h
at_target g (C.ToPlace p) h = h

update_typed : (V : Variables) (g : W.Scope) (op : BinaryOperator) (o : Operand) (e : C.Expr) (s : Scope) → IsWithin V s g → IsOperand g o → IsTyped g e → Rules (IsPlain g) (update op o e s)
update_typed V g op o e s w h k =
    rules_then (destination o) _ (destination_typed g o h) (λ d m.
    rules_then (binary s.layout op (value_at d) e) _ (binary_typed g s.layout w.grown (value_at d) e (at_target g d m) k op) (λ a n.
    rules_then (converted s.layout (C.target_type d) a) _ (converted_typed g a n s.layout (C.target_type d)) (λ b q. ruled (λ r. both m q))))

one : (g : W.Scope) → IsTyped g (C.Constant Int (pos 1))
one g = small_is_int g.layout.target 1 (omega arith)

step_typed : (V : Variables) (g : W.Scope) (op : StepOperator) (o : Operand) (s : Scope) → IsWithin V s g → IsOperand g o → Rules (IsPlain g) (step op o s)
step_typed V g Increment o s w h = update_typed V g Add o (C.Constant Int (pos 1)) s w h (one g)
step_typed V g Decrement o s w h = update_typed V g Subtract o (C.Constant Int (pos 1)) s w h (one g)

pub simple_reached : (V : Variables) (a : tree.Simple) → IsSimple a → Judges V IsPlain (simple a)
simple_reached V (tree.Assign e r) i s h =
    reach_then (place e s) _ (operand_typed V ForPlace e i.0 s h) (λ o t k.
    reach_then (right r t) _ (right_reached V r i.1 t k.fits) (λ a u m.
    reach_rule (first e) u (assignment o a u) m.fits (λ g w. assignment_typed g o a u (k.typed g (within_before m.later w)) (m.typed g w))))
simple_reached V (tree.Update op e x) i s h =
    reach_then (place e s) _ (operand_typed V ForPlace e i.0 s h) (λ o t k.
    reach_then (value x t) _ (value_reached V x i.1 t k.fits) (λ a u m.
    reach_rule (first e) u (update op o a u) m.fits (λ g w. update_typed V g op o a u w (k.typed g (within_before m.later w)) (m.typed g w))))
simple_reached V (tree.After op e) i s h =
    reach_then (place e s) _ (operand_typed V ForPlace e i s h) (λ o t k. reach_rule (first e) t (step op o t) k.fits (λ g w. step_typed V g op o t w (k.typed g w)))
simple_reached V (tree.Before at op e) i s h =
    reach_then (place e s) _ (operand_typed V ForPlace e i s h) (λ o t k. reach_rule at t (step op o t) k.fits (λ g w. step_typed V g op o t w (k.typed g w)))
simple_reached V (tree.Invoke c) i s h =
    reach_then (call c s) _ (call_reached V c i s h) (λ d t k.
    reach_pure t (calls_for d (ignored d.result)) k.fits (λ g w. call_typed g d (ignored d.result) (k.typed g w) (ignored_typed g d.result)))
