-- Assignments and calls as statements (C99 6.5.16, 6.5.2.4, 6.5.3.1, 6.8.3): a compound one is the operation and an assignment.
use Rattle.std.specs.Prelude.{pos}
use Rattle.c_values.specs.Types.{Int}
use Rattle.c_grammar.specs.Tree as tree
use Rattle.c_grammar.specs.declared.operator.BinaryOperator.{BinaryOperator}
use Rattle.c_grammar.specs.declared.operator.BinaryOperator.TheVariants.{Add, Subtract}
use Rattle.c_grammar.specs.declared.operator.StepOperator.{StepOperator}
use Rattle.c_grammar.specs.declared.operator.StepOperator.TheVariants.{Increment, Decrement}
use Rattle.typing_rules.specs.Checked.{Judgement, pure, ◌>>=◌, Ruling, Ruled, ◌>=>◌, rule}
use Rattle.typing_rules.specs.Scope.{Scope}
use Rattle.typing_rules.specs.Operand.{Operand, destination}
use Rattle.typing_rules.specs.Operators.{binary, converted}
use Rattle.typing_rules.specs.Expressions.{first, place, value}
use Rattle.typing_rules.specs.Calls.{Right, right, call, assigned, calls_for, ignored}
use Rattle.c_lang.specs.Typed as C

abbrev pub assignment : Operand → Right → Scope → Ruling C.Statement
assignment o r s = destination o >=> λ d. assigned s.layout d r

-- what lies at what is assigned
abbrev pub value_at : C.Destination → C.Expr
value_at (C.ToLocal x t) = C.Local x t
value_at (C.ToPlace p) = C.Value p

-- `e op= x` is `e = e op x`
abbrev pub update : BinaryOperator → Operand → C.Expr → Scope → Ruling C.Statement
update op o a s =
    destination o >=> λ d.
    binary s.layout op (value_at d) a >=> λ e.
    converted s.layout (C.target_type d) e >=> λ b.
    Ruled (C.Assign d b)

-- `e++` is `e = e + 1`
abbrev pub step : StepOperator → Operand → Scope → Ruling C.Statement
step Increment o s = update Add o (C.Constant Int (pos 1)) s
step Decrement o s = update Subtract o (C.Constant Int (pos 1)) s

abbrev pub simple : tree.Simple → Judgement C.Statement
simple (tree.Assign e r) = place e >>= λ o. right r >>= λ a. rule (first e) (assignment o a)
simple (tree.Update op e x) = place e >>= λ o. value x >>= λ a. rule (first e) (update op o a)
simple (tree.After op e) = place e >>= λ o. rule (first e) (step op o)
simple (tree.Before at op e) = place e >>= λ o. rule at (step op o)
simple (tree.Invoke c) = call c >>= λ d. pure (calls_for d (ignored d.result))
