-- The answer to a cast, where its type and its operand are typed, is that of its rule.
use Rattle.std.proofs.Common.{◌≡◌, ℕ, List, length, sym, subst, ◌∙◌}
use Rattle.std.specs.Prelude.{Result}
use Rattle.c_grammar.specs.Tree as tree
use Rattle.c_values.specs.Types.{CType}
use Rattle.typing_rules.specs.declared.fault.TypeFault.{TypeFault}
use Rattle.typing_rules.specs.declared.operands.Operand.{Operand as CodeOperand}
use Rattle.typing_rules.specs.CodeAnswers.{Answers}
use Rattle.typing_rules.specs.Checked.{Good, pure, rule, ◌>>=◌}
use Rattle.typing_rules.specs.CodeOperand.{operand_of}
use Rattle.typing_rules.specs.Declarations.{Base}
use Rattle.typing_rules.specs.Expressions.{base, operand, starred, taken, type_name, valued, words_start}
use Rattle.typing_rules.specs.Operand.{Operand, Demand, ForValue, value_in}
use Rattle.typing_rules.specs.Operators.{cast}
use Rattle.typing_rules.specs.Scope.{Scope}
use Rattle.typing_expressions.proofs.Steps.{answers_behind, behind_good}

-- a type by its words and its stars
pub type_typed : (ws : tree.Words) (stars : List ℕ) (n : ℕ) (b : Base) (t : CType) (s u : Scope) → base ws s ≡ Good (b, u) → n ≡ length stars → rule (words_start ws) (λ v. starred n b.type) u ≡ Good (t, u) → type_name (tree.Typed ws stars) s ≡ Good (t, u)
type_typed ws stars n b t s u typed same around =
    behind_good (base ws s) b u (λ c. rule (words_start ws) (λ v. starred (length stars) c.type)) typed ∙ subst (λ k. rule (words_start ws) (λ v. starred k b.type) u ≡ Good (t, u)) same around

pub cast_answers : (d : Demand) (x : tree.Exp) (at : ℕ) (ws : tree.Words) (stars : List ℕ) (e : tree.Exp) (t : CType) (a : Operand) (s u v : Scope) (result : Result CodeOperand TypeFault) → x ≡ tree.Cast at (tree.Typed ws stars) e → type_name (tree.Typed ws stars) s ≡ Good (t, u) → operand ForValue e u ≡ Good (a, v) → Answers operand_of v result (rule at (λ w. valued (cast w.layout t (value_in a))) v) → Answers operand_of v result (operand d x s)
cast_answers d x at ws stars e t a s u v result is typed inner answer =
    subst (λ y. Answers operand_of v result (operand d y s)) (sym is)
    (answers_behind operand_of v result (type_name (tree.Typed ws stars) s) t u (λ w. taken (operand ForValue e) >>= λ y. rule at (λ z. valued (cast z.layout w y))) typed
    (answers_behind operand_of v result (taken (operand ForValue e) u) (value_in a) v (λ y. rule at (λ z. valued (cast z.layout t y)))
    (behind_good (operand ForValue e u) a v (λ y. pure (value_in y)) inner) answer))
