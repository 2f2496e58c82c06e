-- An enumerator whose value is written: what it is, once the value is typed.
use Rattle.std.proofs.Common.{◌≡◌, ℕ, ℤ, sym, ap, subst}
use Rattle.std.specs.Prelude.{Result}
use Rattle.c_grammar.specs.Tree as tree
use Rattle.c_values.specs.Name.{Name}
use Rattle.typing_rules.specs.declared.fault.TypeFault.{TypeFault}
use Rattle.typing_rules.specs.CodeAnswers.{Answers}
use Rattle.typing_rules.specs.Checked.{Checked, Good, Judgement, pure, rule, then, declares}
use Rattle.typing_rules.specs.Declarations as D
use Rattle.typing_rules.specs.Expressions as expressions
use Rattle.typing_rules.specs.Expressions.{first, integer_at}
use Rattle.typing_rules.specs.Operand.{Operand, ForValue}
use Rattle.typing_rules.specs.Scope.{Scope}

-- the integer of an operand that is typed
integer_typed : (at : ℕ) (j : Judgement Operand) (a : Operand) (s t : Scope) → j s ≡ Good (a, t) → integer_at at j s ≡ integer_at at (pure a) t
integer_typed at j a s t h = ap (λ c. integer_at at (λ z. c) s) h

-- behind its integer the value's own rule, and then the declaration
abbrev pub valued : ℕ → ℕ → Name → Checked (ℤ × Scope) → Checked (ℤ × Scope)
valued at value_at x c = then c (λ n s. then (rule value_at (D.enumerator_value n) s) (λ m. declares at (D.enumerator x m)))

pub enumerated : {T : Type 0} (view : T → ℤ) (n : ℤ) (at value_at : ℕ) (x y : Name) (e : tree.Exp) (a : Operand) (s t u : Scope) (result : Result T TypeFault) (whole : tree.Enumerator) →
    whole ≡ tree.Explicit at x e → value_at ≡ first e → y ≡ x → expressions.operand ForValue e s ≡ Good (a, t) →
    Answers view u result (valued at value_at y (integer_at value_at (pure a) t)) → Answers view u result (expressions.enumerator n whole s)
enumerated view n at value_at x y e a s t u result whole is begins named typed h =
    subst (λ (w : tree.Enumerator). Answers view u result (expressions.enumerator n w s)) (sym is)
    (subst (λ (c : Checked (ℤ × Scope)). Answers view u result (valued at (first e) x c)) (sym (integer_typed (first e) (expressions.operand ForValue e) a s t typed))
    (subst (λ (k : ℕ). Answers view u result (valued at k x (integer_at k (pure a) t))) begins
    (subst (λ (z : Name). Answers view u result (valued at value_at z (integer_at value_at (pure a) t))) named h)))
