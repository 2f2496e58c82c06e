-- What stands shorter in an expression's place is made of it by one step, has its sort, has fewer nodes, and no part that passes a
-- test that no constant passes, where the expression has none.
use Rattle.std.proofs.Common.{◌≡◌, ◌<◌, Bool, false, List, Some, inl, inr}
use Rattle.c_values.specs.Layout.{IsLayout}
use Rattle.expression_lang.specs.Expression.{Exp, TruthLit}
use Rattle.expression_lang.specs.Form.{has}
use Rattle.expression_lang.specs.Sort.{Sort, Scope, sort_of}
use Rattle.ac_expr.specs.Fact.{Fact}
use Rattle.ac_expr.specs.Step.{IsStep}
use Rattle.expression_steps.specs.Rewritten.{nodes}
use Rattle.expression_steps.specs.Shortened.{folded, shorter, shortened}
use Rattle.polish.proofs.Cases.{first_case}
use Rattle.polish.proofs.Folds.{IsConstant, folds, fold_free, fold_sorts, fold_nodes}
use Rattle.polish.proofs.Shorter.{shorter_is, shortens_sorts, shortens_nodes, shortens_free}

pub shortened_steps : (g : Scope) (fs : List Fact) (a b : Exp) → shortened g fs a ≡ Some b → IsStep g fs a b
shortened_steps g fs a b h =
    first_case b (λ r. IsStep g fs a r) (folded g.layout a) (shorter g fs a) h (λ i. inr (folds g.layout a b i))
    (λ i. inl (shorter_is g fs a b i))

pub shortened_sorts : (g : Scope) → IsLayout g.layout → (fs : List Fact) (a b : Exp) → shortened g fs a ≡ Some b → (o : Sort) →
    sort_of g a ≡ Some o → sort_of g b ≡ Some o
shortened_sorts g laid fs a b h o k =
    first_case b (λ r. sort_of g r ≡ Some o) (folded g.layout a) (shorter g fs a) h (λ i. fold_sorts g laid a b i o k)
    (λ i. shortens_sorts g fs a b (shorter_is g fs a b i) o k)

pub shortened_nodes : (g : Scope) (fs : List Fact) (a b : Exp) → shortened g fs a ≡ Some b → nodes b < nodes a
shortened_nodes g fs a b h =
    first_case b (λ r. nodes r < nodes a) (folded g.layout a) (shorter g fs a) h (λ i. fold_nodes g.layout a b i)
    (λ i. shortens_nodes g fs a b (shorter_is g fs a b i))

pub shortened_free : (test : Exp → Bool) → ((e : Exp) → IsConstant e → has test e ≡ false) → (g : Scope) (fs : List Fact)
    (a b : Exp) → shortened g fs a ≡ Some b → has test a ≡ false → has test b ≡ false
shortened_free test constants g fs a b h k =
    first_case b (λ r. has test r ≡ false) (folded g.layout a) (shorter g fs a) h (λ i. fold_free g.layout test constants a b i)
    (λ i. shortens_free test (λ t. constants (TruthLit t) tt) g fs a b (shorter_is g fs a b i) k)
