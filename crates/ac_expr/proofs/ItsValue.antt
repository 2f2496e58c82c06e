-- Whether an expression of constants alone has the value that another one is.
use Rattle.std.proofs.Common.{◌≡◌, ◌↔◌, Option, Some, None, sym, ap, ◌∙◌}
use Rattle.c_values.specs.Value.{Value}
use Rattle.expression_lang.specs.Expression.{Exp}
use Rattle.expression_lang.specs.Sort.{Scope}
use Rattle.ac_expr.specs.Step.{constant, IsItsValue}
use Rattle.ac_expr.specs.CodeApart.{IsSomeSorted, with_names}
use Rattle.ac_expr.specs.CodeConstants.{computed}
use Rattle.ac_expr.proofs.ConstantsSound.{right}
use Rattle.ac_expr.proofs.ConstantsComplete.{complete}

module _ (g : Scope) (a : Exp) (sorted : IsSomeSorted g a) where
  pub value_there : (b : Exp) (v : Value) → computed g.layout a ≡ Some v → (constant v ≡ Some b) ↔ IsItsValue g.layout a b
  value_there b v h =
      let x = right g.layout a v h in (
        λ e. (x.constants, ap constant x.value ∙ e),
        λ k. sym (ap constant x.value) ∙ k.1,
      )

  pub no_value : (b : Exp) → computed g.layout a ≡ None → IsItsValue g.layout a b → ⊥
  no_value b h k =
      let x = complete (with_names sorted.0 g) a sorted.1 sorted.2 k.0 in
      let e : ◌≡◌ {A = Option Value} None (Some x.value) = sym h ∙ x.is in cc
