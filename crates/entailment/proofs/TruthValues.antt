-- Truth values, claims of two sides among them, are well-sorted, and so are the sides; and what is computed of one is its value.
use Rattle.std.proofs.Common.{◌≡◌, ◌↔◌, Bool, true, Option, Some, None, refl, ap}
use Rattle.std.specs.Prelude.{◌&&◌}
use Rattle.std.proofs.lemmas.Bool.{and_parts}
use Rattle.c_values.specs.Value.{Value, Bits, Number, Truth, Parts}
use Rattle.c_values.proofs.Options.{some_is}
use Rattle.expression_lang.specs.Expression.{Exp, WordLit, NumberLit, TruthLit, Le, Eq}
use Rattle.expression_lang.specs.Sort.{Scope, Of, TruthSort, NumberSort, sort_of, is_truth, is_number, are_same, truth_sort}
use Rattle.expression_lang.proofs.Inversion.{truth_inv, where_inv, number_inv, same_inv}
use Rattle.ac_expr.specs.Step.{IsItsValue}
use Rattle.ac_expr.specs.CodeApart.{IsSomeSorted}
use Rattle.ac_expr.specs.CodeConstants.{computed}
use Rattle.ac_expr.proofs.ItsValue.{value_there, no_value}
use Rattle.entailment.specs.declared.sides.Relation.{Relation}
use Rattle.entailment.specs.declared.sides.Relation.TheVariants.{AtMost, Equal}
use Rattle.entailment.specs.CodeSides.{related}
use Rattle.entailment.specs.CodeTruth.{truth_of}

pub truth_sorted : (g : Scope) (e : Exp) → is_truth (sort_of g e) ≡ true → IsSomeSorted g e
truth_sorted g e h = (g.names, Of TruthSort, truth_inv (sort_of g e) h)

pub sides_sorted : (g : Scope) (r : Relation) (a b : Exp) → is_truth (sort_of g (related r a b)) ≡ true → IsSomeSorted g a × IsSomeSorted g b
sides_sorted g AtMost a b h =
    let i = where_inv (is_number (sort_of g a) && is_number (sort_of g b)) truth_sort (Of TruthSort) (truth_inv (sort_of g (Le a b)) h) in
    let j = and_parts (is_number (sort_of g a)) (is_number (sort_of g b)) i.0 in
    ((g.names, Of NumberSort, number_inv (sort_of g a) j.0), (g.names, Of NumberSort, number_inv (sort_of g b) j.1))
sides_sorted g Equal a b h =
    let i = where_inv (are_same (sort_of g a) (sort_of g b)) truth_sort (Of TruthSort) (truth_inv (sort_of g (Eq a b)) h) in
    let j = same_inv (sort_of g a) (sort_of g b) i.0 in
    ((g.names, j.0, j.1), (g.names, j.0, j.2))

-- what is computed of a well-sorted expression
module _ (g : Scope) (e : Exp) (sorted : IsSomeSorted g e) where
  value_by : (b : Bool) (o : Option Value) → computed g.layout e ≡ o → (truth_of o ≡ Some b) ↔ IsItsValue g.layout e (TruthLit b)
  value_by b None h = (λ k. absurd cc, λ k. absurd (no_value g e sorted (TruthLit b) h k))
  value_by b (Some (Truth c)) h =
      let says = value_there g e sorted (TruthLit b) (Truth c) h in
      (λ k. let i : c ≡ b = some_is k in says.0 (ap (λ x. Some (TruthLit x)) i), λ k. let i : TruthLit c ≡ TruthLit b = some_is (says.1 k) in cc)
  value_by b (Some (Bits w)) h =
      let says = value_there g e sorted (TruthLit b) (Bits w) h in
      (λ k. absurd cc, λ k. let i : WordLit w ≡ TruthLit b = some_is (says.1 k) in absurd cc)
  value_by b (Some (Number n)) h =
      let says = value_there g e sorted (TruthLit b) (Number n) h in
      (λ k. absurd cc, λ k. let i : NumberLit n ≡ TruthLit b = some_is (says.1 k) in absurd cc)
  value_by b (Some (Parts vs)) h =
      let says = value_there g e sorted (TruthLit b) (Parts vs) h in
      (λ k. absurd cc, λ k. let i = says.1 k in absurd cc)

  pub value_says : (b : Bool) → (truth_of (computed g.layout e) ≡ Some b) ↔ IsItsValue g.layout e (TruthLit b)
  value_says b = value_by b (computed g.layout e) refl
