-- Shapes along paths, and steps, one more at a time.
use Rattle.std.proofs.Common.{◌≡◌, Bool, true, false, if◌then◌else◌, Option, Some, None, refl}
use Rattle.std.specs.Prelude.{IsSome}
use Rattle.c_values.specs.Layout.{Shape, Incomplete, Scalar as WordShape, Record, Row}
use Rattle.c_values.specs.Path.{Spot, member_spot}
use Rattle.expression_lang.specs.Expression.{Exp, Path, IntoField, IntoElement}
use Rattle.expression_lang.specs.Sort.{Sort, Scope, sort_of, shape_in, shape_along, is_number}

none_leads : {P : Type 0} {q : Shape} → ◌≡◌ {A = Option Shape} None (Some q) → P
none_leads h = cc

number_there : (o : Option Sort) → is_number o ≡ true → IsSome o
number_there (Some s) h = refl
number_there None h = absurd cc

member_some : (o : Option Spot) (f : Shape → Option Shape) (q : Shape) → shape_in o f ≡ Some q → (s : Shape) × (f s ≡ Some q)
member_some (Some p) f q h = (p.shape, h)
member_some None f q h = none_leads h

element_some : (b : Bool) (o : Option Shape) (q : Shape) → (if b then o else None) ≡ Some q → (b ≡ true) × (o ≡ Some q)
element_some true o q h = (refl, h)
element_some false o q h = none_leads h

module _ (g : Scope) where
  pub leads_field : (k : _) (path : Path) (r q : Shape) → shape_along g (IntoField k path) r ≡ Some q → (s : Shape) × (t : Shape) × (shape_along g path s ≡ Some t)
  leads_field k path Incomplete q h = none_leads h
  leads_field k path (WordShape t n) q h = none_leads h
  leads_field k path (Row s n) q h = none_leads h
  leads_field k path (Record x n align fs) q h = let m = member_some (member_spot fs k) (λ s. shape_along g path s) q h in (m.0, q, m.1)

  pub leads_element : (e : Exp) (path : Path) (r q : Shape) → shape_along g (IntoElement e path) r ≡ Some q → IsSome (sort_of g e) × (s : Shape) × (t : Shape) × (shape_along g path s ≡ Some t)
  leads_element e path Incomplete q h = none_leads h
  leads_element e path (WordShape t n) q h = none_leads h
  leads_element e path (Record x n align fs) q h = none_leads h
  leads_element e path (Row s n) q h = let m = element_some (is_number (sort_of g e)) (shape_along g path s) q h in (number_there (sort_of g e) m.0, s, q, m.1)
