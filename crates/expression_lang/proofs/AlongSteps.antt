-- One step along a path.
use Rattle.std.proofs.Common.{◌≡◌, ℕ, true, false, Option, Some, None, refl, sym, ap, ◌∙◌}
use Rattle.std.proofs.lemmas.Bool.{cond-true, cond-false}
use Rattle.c_values.specs.Layout.{Shape, Record, Row}
use Rattle.c_values.specs.Path.{Field, Spot, step_spot, member_spot}
use Rattle.expression_lang.specs.Expression.{Exp, Path, IntoField, IntoElement}
use Rattle.expression_lang.specs.Sort.{Scope, shape_along, shape_in, is_number, sort_of}
use Rattle.expression_lang.specs.CodeAlong.{shape_at, element_in}

-- to a member
pub next_field : (g : Scope) (k : ℕ) (path : Path) (s r : Shape) → Some r ≡ shape_at (step_spot s (Field k)) → shape_along g (IntoField k path) s ≡ shape_along g path r
next_field g k path (Record x n align fs) r e = by_member (member_spot fs k) e
  where
    by_member : (o : Option Spot) → Some r ≡ shape_at o → shape_in o (λ s. shape_along g path s) ≡ shape_along g path r
    by_member None h = absurd cc
    by_member (Some q) h = let same : r ≡ q.shape = cc in ap (λ s. shape_along g path s) (sym same)
next_field g k path _ r e = absurd cc

pub no_field : (g : Scope) (k : ℕ) (path : Path) (s : Shape) → None ≡ shape_at (step_spot s (Field k)) → shape_along g (IntoField k path) s ≡ None
no_field g k path (Record x n align fs) e = by_member (member_spot fs k) e
  where
    by_member : (o : Option Spot) → None ≡ shape_at o → shape_in o (λ s. shape_along g path s) ≡ None
    by_member None h = refl
    by_member (Some q) h = absurd cc
no_field _ _ _ _ _ = refl

-- to an element
pub next_element : (g : Scope) (e : Exp) (path : Path) (s r : Shape) → is_number (sort_of g e) ≡ true → Some r ≡ element_in s → shape_along g (IntoElement e path) s ≡ shape_along g path r
next_element g e path (Row s m) r n h =
    let same : r ≡ s = cc in
    cond-true (is_number (sort_of g e)) (shape_along g path s) None n ∙ ap (λ q. shape_along g path q) (sym same)
next_element g e path _ r n h = absurd cc

pub no_element : (g : Scope) (e : Exp) (path : Path) (s : Shape) → None ≡ element_in s → shape_along g (IntoElement e path) s ≡ None
no_element g e path (Row s m) h = absurd cc
no_element _ _ _ _ _ = refl

pub no_number : (g : Scope) (e : Exp) (path : Path) (s : Shape) → is_number (sort_of g e) ≡ false → shape_along g (IntoElement e path) s ≡ None
no_number g e path (Row s m) n = cond-false (is_number (sort_of g e)) (shape_along g path s) None n
no_number _ _ _ _ _ = refl
