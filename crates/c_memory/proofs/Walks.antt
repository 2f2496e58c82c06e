-- Where the steps of a path lead, one after the other.
use Rattle.std.proofs.Common.{◌≡◌, ℕ, suc, ◌+◌, ◌*◌, ◌/◌, ◌<◌, ◌≤◌, true, arith, ltb, leb, List, ◌∷◌, length, get_or, map, drop, add-one, drop-cons, Option, Some, None, ℤ, pos, refl, sym, ap, ap₂, ◌∙◌}
use Rattle.std.proofs.Math.Nat.{mul-div_cancel_left}
use Rattle.std.proofs.lemmas.Bool.{and_parts, and_from, ltb-true, leb-true, le-leb}
use Rattle.c_values.specs.Types.{CType, Array, Struct}
use Rattle.c_values.specs.Name.{Name}
use Rattle.c_values.specs.Layout.{Layout, IsLayout, Shape, shape_of, size_of, is_complete, is_object, largest_size}
use Rattle.c_values.specs.Path.{Step, Field, Index, Spot, spot, step_spot, and_then_spot, further}
use Rattle.c_values.proofs.Laid.{shape_type}
use Rattle.c_values.proofs.Steps.{to_member, no_element}
use Rattle.c_values.proofs.Options.{some_is}
use Rattle.c_memory.specs.Memory.{address_at}
use Rattle.c_memory.specs.CodePlace.{Place, place_from}
use Rattle.c_memory.proofs.Elements.{address_further}
use Rattle.c_memory.proofs.Objects.{object_complete}

-- a member of an object is an object
pub member_object : (l : Layout) (x : Name) (k o : ℕ) (u : CType) → IsLayout l → is_object l (Struct x) ≡ true →
    step_spot (shape_of l (Struct x)) (Field k) ≡ Some (record { offset = pos o; shape = shape_of l u }) → is_object l u ≡ true
member_object l x k o u h object e = (to_member l x k o u h object e).object

small_element : (n e k : ℕ) → 0 < n → leb (n * e) k ≡ true → leb e k ≡ true
small_element n e k some h = let more : e ≤ n * e = grind arith in le-leb e k (omega (arith, leb-true (n * e) k h))

-- an element of an object is an object
pub element_object : (l : Layout) (u : CType) (n : ℕ) → is_object l (Array u n) ≡ true → is_object l u ≡ true
element_object l u n object =
    let whole = and_parts (is_complete (shape_of l (Array u n))) (leb (size_of l (Array u n)) largest_size) object in
    let part = and_parts (ltb 0 n) (is_complete (shape_of l u)) whole.0 in
    and_from (is_complete (shape_of l u)) (leb (size_of l u) largest_size) part.1 (small_element n (size_of l u) largest_size (ltb-true 0 n part.0) whole.1)

-- an array of an object has an element
pub some_element : (l : Layout) (u : CType) (n : ℕ) → is_object l (Array u n) ≡ true → 0 < n
some_element l u n object =
    let whole = and_parts (is_complete (shape_of l (Array u n))) (leb (size_of l (Array u n)) largest_size) object in
    ltb-true 0 n (and_parts (ltb 0 n) (is_complete (shape_of l u)) whole.0).0

-- the size of an element, from that of the whole
pub element_size : (l : Layout) (u : CType) (n bytes : ℕ) → is_object l (Array u n) ≡ true → bytes ≡ size_of l (Array u n) → bytes / n ≡ size_of l u
element_size l u n bytes object e = ap (λ m. m / n) e ∙ mul-div_cancel_left (size_of l u) (some_element l u n object)

pub struct_elements : (l : Layout) (x : Name) (i : ℤ) → IsLayout l → is_object l (Struct x) ≡ true → step_spot (shape_of l (Struct x)) (Index i) ≡ None
struct_elements l x i h object = no_element (shape_of l (Struct x)) x i (shape_type l h (Struct x) (object_complete l (Struct x) object))

-- the place at the end of a path, from where its first step leads
pub next_place : (space : ℕ) (s : Shape) (a : ℕ) (p : Step) (ps : List Step) (b : ℕ) (r : Shape) → 0 < space →
    place_from space a (step_spot s p) ≡ Some (record { address = b; shape = r }) → place_from space a (spot s (p ∷ ps)) ≡ place_from space b (spot r ps)
next_place space s a p ps b r some h = by_spot (step_spot s p) refl h
  where
    by_rest : (z : ℤ) (o : Option Spot) → place_from space a (further z o) ≡ place_from space (address_at space a z) o
    by_rest z None = refl
    by_rest z (Some q) = ap (λ n. Some (record { address = n; shape = q.shape })) (address_further space a z q.offset some)

    by_spot : (o : Option Spot) → step_spot s p ≡ o → place_from space a o ≡ Some (record { address = b; shape = r }) → place_from space a (and_then_spot o (λ q. further q.offset (spot q.shape ps))) ≡ place_from space b (spot r ps)
    by_spot None e k = absurd cc
    by_spot (Some q) e k =
        let same : ◌≡◌ {A = Place} (record { address = address_at space a q.offset; shape = q.shape }) (record { address = b; shape = r }) = some_is k in
        let at : address_at space a q.offset ≡ b = ap (λ p. p.address) same in
        let is : q.shape ≡ r = ap (λ p. p.shape) same in
        by_rest q.offset (spot q.shape ps) ∙ ap₂ (λ n t. place_from space n (spot t ps)) at is

-- a path whose first step leads nowhere
pub no_place : (space : ℕ) (s : Shape) (a : ℕ) (p : Step) (ps : List Step) → place_from space a (step_spot s p) ≡ None → place_from space a (spot s (p ∷ ps)) ≡ None
no_place space s a p ps h = by_spot (step_spot s p) h
  where
    by_spot : (o : Option Spot) → place_from space a o ≡ None → place_from space a (and_then_spot o (λ q. further q.offset (spot q.shape ps))) ≡ None
    by_spot None k = refl
    by_spot (Some q) k = absurd cc

-- the paths of a list of steps, and of the rest after one
pub next_steps : {A B : Type 0} (f : A → B) (xs : List A) (i : ℕ) (x : A) → i < length xs → x ≡ get_or xs i x → map f (drop i xs) ≡ f x ∷ map f (drop (i + 1) xs)
next_steps f xs i x lt e =
    let split : drop i xs ≡ x ∷ drop (i + 1) xs = rw (add-one, drop-cons xs i x) (ap (λ y. y ∷ drop (suc i) xs) (sym e)) in
    ap (λ ys. map f ys) split
