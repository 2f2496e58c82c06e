-- The parts of an object that paths lead to are objects, each with the shape of its type.
use Rattle.std.proofs.Common.{◌≡◌, ℕ, ◌+◌, ◌*◌, ◌<◌, ◌≤◌, ◌==◌, Bool, true, false, cond, ◌&&◌, leb, Option, Some, None, refl, sym, ap, ◌∙◌, subst, arith}
use Rattle.std.proofs.lemmas.Bool.{leb-true, le-leb}
use Rattle.c_values.specs.Name.{Name}
use Rattle.c_values.specs.Types.{CType}
use Rattle.c_values.specs.Layout.{Layout, IsLayout, Shape, Record, Row, Fields, type_of, size, size_of, shape_of, is_object, is_complete, largest_size}
use Rattle.c_values.proofs.Laid.{IsGood, structs_of, shape_good, shape_type}
use Rattle.c_values.proofs.Geometry.{nth_within}
use Rattle.c_values.proofs.Parts.{formed_complete, nth_laid, laid_shape}
use Rattle.c_lang.specs.Typed as C
use Rattle.c_lang.specs.WellTyped.{member_shape, shape_along}
use Rattle.c_lang.proofs.Paths.{nth_member, none_along}
use Rattle.typing_laws.proofs.Tests.{both, left, right, none_some, some_same}

-- a shape that the layout gives its type, which is an object
pub record IsOwn (l : Layout) (s : Shape) : Type 0 where
  pub own : shape_of l (type_of s) ≡ s
  pub object : is_object l (type_of s) ≡ true

abbrev IsSmall : Shape → Type 0
IsSmall s = (is_complete s && leb (size s) largest_size) ≡ true

small_own : (l : Layout) (s : Shape) → IsOwn l s → IsSmall s
small_own l s h = subst IsSmall h.own h.object

own_from : (l : Layout) (s : Shape) → shape_of l (type_of s) ≡ s → IsSmall s → IsOwn l s
own_from l s e h = record { own = e; object = subst IsSmall (sym e) h }

pub own_complete : (l : Layout) (s : Shape) → IsOwn l s → is_complete s ≡ true
own_complete l s h = left (is_complete s) (leb (size s) largest_size) (small_own l s h)

pub object_complete : (l : Layout) (t : CType) → is_object l t ≡ true → is_complete (shape_of l t) ≡ true
object_complete l t h = left (is_complete (shape_of l t)) (leb (size_of l t) largest_size) h

pub object_type : (l : Layout) (t : CType) → IsLayout l → is_object l t ≡ true → type_of (shape_of l t) ≡ t
object_type l t h o = shape_type l h t (object_complete l t o)

pub object_own : (l : Layout) (t : CType) → IsLayout l → is_object l t ≡ true → IsOwn l (shape_of l t)
object_own l t h o = let e = object_type l t h o in record { own = ap (shape_of l) e; object = subst (λ u. is_object l u ≡ true) (sym e) o }

pub own_object : (l : Layout) (t : CType) → IsLayout l → IsOwn l (shape_of l t) → is_object l t ≡ true
own_object l t h o = subst (λ u. is_object l u ≡ true) (shape_type l h t (own_complete l (shape_of l t) o)) o.object

own_good : (l : Layout) (s : Shape) → IsLayout l → IsOwn l s → IsGood l.target (structs_of l) s
own_good l s h o = subst (IsGood l.target (structs_of l)) o.own (shape_good l h (type_of s) (object_complete l (type_of s) o.object))

smaller : (a m n k : ℕ) → leb n k ≡ true → a + m ≤ n → leb m k ≡ true
smaller a m n k h le = le-leb m k (omega (arith, leb-true n k h, le))

-- a member
pub member_own : (l : Layout) (x : Name) (n align : ℕ) (fs : Fields) (k : ℕ) (s : Shape) → IsLayout l → IsOwn l (Record x n align fs) →
    member_shape fs k ≡ Some s → IsOwn l s
member_own l x n align fs k s h o e =
    let g = own_good l (Record x n align fs) h o in
    let m = nth_member fs k s e in
    let w = (nth_within align n 0 g.formed.members m.1).0 in
    let fits = right (is_complete (Record x n align fs)) (leb n largest_size) (small_own l (Record x n align fs) o) in
    own_from l s (laid_shape l.target (structs_of l) s (nth_laid l.target (structs_of l) g.laid.members m.1))
    (both (formed_complete s w.formed) (smaller m.0 (size s) n largest_size fits w.ends))

element_within : (n e : ℕ) → 0 < n → 0 + e ≤ n * e
element_within n e h = grind arith

-- an element
pub element_own : (l : Layout) (e : Shape) (n : ℕ) → IsLayout l → IsOwn l (Row e n) → IsOwn l e
element_own l e n h o =
    let g = own_good l (Row e n) h o in
    let fits = right (is_complete (Row e n)) (leb (n * size e) largest_size) (small_own l (Row e n) o) in
    own_from l e (laid_shape l.target (structs_of l) e g.laid)
    (both (formed_complete e g.formed.element) (smaller 0 (size e) (n * size e) largest_size fits (element_within n (size e) g.formed.some)))

pub along_some : {P : Type 0} (o : Option Shape) (path : C.Path) (t : Shape) → shape_along o path ≡ Some t → ((s : Shape) → o ≡ Some s → shape_along (Some s) path ≡ Some t → P) → P
along_some None path t h k = absurd (none_some (sym (none_along path) ∙ h))
along_some (Some s) path t h k = k s refl h

pub if_some : {P : Type 0} (b : Bool) (o : Option Shape) (t : Shape) → cond b o None ≡ Some t → (b ≡ true → o ≡ Some t → P) → P
if_some true o t h k = k refl h
if_some false o t h k = absurd (none_some h)

-- what a path leads to in an object
pub along_own : (l : Layout) (s : Shape) (path : C.Path) (t : Shape) → IsLayout l → IsOwn l s → shape_along (Some s) path ≡ Some t → IsOwn l t
along_own l s C.Here t h o e = subst (IsOwn l) (some_same e) o
along_own l (Record x n align fs) (C.Member k path) t h o e =
    along_some (member_shape fs k) path t e (λ s c r. along_own l s path t h (member_own l x n align fs k s h o c) r)
along_own l (Row u m) (C.Element n i path) t h o e =
    if_some (n == m) (shape_along (Some u) path) t e (λ same r. along_own l u path t h (element_own l u m h o) r)
along_own _ _ _ _ _ _ e = absurd (none_some e)
