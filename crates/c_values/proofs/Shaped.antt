-- A value of a shape stays one where a part is replaced by a value of the part's shape, and the part read there then is
-- the new one.
use Rattle.std.proofs.Common.{◌≡◌, ℕ, zero, suc, ◌<◌, nat_lt, List, ◌∷◌, Some, None, unwrap_or, pos, refl, sym, ap, subst, arith, lt-ltb}
use Rattle.std.proofs.lemmas.Bool.{cond-true}
use Rattle.c_values.specs.Value.{Value, Values, Parts, no_values, more, count, part, with_part}
use Rattle.c_values.specs.Layout.{Shape, Record, Row, Fields}
use Rattle.c_values.specs.Path.{Step, Field, Index, place_of, with_changed, sel, upd, HasShape, AreMembers, AreElements, copies}
use Rattle.c_values.proofs.Leads.{IsNth, first, next, Leads, ends, by_member, by_element}

pub members_count : {k at : ℕ} {s : Shape} {fs : Fields} (vs : Values) → AreMembers fs vs → IsNth fs k at s → k < count vs
members_count no_values h first = absurd h
members_count no_values h (next m) = absurd h
members_count (more v vs) h first = omega arith
members_count (more v vs) h (next m) = let r = members_count vs h.1 m in omega (arith, r)

pub member_shaped : {k at : ℕ} {s : Shape} {fs : Fields} (vs : Values) → AreMembers fs vs → IsNth fs k at s → HasShape s (part vs k)
member_shaped no_values h first = absurd h
member_shaped no_values h (next m) = absurd h
member_shaped (more v vs) h first = h.0
member_shaped (more v vs) h (next m) = member_shaped vs h.1 m

member_replaced : {k at : ℕ} {s : Shape} {fs : Fields} (vs : Values) (w : Value) → AreMembers fs vs → IsNth fs k at s → HasShape s w → AreMembers fs (with_part vs k w)
member_replaced no_values w h first new = absurd h
member_replaced no_values w h (next m) new = absurd h
member_replaced (more v vs) w h first new = (new, h.1)
member_replaced (more v vs) w h (next m) new = (h.0, member_replaced vs w h.1 m new)

pub elements_count : (P : Value → Type 0) (n : ℕ) (vs : Values) → AreElements P n vs → count vs ≡ n
elements_count P zero no_values h = refl
elements_count P (suc n) (more v vs) h = ap suc (elements_count P n vs h.1)
elements_count _ _ _ h = absurd h

pub element_shaped : (P : Value → Type 0) (n i : ℕ) (vs : Values) → AreElements P n vs → i < n → P (part vs i)
element_shaped P zero i vs h lt = absurd (omega arith)
element_shaped P (suc n) i no_values h lt = absurd h
element_shaped P (suc n) zero (more v vs) h lt = h.0
element_shaped P (suc n) (suc i) (more v vs) h lt = element_shaped P n i vs h.1 (omega arith)

pub element_replaced : (P : Value → Type 0) (n i : ℕ) (vs : Values) (w : Value) → AreElements P n vs → P w → AreElements P n (with_part vs i w)
element_replaced P zero i no_values w h new = tt
element_replaced P zero i (more v vs) w h new = absurd h
element_replaced P (suc n) i no_values w h new = absurd h
element_replaced P (suc n) zero (more v vs) w h new = (new, h.1)
element_replaced P (suc n) (suc i) (more v vs) w h new = (h.0, element_replaced P n i vs w h.1 new)

pub part_replaced : (vs : Values) (k : ℕ) (w : Value) → k < count vs → part (with_part vs k w) k ≡ w
part_replaced no_values k w lt = absurd (omega arith)
part_replaced (more v vs) zero w lt = refl
part_replaced (more v vs) (suc k) w lt = part_replaced vs k w (omega arith)

pub count_replaced : (vs : Values) (k : ℕ) (w : Value) → count (with_part vs k w) ≡ count vs
count_replaced (more v vs) (suc k) w = ap suc (count_replaced vs k w)
count_replaced _ _ _ = refl

pub placed_field : (k n : ℕ) → k < n → place_of (Field k) n ≡ Some k
placed_field k n lt = cond-true (nat_lt k n) (Some k) None (lt-ltb k n lt)

pub placed_index : (i n : ℕ) → i < n → place_of (Index (pos i)) n ≡ Some i
placed_index i n lt = cond-true (nat_lt i n) (Some i) None (lt-ltb i n lt)

-- one step into parts, where it is one
pub sel_step : (vs : Values) (p : Step) (ps : List Step) (k : ℕ) → place_of p (count vs) ≡ Some k → sel (Parts vs) (p ∷ ps) ≡ sel (part vs k) ps
sel_step vs p ps k e = ap (λ o. sel (part vs (unwrap_or o 0)) ps) e

pub upd_step : (vs : Values) (p : Step) (ps : List Step) (w : Value) (k : ℕ) → place_of p (count vs) ≡ Some k → upd (Parts vs) (p ∷ ps) w ≡ Parts (with_part vs k (upd (part vs k) ps w))
upd_step vs p ps w k e = ap (λ o. Parts (with_changed vs o (λ v. upd v ps w))) e

pub upd_shaped : {s s' : Shape} {ps : List Step} {d : ℕ} (u v : Value) → HasShape s u → HasShape s' v → Leads s ps d s' → HasShape s (upd u ps v)
upd_shaped u v h new ends = new
upd_shaped (Parts vs) v h new (by_member {x} {n} {align} {k} {fs} {s} {ps} m p) =
    subst (λ w. HasShape (Record x n align fs) w) (sym (upd_step vs (Field k) ps v k (placed_field k (count vs) (members_count vs h m))))
    (member_replaced vs (upd (part vs k) ps v) h m (upd_shaped (part vs k) v (member_shaped vs h m) new p))
upd_shaped (Parts vs) v h new (by_element {e} {n} {i} {ps} lt p) =
    subst (λ w. HasShape (Row e n) w)
    (sym (upd_step vs (Index (pos i)) ps v i (placed_index i (count vs) (subst (λ c. i < c) (sym (elements_count (λ w. HasShape e w) n vs h)) lt))))
    (element_replaced (λ w. HasShape e w) n i vs (upd (part vs i) ps v) h (upd_shaped (part vs i) v (element_shaped (λ w. HasShape e w) n i vs h lt) new p))
upd_shaped _ _ h _ _ = absurd h

pub copies_shaped : (P : Value → Type 0) (n : ℕ) (z : Value) → P z → AreElements P n (copies n z)
copies_shaped P zero z h = tt
copies_shaped P (suc n) z h = (h, copies_shaped P n z h)
