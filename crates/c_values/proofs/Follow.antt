-- Parts of values, by paths.
use Rattle.std.proofs.Common.{◌≡◌, ℕ, zero, suc, ◌<◌, nat_lt, Bool, true, false, cond, ◌&&◌, List, [], ◌∷◌, ◌++◌, length, get_or, slice_set, Option, Some, None, unwrap_or, ℤ, pos, negsuc, ◌*ℤ◌, refl, sym, ap, ◌∙◌, subst, arith}
use Rattle.std.proofs.lemmas.Bool.{and_parts, ltb-true}
use Rattle.c_values.specs.declared.values.Value as V
use Rattle.c_values.specs.Value.{Value, Values, Bits, Number, Truth, Parts, no_values, more, count, part, with_part, nothing}
use Rattle.c_values.specs.Layout.{Shape, Incomplete, Scalar, Record, Row, Fields, no_fields, field, size, is_complete, are_complete}
use Rattle.c_values.specs.Path.{Step, Field, Index, Spot, spot, member_spot, and_then_spot, further, place_of, with_changed, sel, upd, HasShape, AreMembers, AreElements}
use Rattle.c_values.specs.CodeValue.{value_of}
use Rattle.c_values.proofs.Shaped.{elements_count, element_shaped, placed_field, upd_step}
use Rattle.c_values.specs.CodeParts.{values_in}
use Rattle.c_values.specs.CodeFollow.{CanFollow}
use Rattle.c_values.proofs.Options.{some_is}

pub further_parts : (z : ℤ) (o : Option Spot) (q : Spot) → further z o ≡ Some q → (r : Spot) × (o ≡ Some r) × (q.shape ≡ r.shape)
further_parts z None q h = absurd cc
further_parts z (Some r) q h = (r, refl, sym (ap (λ v. v.shape) (some_is h)))

pub count_in : (vs : List V.Value) → count (values_in vs) ≡ length vs
count_in [] = refl
count_in (v ∷ vs) = ap suc (count_in vs)

pub part_in : (vs : List V.Value) (k : ℕ) (v : V.Value) → k < length vs → v ≡ get_or vs k v → part (values_in vs) k ≡ value_of v
part_in [] k v lt e = absurd (omega arith)
part_in (w ∷ ws) zero v lt e = ap value_of (sym e)
part_in (w ∷ ws) (suc k) v lt e = part_in ws k v (omega arith) e

-- a part that is written over
pub set_in : (vs : List V.Value) (k : ℕ) (v : V.Value) → values_in (slice_set vs k v) ≡ with_part (values_in vs) k (value_of v)
set_in [] k v = refl
set_in (w ∷ ws) zero v = refl
set_in (w ∷ ws) (suc k) v = ap (λ us. more (value_of w) us) (set_in ws k v)

-- one step into parts that are replaced
pub upd_at : (vs : List V.Value) (p : Step) (ps : List Step) (new : Value) (k : ℕ) → place_of p (length vs) ≡ Some k →
    upd (Parts (values_in vs)) (p ∷ ps) new ≡ Parts (with_part (values_in vs) k (upd (part (values_in vs) k) ps new))
upd_at vs p ps new k e = upd_step (values_in vs) p ps new k (ap (λ n. place_of p n) (count_in vs) ∙ e)

pub upd_nowhere : (vs : List V.Value) (p : Step) (ps : List Step) (new : Value) → place_of p (length vs) ≡ None → upd (Parts (values_in vs)) (p ∷ ps) new ≡ Parts (values_in vs)
upd_nowhere vs p ps new e = ap (λ o. Parts (with_changed (values_in vs) o (λ v. upd v ps new))) (ap (λ n. place_of p n) (count_in vs) ∙ e)

below_where : (i n k : ℕ) → cond (nat_lt i n) (Some i) None ≡ Some k → k < n
below_where i n k e = by_cases (nat_lt i n) refl e
  where
    by_cases : (b : Bool) → nat_lt i n ≡ b → cond b (Some i) None ≡ Some k → k < n
    by_cases true h same = let at : i ≡ k = cc in subst (λ j. j < n) at (ltb-true i n h)
    by_cases false h same = absurd cc

pub place_below : (p : Step) (n k : ℕ) → place_of p n ≡ Some k → k < n
place_below (Field i) n k e = below_where i n k e
place_below (Index (pos i)) n k e = below_where i n k e
place_below (Index (negsuc i)) n k e = absurd cc

pub first_place : (p : Step) (n : ℕ) → 0 < n → unwrap_or (place_of p n) 0 < n
first_place p n some = by_place (place_of p n) refl
  where
    by_place : (o : Option ℕ) → place_of p n ≡ o → unwrap_or o 0 < n
    by_place None e = some
    by_place (Some k) e = place_below p n k e

-- one step into parts
pub part_selected : (v : Value) (vs : List V.Value) (p : Step) (k : ℕ) (w : V.Value) → CanFollow v (p ∷ []) → v ≡ Parts (values_in vs) → k ≡ unwrap_or (place_of p (length vs)) 0 → w ≡ get_or vs k w → value_of w ≡ sel v (p ∷ [])
part_selected v vs p k w follows is at e =
    let some : 0 < count (values_in vs) = (subst (λ u. CanFollow u (p ∷ [])) is follows).0 in
    let lt : k < length vs = subst (λ i. i < length vs) (sym at) (first_place p (length vs) (subst (λ n. 0 < n) (count_in vs) some)) in
    sym (part_in vs k w lt e)
    ∙ ap (λ i. part (values_in vs) i) (at ∙ ap (λ n. unwrap_or (place_of p n) 0) (sym (count_in vs)))
    ∙ ap (λ u. sel u (p ∷ [])) (sym is)

pub sel_nothing : (ps : List Step) → sel nothing ps ≡ nothing
sel_nothing [] = refl
sel_nothing (p ∷ ps) = sel_nothing ps

-- a path after its first step
pub sel_cons : (v : Value) (p : Step) (ps : List Step) → sel v (p ∷ ps) ≡ sel (sel v (p ∷ [])) ps
sel_cons (Parts vs) p ps = refl
sel_cons (Bits w) p ps = sym (sel_nothing ps)
sel_cons (Number n) p ps = sym (sel_nothing ps)
sel_cons (Truth b) p ps = sym (sel_nothing ps)

pub sel_append : (v : Value) (ps qs : List Step) → sel v (ps ++ qs) ≡ sel (sel v ps) qs
sel_append v [] qs = refl
sel_append v (p ∷ ps) qs = sel_cons v p (ps ++ qs) ∙ sel_append (sel v (p ∷ [])) ps qs ∙ ap (λ w. sel w qs) (sym (sel_cons v p ps))

pub follow_append : (v : Value) (ps qs : List Step) → CanFollow v ps → CanFollow (sel v ps) qs → CanFollow v (ps ++ qs)
follow_append v [] qs h k = k
follow_append (Parts vs) (p ∷ ps) qs h k = (h.0, follow_append (part vs (unwrap_or (place_of p (count vs)) 0)) ps qs h.1 k)
follow_append (Bits w) (p ∷ ps) qs h k = absurd h
follow_append (Number n) (p ∷ ps) qs h k = absurd h
follow_append (Truth b) (p ∷ ps) qs h k = absurd h

pub follow_first : (v : Value) (p : Step) (ps : List Step) → CanFollow v (p ∷ ps) → CanFollow v (p ∷ [])
follow_first (Parts vs) p ps h = (h.0, tt)
follow_first _ _ _ h = absurd h

pub follow_rest : (v : Value) (p : Step) (ps : List Step) → CanFollow v (p ∷ ps) → CanFollow (sel v (p ∷ [])) ps
follow_rest (Parts vs) p ps h = h.1
follow_rest _ _ _ h = absurd h

-- a path into a shape can be followed in a value of the shape
member_here : (fs : Fields) (vs : Values) (k : ℕ) (q : Spot) → are_complete fs ≡ true → AreMembers fs vs → member_spot fs k ≡ Some q → (k < count vs) × (is_complete q.shape ≡ true) × HasShape q.shape (part vs k)
member_here no_fields vs k q c h e = absurd cc
member_here (field at s fs) no_values k q c h e = absurd h
member_here (field at s fs) (more v vs) zero q c h e =
    let same : s ≡ q.shape = ap (λ r. r.shape) (some_is e) in (
      omega arith,
      subst (λ r. is_complete r ≡ true) same (and_parts (is_complete s) (are_complete fs) c).0,
      subst (λ r. HasShape r v) same h.0,
    )
member_here (field at s fs) (more v vs) (suc k) q c h e =
    let m = member_here fs vs k q (and_parts (is_complete s) (are_complete fs) c).1 h.1 e in
    (omega (arith, m.0), m.1, m.2)

-- what is known at the end of a path
abbrev pub Ends : Value → List Step → Spot → Type 0
Ends v ps q = CanFollow v ps × HasShape q.shape (sel v ps)

module _ (ps : List Step) (rest : (s : Shape) (q : Spot) (v : Value) → is_complete s ≡ true → HasShape s v → spot s ps ≡ Some q → Ends v ps q) where
  rest_ends : (z : ℤ) (s : Shape) (q : Spot) (v : Value) → is_complete s ≡ true → HasShape s v → further z (spot s ps) ≡ Some q → Ends v ps q
  rest_ends z s q v c h e =
      let f = further_parts z (spot s ps) q e in
      let r = rest s f.0 v c h f.1 in
      (r.0, subst (λ t. HasShape t (sel v ps)) (sym f.2) r.1)

  -- after a step to the part of this number
  step_ends : (p : Step) (vs : Values) (k : ℕ) (q : Spot) → unwrap_or (place_of p (count vs)) 0 ≡ k → k < count vs → Ends (part vs k) ps q → Ends (Parts vs) (p ∷ ps) q
  step_ends p vs k q at lt h =
      let h' = subst (λ i. Ends (part vs i) ps q) (sym at) h in
      ((omega arith, h'.0), h'.1)

  member_ends : (fs : Fields) (vs : Values) (k : ℕ) (q : Spot) (o : Option Spot) → member_spot fs k ≡ o → are_complete fs ≡ true → AreMembers fs vs →
      and_then_spot o (λ r. further r.offset (spot r.shape ps)) ≡ Some q → Ends (Parts vs) (Field k ∷ ps) q
  member_ends fs vs k q None e c h a = absurd cc
  member_ends fs vs k q (Some r) e c h a =
      let m = member_here fs vs k r c h e in
      step_ends (Field k) vs k q (ap (λ o. unwrap_or o 0) (placed_field k (count vs) m.0)) m.0 (rest_ends r.offset r.shape q (part vs k) m.1 m.2 a)

  element_ends : (s : Shape) (n : ℕ) (vs : Values) (i : ℤ) (q : Spot) → (nat_lt 0 n && is_complete s) ≡ true → AreElements (λ w. HasShape s w) n vs →
      further (i *ℤ pos (size s)) (spot s ps) ≡ Some q → Ends (Parts vs) (Index i ∷ ps) q
  element_ends s n vs i q c h a =
      let both = and_parts (nat_lt 0 n) (is_complete s) c in
      let many = elements_count (λ w. HasShape s w) n vs h in
      let some : 0 < count vs = let k = ltb-true 0 n both.0 in omega (arith, many, k) in
      let k = unwrap_or (place_of (Index i) (count vs)) 0 in
      let lt = first_place (Index i) (count vs) some in
      step_ends (Index i) vs k q refl lt (rest_ends (i *ℤ pos (size s)) s q (part vs k) both.1 (element_shaped (λ w. HasShape s w) n k vs h (omega (arith, lt, many))) a)

pub path_ends : (s : Shape) (ps : List Step) (q : Spot) (v : Value) → is_complete s ≡ true → HasShape s v → spot s ps ≡ Some q → Ends v ps q
path_ends s [] q v c h e = (tt, subst (λ r. HasShape r.shape v) (some_is e) h)
path_ends (Record x n align fs) (Field k ∷ ps) q (Parts vs) c h e = member_ends ps (λ s r v d i j. path_ends s ps r v d i j) fs vs k q (member_spot fs k) refl c h e
path_ends (Row s n) (Index i ∷ ps) q (Parts vs) c h e = element_ends ps (λ s r v d i j. path_ends s ps r v d i j) s n vs i q c h e
path_ends Incomplete (p ∷ ps) q v c h e = absurd cc
path_ends (Scalar t width) (p ∷ ps) q v c h e = absurd cc
path_ends (Record x n align fs) (Index i ∷ ps) q v c h e = absurd cc
path_ends (Row s n) (Field k ∷ ps) q v c h e = absurd cc
path_ends (Record x n align fs) (Field k ∷ ps) q (Bits w) c h e = absurd h
path_ends (Record x n align fs) (Field k ∷ ps) q (Number w) c h e = absurd h
path_ends (Record x n align fs) (Field k ∷ ps) q (Truth w) c h e = absurd h
path_ends (Row s n) (Index i ∷ ps) q (Bits w) c h e = absurd h
path_ends (Row s n) (Index i ∷ ps) q (Number w) c h e = absurd h
path_ends (Row s n) (Index i ∷ ps) q (Truth w) c h e = absurd h
