-- Paths: the bounds of each index hold where each is of an element that is there, and then the steps lead to a part of the
-- type at the path's end.
use Rattle.std.proofs.Common.{◌≡◌, ℕ, zero, suc, ◌+◌, ◌-◌, ◌*◌, ◌<◌, ◌==◌, nat_lt, Bool, true, false, ◌&&◌, cond, List, [], ◌∷◌, Option, Some, None, ℤ, pos, negsuc, refl, sym, ap, ap₂, ◌∙◌, subst, arith, eqb-true, ltb-true}
use Rattle.std.proofs.lemmas.Bool.{and_parts}
use Rattle.std.proofs.lemmas.Bool.Decides.{nat_tests}
use Rattle.c_values.specs.Name.{Name}
use Rattle.c_values.specs.Types.{CType}
use Rattle.c_values.specs.Number.{is_between}
use Rattle.c_values.specs.Value.{number_in}
use Rattle.c_values.specs.Layout as L
use Rattle.c_values.specs.Layout.{Layout, IsLayout, Shape, Record, Row, Fields, no_fields, field, size, shape_of, is_complete, are_complete}
use Rattle.c_values.specs.Path.{Step, Field, Index, is_index}
use Rattle.c_values.proofs.Laid.{shape_good, structs_of}
use Rattle.c_values.proofs.Leads.{Leads, ends, by_member, by_element}
use Rattle.c_values.proofs.Parts.{leads_laid, laid_shape}
use Rattle.c_values.specs.CodeSameType.{type_is}
use Rattle.c_values.proofs.Options.{some_is}
use Rattle.expression_lang.specs.Evaluation.{Env, State}
use Rattle.expression_lang.specs.Evaluation as E
use Rattle.expression_lang.specs.GuardKind.{GuardKind}
use Rattle.expression_lang.specs.GuardKind as K
use Rattle.c_lang.specs.Typed as C
use Rattle.c_lang.specs.WellTyped.{member_shape, shape_along, leads_to}
use Rattle.c_lang.proofs.Paths.{none_along, nth_member}
use Rattle.c_meaning.specs.CValue.{are_in_bounds}
use Rattle.generation.specs.Guards.{number, exp, path_of, bounds}
use Rattle.generation.specs.Refused.{refused}
use Rattle.generation.proofs.ExactValue.{EndsAt}

-- each array on the path has an element
abbrev pub HasElements : C.Path → Type 0
HasElements C.Here = Unit {0}
HasElements (C.Member k path) = HasElements path
HasElements (C.Element n e path) = (0 < n) × HasElements path

-- what is at the end of a path
pub end_of : (o : Option Shape) (u : CType) → leads_to o u ≡ true → (q : Shape) × (o ≡ Some q) × (L.type_of q ≡ u)
end_of None u h = absurd cc
end_of (Some q) u h = (q, refl, type_is (L.type_of q) u h)

member_complete : (fs : Fields) (k : ℕ) (s : Shape) → are_complete fs ≡ true → member_shape fs k ≡ Some s → is_complete s ≡ true
member_complete no_fields k s h e = absurd cc
member_complete (field at s' fs) zero s h e = subst (λ r. is_complete r ≡ true) (some_is e) (and_parts (is_complete s') (are_complete fs) h).0
member_complete (field at s' fs) (suc k) s h e = member_complete fs k s (and_parts (is_complete s') (are_complete fs) h).1 e

-- into an array of so many elements
pub into_row : (n m : ℕ) (e : Shape) (path : C.Path) (q : Shape) → cond (n == m) (shape_along (Some e) path) None ≡ Some q → (n ≡ m) × (shape_along (Some e) path ≡ Some q)
into_row n m e path q h = by_case (n == m) refl h
  where
    by_case : (b : Bool) → (n == m) ≡ b → cond b (shape_along (Some e) path) None ≡ Some q → (n ≡ m) × (shape_along (Some e) path ≡ Some q)
    by_case true c h = (eqb-true n m c, h)
    by_case false c h = absurd cc

member_elements : (fs : Fields) (k : ℕ) (path : C.Path) (q : Shape) → are_complete fs ≡ true → ((r : Shape) → is_complete r ≡ true → shape_along (Some r) path ≡ Some q → HasElements path) →
    (o : Option Shape) → member_shape fs k ≡ o → shape_along o path ≡ Some q → HasElements path
member_elements fs k path q h rest None c e = absurd (let none = none_along path in cc)
member_elements fs k path q h rest (Some r) c e = rest r (member_complete fs k r h c) e

elements_along : (s : Shape) (path : C.Path) (q : Shape) → is_complete s ≡ true → shape_along (Some s) path ≡ Some q → HasElements path
elements_along s C.Here q h e = tt
elements_along (Record x n align fs) (C.Member k path) q h e = member_elements fs k path q h (λ r c d. elements_along r path q c d) (member_shape fs k) refl e
elements_along (Row s m) (C.Element n i path) q h e =
    let p = into_row n m s path q e in
    let c = and_parts (nat_lt 0 m) (is_complete s) h in
    (subst (λ k. 0 < k) (sym p.0) (ltb-true 0 m c.0), elements_along s path q c.1 p.1)
elements_along _ _ q h e = absurd cc

index_between : (m n : ℕ) → 0 < n → is_between (pos 0) (pos m) (pos (n - 1)) ≡ nat_lt m n
index_between m n h = grind (arith, nat_tests)

index_range : (z : ℤ) (n : ℕ) → 0 < n → is_between (pos 0) z (pos (n - 1)) ≡ is_index z n
index_range (pos m) n h = index_between m n h
index_range (negsuc m) n h = refl

one_after : (a b : Bool) (k : GuardKind) → cond a (cond b None (Some k)) (Some k) ≡ cond (a && b) None (Some k)
one_after true b k = refl
one_after false b k = refl

module _ (l : Layout) (env : Env) (s : State) where
  -- the bounds are refused where an index isn't of an element
  pub bounds_refused : (path : C.Path) → HasElements path → refused l env s (bounds l path) ≡ cond (are_in_bounds path (E.steps l env s (path_of l path))) None (Some K.Bounds)
  bounds_refused C.Here h = refl
  bounds_refused (C.Member k path) h = bounds_refused path h
  bounds_refused (C.Element n e path) h =
      let z = number_in (E.value l env s (number (C.type_of e) (exp l e))) in
      let rest = are_in_bounds path (E.steps l env s (path_of l path)) in
      ap₂ (λ b o. cond b o (Some K.Bounds)) (index_range z n h.0) (bounds_refused path h.1) ∙ one_after (is_index z n) rest K.Bounds

  index_leads : (z : ℤ) (n : ℕ) (e q : Shape) (ps : List Step) → is_index z n ≡ true → (d : ℕ) × Leads e ps d q → (d : ℕ) × Leads (Row e n) (Index z ∷ ps) d q
  index_leads (pos i) n e q ps h r = (i * size e + r.0, by_element (ltb-true i n h) r.1)
  index_leads (negsuc i) n e q ps h r = absurd cc

  member_leads : (x : Name) (n align : ℕ) (fs : Fields) (k : ℕ) (path : C.Path) (q : Shape) →
      ((r : Shape) → shape_along (Some r) path ≡ Some q → (d : ℕ) × Leads r (E.steps l env s (path_of l path)) d q) →
      (o : Option Shape) → member_shape fs k ≡ o → shape_along o path ≡ Some q → (d : ℕ) × Leads (Record x n align fs) (Field k ∷ E.steps l env s (path_of l path)) d q
  member_leads x n align fs k path q rest None c e = absurd (let none = none_along path in cc)
  member_leads x n align fs k path q rest (Some r) c e =
      let m = nth_member fs k r c in
      let p = rest r e in
      (m.0 + p.0, by_member m.1 p.1)

  path_leads : (r : Shape) (path : C.Path) (q : Shape) → shape_along (Some r) path ≡ Some q → are_in_bounds path (E.steps l env s (path_of l path)) ≡ true → (d : ℕ) × Leads r (E.steps l env s (path_of l path)) d q
  path_leads r C.Here q e b = (0, subst (λ x. Leads r [] 0 x) (some_is e) ends)
  path_leads (Record x n align fs) (C.Member k path) q e b = member_leads x n align fs k path q (λ r d. path_leads r path q d b) (member_shape fs k) refl e
  path_leads (Row r m) (C.Element n i path) q e b =
      let z = number_in (E.value l env s (number (C.type_of i) (exp l i))) in
      let p = into_row n m r path q e in
      let c = and_parts (is_index z n) (are_in_bounds path (E.steps l env s (path_of l path))) b in
      index_leads z m r q (E.steps l env s (path_of l path)) (subst (λ k. is_index z k ≡ true) p.0 c.0) (path_leads r path q p.1 c.1)
  path_leads _ _ q e b = absurd cc

  module _ (h : IsLayout l) (t : CType) (complete : is_complete (shape_of l t) ≡ true) (path : C.Path) (u : CType) (typed : leads_to (shape_along (Some (shape_of l t)) path) u ≡ true) where
    pub path_has_elements : HasElements path
    path_has_elements = let e = end_of (shape_along (Some (shape_of l t)) path) u typed in elements_along (shape_of l t) path e.0 complete e.1

    pub path_ends : are_in_bounds path (E.steps l env s (path_of l path)) ≡ true → EndsAt l (shape_of l t) (E.steps l env s (path_of l path)) u
    path_ends b =
        let e = end_of (shape_along (Some (shape_of l t)) path) u typed in
        let p = path_leads (shape_of l t) path e.0 e.1 b in
        let laid = leads_laid l.target (structs_of l) (shape_good l h t complete).laid p.1 in
        record {
          at = p.0;
          leads = subst (λ r. Leads (shape_of l t) (E.steps l env s (path_of l path)) p.0 r) (sym (laid_shape l.target (structs_of l) e.0 laid) ∙ ap (shape_of l) e.2) p.1;
        }
