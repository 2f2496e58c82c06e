-- What the search for a root finds: the parts of a shape, each by its one path.
use Rattle.std.proofs.Common.{◌≡◌, ℕ, suc, ◌+◌, ◌-◌, ◌/◌, ◌%◌, ◌≤◌, nat_eq, nat_lt, nat_le, Bool, true, false, ◌&&◌, cond, List, [], ◌∷◌, Option, Some, None, pos, refl, sym, ap, ◌∙◌, subst, subst₂, arith, add-zero, zero-add, div-add-mod', eqb-true}
use Rattle.std.proofs.lemmas.Bool.{false≢true, and_parts, ltb-true, leb-true}
use Rattle.c_values.specs.Name.{Name}
use Rattle.c_values.specs.Types.{CType, Integer, Ptr, Struct, Target, same_type}
use Rattle.c_values.specs.Layout.{Layout, IsLayout, shape_of, is_complete, Shape, Incomplete, Scalar, Record, Row, Fields, no_fields, field, size, type_of, is_scalar}
use Rattle.c_values.specs.Path.{Step, Field, Index}
use Rattle.c_values.proofs.Leads.{IsNth, first, next, Leads, ends, by_member, by_element}
use Rattle.c_values.proofs.Laid.{IsLaid, AreLaid, structs_of, shape_good}
use Rattle.c_values.proofs.Parts.{leads_laid, laid_shape}
use Rattle.c_values.specs.CodeSameType.{type_is}
use Rattle.c_values.proofs.Options.{some_is, none_some}
use Rattle.c_memory.specs.Tags.{is_root_type, IsMember, here, later, IsPart, scalar, struct, of_member, of_element, prefixed, root_path, member_path}

-- the path leads to a part of this type
pub record Finds (s : Shape) (t : CType) (d : ℕ) (ps : List Step) : Type 0 where
  pub end : Shape
  pub leads : Leads s ps d end
  pub type : type_of end ≡ t
  pub part : IsPart s d t

-- and it is a member's
record FindsMember (fs : Fields) (k : ℕ) (t : CType) (d : ℕ) (ps : List Step) : Type 0 where
  place : ℕ
  at : ℕ
  shape : Shape
  rest : List Step
  nth : IsNth fs place at shape
  found : Finds shape t (d - at) rest
  from : at ≤ d
  path : ps ≡ Field (k + place) ∷ rest

pub nth_member : {k at : ℕ} {s : Shape} {fs : Fields} → IsNth fs k at s → IsMember fs at s
nth_member first = here
nth_member (next m) = later (nth_member m)

prefixed_parts : (p : Step) (o : Option (List Step)) (ps : List Step) → prefixed p o ≡ Some ps → (qs : List Step) × (o ≡ Some qs) × (ps ≡ p ∷ qs)
prefixed_parts p None ps h = absurd (none_some h)
prefixed_parts p (Some qs) ps h = (qs, refl, sym (some_is h))

here_parts : (s : Shape) (t : CType) (d : ℕ) (ps : List Step) (rest : Option (List Step)) → (b : Bool) → (same_type (type_of s) t && nat_eq d 0) ≡ b →
    IsPart s 0 (type_of s) → (rest ≡ Some ps → Finds s t d ps) → cond b (Some []) rest ≡ Some ps → Finds s t d ps
here_parts s t d ps rest true e own other h =
    let c = and_parts (same_type (type_of s) t) (nat_eq d 0) e in
    let same = type_is (type_of s) t c.0 in
    let none : 0 ≡ d = sym (eqb-true d 0 c.1) in
    subst (λ qs. Finds s t d qs) (some_is h)
    (record { end = s; leads = subst (λ x. Leads s [] x s) none ends; type = same; part = subst₂ (λ x u. IsPart s x u) none same own })
here_parts s t d ps rest false e own other h = other h

by_this_member : (x : Name) (n align : ℕ) (fs : Fields) (t : CType) (d : ℕ) (ps : List Step) → FindsMember fs 0 t d ps → Finds (Record x n align fs) t d ps
by_this_member x n align fs t d ps f =
    let whole : f.at + (d - f.at) ≡ d = omega (arith, f.from) in
    subst₂ (λ c qs. Finds (Record x n align fs) t c qs) whole (ap (λ k. Field k ∷ f.rest) (sym (zero-add f.place)) ∙ sym f.path)
    (record { end = f.found.end; leads = by_member f.nth f.found.leads; type = f.found.type; part = of_member (nth_member f.nth) f.found.part })

by_this_element : (e : Shape) (n : ℕ) (t : CType) (d : ℕ) (ps : List Step) → ((c : ℕ) (qs : List Step) → root_path e t c ≡ Some qs → Finds e t c qs) → (b : Bool) → nat_lt (d / size e) n ≡ b →
    cond b (prefixed (Index (pos (d / size e))) (root_path e t (d % size e))) None ≡ Some ps → Finds (Row e n) t d ps
by_this_element e n t d ps found true e' h =
    let r = prefixed_parts (Index (pos (d / size e))) (root_path e t (d % size e)) ps h in
    let f = found (d % size e) r.0 r.1 in
    let less = ltb-true (d / size e) n e' in
    subst₂ (λ c qs. Finds (Row e n) t c qs) (div-add-mod' d (size e)) (sym r.2)
    (record { end = f.end; leads = by_element less f.leads; type = f.type; part = of_element less f.part })
by_this_element e n t d ps found false e' h = absurd (none_some h)

this_member : (at : ℕ) (s : Shape) (fs : Fields) (k : ℕ) (t : CType) (d : ℕ) (ps : List Step) → ((c : ℕ) (qs : List Step) → root_path s t c ≡ Some qs → Finds s t c qs) →
    (member_path fs (suc k) t d ≡ Some ps → FindsMember fs (suc k) t d ps) → (b : Bool) → (nat_le at d && nat_lt d (at + size s)) ≡ b →
    cond b (prefixed (Field k) (root_path s t (d - at))) (member_path fs (suc k) t d) ≡ Some ps → FindsMember (field at s fs) k t d ps
this_member at s fs k t d ps found others true e h =
    let r = prefixed_parts (Field k) (root_path s t (d - at)) ps h in
    record { place = 0; at = at; shape = s; rest = r.0; nth = first; found = found (d - at) r.0 r.1; from = leb-true at d (and_parts (nat_le at d) (nat_lt d (at + size s)) e).0; path = r.2 ∙ ap (λ j. Field j ∷ r.0) (sym (add-zero k)) }
this_member at s fs k t d ps found others false e h =
    let r = others h in
    record { place = suc r.place; at = r.at; shape = r.shape; rest = r.rest; nth = next r.nth; found = r.found; from = r.from; path = r.path ∙ ap (λ j. Field j ∷ r.rest) (counted k r.place) }
  where
    counted : (k j : ℕ) → suc k + j ≡ k + suc j
    counted k j = omega arith

mutual
  pub found_part : (s : Shape) (t : CType) (d : ℕ) (ps : List Step) → root_path s t d ≡ Some ps → Finds s t d ps
  found_part Incomplete t d ps h = absurd (none_some h)
  found_part (Scalar u width) t d ps h = here_parts (Scalar u width) t d ps None (same_type u t && nat_eq d 0) refl scalar (λ e. absurd (none_some e)) h
  found_part (Record x n align fs) t d ps h =
      here_parts (Record x n align fs) t d ps (member_path fs 0 t d) (same_type (Struct x) t && nat_eq d 0) refl struct
      (λ e. by_this_member x n align fs t d ps (found_member fs 0 t d ps e)) h
  found_part (Row e n) t d ps h = by_this_element e n t d ps (λ c qs k. found_part e t c qs k) (nat_lt (d / size e) n) refl h

  found_member : (fs : Fields) (k : ℕ) (t : CType) (d : ℕ) (ps : List Step) → member_path fs k t d ≡ Some ps → FindsMember fs k t d ps
  found_member no_fields k t d ps h = absurd (none_some h)
  found_member (field at s fs) k t d ps h = this_member at s fs k t d ps (λ c qs e. found_part s t c qs e) (λ e. found_member fs (suc k) t d ps e) (nat_le at d && nat_lt d (at + size s)) refl h

-- what is found has the shape of its type
pub found_leads : (l : Layout) (u t : CType) (d : ℕ) (ps : List Step) → IsLayout l → is_complete (shape_of l u) ≡ true → root_path (shape_of l u) t d ≡ Some ps → Leads (shape_of l u) ps d (shape_of l t)
found_leads l u t d ps h complete e =
    let f = found_part (shape_of l u) t d ps e in
    let laid = leads_laid l.target (structs_of l) (shape_good l h u complete).laid f.leads in
    subst (λ s. Leads (shape_of l u) ps d s) (sym (laid_shape l.target (structs_of l) f.end laid) ∙ ap (shape_of l) f.type) f.leads

-- a part of a root type, at the end of a path
pub record Reaches (s : Shape) (t : CType) (d : ℕ) : Type 0 where
  pub path : List Step
  pub end : Shape
  pub leads : Leads s path d end
  pub type : type_of end ≡ t
  pub root : is_root_type t ≡ true

member_nth : {at : ℕ} {s : Shape} {fs : Fields} → IsMember fs at s → (k : ℕ) × IsNth fs k at s
member_nth here = (0, first)
member_nth (later m) = let r = member_nth m in (suc r.0, next r.1)

pub scalar_root : (t : CType) → is_scalar t ≡ true → is_root_type t ≡ true
scalar_root (Integer i) h = refl
scalar_root (Ptr t) h = refl
scalar_root _ h = absurd (false≢true h)

module _ (target : Target) (structs : Name → Shape) where
  member_laid : {at : ℕ} {s : Shape} {fs : Fields} → AreLaid target structs fs → IsMember fs at s → IsLaid target structs s
  member_laid h here = h.first
  member_laid h (later m) = member_laid h.others m

  -- each part is at the end of a path
  pub part_reached : {s : Shape} {d : ℕ} {t : CType} → IsLaid target structs s → IsPart s d t → Reaches s t d
  part_reached h (scalar {t} {width}) = record { path = []; end = Scalar t width; leads = ends; type = refl; root = scalar_root t h.scalar }
  part_reached h (struct {x} {n} {align} {fs}) = record { path = []; end = Record x n align fs; leads = ends; type = refl; root = refl }
  part_reached h (of_member m p) =
      let r = part_reached (member_laid h.members m) p in
      let k = member_nth m in
      record { path = Field k.0 ∷ r.path; end = r.end; leads = by_member k.1 r.leads; type = r.type; root = r.root }
  part_reached h (of_element {i} lt p) =
      let r = part_reached h p in
      record { path = Index (pos i) ∷ r.path; end = r.end; leads = by_element lt r.leads; type = r.type; root = r.root }
