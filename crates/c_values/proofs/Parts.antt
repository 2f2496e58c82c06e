-- The parts that a path reaches in a type of a layout.
use Rattle.std.proofs.Common.{◌≡◌, ℕ, ◌+◌, true, List, Some, pos, refl, ap}
use Rattle.std.proofs.lemmas.Bool.{false≢true, and_from, lt-ltb}
use Rattle.c_values.specs.Name.{Name}
use Rattle.c_values.specs.Types.{Target, CType, Integer, Ptr}
use Rattle.c_values.specs.Layout.{Layout, IsLayout, Shape, Incomplete, Scalar, Record, Row, Fields, no_fields, field, size, alignment, type_of, shape_from, shape_of, is_complete, are_complete, is_scalar, scalar_width}
use Rattle.c_values.specs.Path.{Step, Spot, spot, in_range}
use Rattle.c_values.proofs.Formed.{IsFormed, AreFormed}
use Rattle.c_values.proofs.Leads.{IsNth, first, next, Leads, ends, by_member, by_element, leads_of}
use Rattle.c_values.proofs.Geometry.{IsWithin, leads_within}
use Rattle.c_values.proofs.Laid.{IsLaid, AreLaid, structs_of, shape_good}

mutual
  pub formed_complete : (s : Shape) → IsFormed s → is_complete s ≡ true
  formed_complete Incomplete h = absurd h
  formed_complete (Scalar t width) h = refl
  formed_complete (Record x n align fs) h = members_complete fs align n 0 h.members
  formed_complete (Row e n) h = and_from _ (is_complete e) (lt-ltb 0 n h.some) (formed_complete e h.element)

  members_complete : (fs : Fields) (align n at : ℕ) → AreFormed align n at fs → are_complete fs ≡ true
  members_complete no_fields align n at h = refl
  members_complete (field offset s fs) align n at h = and_from (is_complete s) (are_complete fs) (formed_complete s h.first) (members_complete fs align n (offset + size s) h.others)

module _ (t : Target) (structs : Name → Shape) where
  pub nth_laid : {k at : ℕ} {s : Shape} {fs : Fields} → AreLaid t structs fs → IsNth fs k at s → IsLaid t structs s
  nth_laid h first = h.first
  nth_laid h (next m) = nth_laid h.others m

  pub leads_laid : {s s' : Shape} {ps : List Step} {d : ℕ} → IsLaid t structs s → Leads s ps d s' → IsLaid t structs s'
  leads_laid h ends = h
  leads_laid h (by_member m p) = leads_laid (nth_laid h.members m) p
  leads_laid h (by_element m p) = leads_laid h p

  scalar_shape : (u : CType) (width : ℕ) → is_scalar u ≡ true → scalar_width t u ≡ width → shape_from t structs u ≡ Scalar u width
  scalar_shape (Integer i) width h e = ap (λ w. Scalar (Integer i) w) e
  scalar_shape (Ptr u) width h e = ap (λ w. Scalar (Ptr u) w) e
  scalar_shape _ _ h _ = absurd (false≢true h)

  -- a part has the shape of its type
  pub laid_shape : (s : Shape) → IsLaid t structs s → shape_from t structs (type_of s) ≡ s
  laid_shape Incomplete h = absurd h
  laid_shape (Scalar u width) h = scalar_shape u width h.scalar h.wide
  laid_shape (Record x n align fs) h = h.known
  laid_shape (Row e n) h = ap (λ s. Row s n) (laid_shape e h)

-- a path in range, with what is known at its end
pub record IsPartOf (l : Layout) (s : Shape) (path : List Step) (q : Spot) : Type 0 where
  pub at : ℕ
  pub offset : q.offset ≡ pos at
  pub leads : Leads s path at q.shape
  pub within : IsWithin (alignment s) (size s) at q.shape
  pub laid : IsLaid l.target (structs_of l) q.shape
  pub own : shape_of l (type_of q.shape) ≡ q.shape

pub part_of : (l : Layout) (t : CType) (path : List Step) (q : Spot) → IsLayout l → is_complete (shape_of l t) ≡ true → in_range (shape_of l t) path ≡ true →
    spot (shape_of l t) path ≡ Some q → IsPartOf l (shape_of l t) path q
part_of l t path q h c r e =
    let g = shape_good l h t c in
    let p = leads_of (shape_of l t) path q r e in
    let laid = leads_laid l.target (structs_of l) g.laid p.2 in
    record { at = p.0; offset = p.1; leads = p.2; within = leads_within g.formed p.2; laid = laid; own = laid_shape l.target (structs_of l) q.shape laid }
