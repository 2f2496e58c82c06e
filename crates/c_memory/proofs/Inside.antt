-- Roots in objects, from one part to the part in it.
use Rattle.std.proofs.Common.{◌≡◌, ℕ, zero, suc, ◌<◌, ◌≤◌, nat_eq, true, false, ◌&&◌, cond, max, List, [], Option, Some, None, is_some, refl, sym, ap, ◌∙◌, subst, arith}
use Rattle.std.proofs.lemmas.Bool.{cond-true, cond-false}
use Rattle.c_values.specs.Types.{CType, same_type}
use Rattle.c_values.specs.Layout.{Layout, IsLayout, Shape, Incomplete, Scalar, Record, Row, Fields, no_fields, field, type_of, shape_of, size_of, is_object}
use Rattle.c_values.specs.Path.{Step, Field, Index, Spot, step_spot, member_spot}
use Rattle.c_values.proofs.Formed.{size_some}
use Rattle.c_values.proofs.Geometry.{leads_within}
use Rattle.c_values.proofs.Laid.{IsLaid, IsGood, structs_of, shape_good, shape_type}
use Rattle.c_values.proofs.Height.{height, highest}
use Rattle.c_memory.specs.Tags.{root_path, prefixed}
use Rattle.c_memory.specs.CodeInner.{inner_path, is_root_here, part_step, LiesIn, LiesInNone}
use Rattle.c_memory.proofs.Objects.{object_complete}
use Rattle.c_memory.proofs.Roots.{found_leads, scalar_root}

member_lower : (fs : Fields) (k : ℕ) (q : Spot) → member_spot fs k ≡ Some q → height q.shape ≤ highest fs
member_lower no_fields k q e = absurd cc
member_lower (field at s fs) zero q e =
    let same : s ≡ q.shape = ap (λ r. r.shape) (some_same e) in
    subst (λ r. height r ≤ max (height s) (highest fs)) same (omega arith)
  where
    some_same : {A : Type 0} {a b : A} → ◌≡◌ {A = Option A} (Some a) (Some b) → a ≡ b
    some_same k = cc
member_lower (field at s fs) (suc k) q e = let low = member_lower fs k q e in omega (arith, low)

-- a step leads to what is less high
pub step_lower : (s : Shape) (p : Step) (q : Spot) → step_spot s p ≡ Some q → height q.shape < height s
step_lower (Record x n align fs) (Field k) q e = let low = member_lower fs k q e in omega (arith, low)
step_lower (Row e n) (Index i) q h =
    let same : e ≡ q.shape = ap (λ r. r.shape) (some_same h) in
    subst (λ s. height s < suc (height e)) same (omega arith)
  where
    some_same : {A : Type 0} {a b : A} → ◌≡◌ {A = Option A} (Some a) (Some b) → a ≡ b
    some_same k = cc
step_lower _ _ q h = absurd cc

-- the search for a root, from the outermost part on
module _ (target : _) (structs : _) where
  whole_or_inner : (s : Shape) (t : CType) (d : ℕ) → IsLaid target structs s → root_path s t d ≡ cond (is_root_here (type_of s) t d) (Some []) (inner_path s t d)
  whole_or_inner Incomplete t d h = absurd h
  whole_or_inner (Scalar u width) t d h = sym (ap (λ b. cond (b && (same_type u t && nat_eq d 0)) (Some []) None) (scalar_root u h.scalar))
  whole_or_inner _ _ _ _ = refl

module _ (l : Layout) (h : IsLayout l) (u : CType) (object : is_object l u ≡ true) where
  good : IsGood l.target (structs_of l) (shape_of l u)
  good = shape_good l h u (object_complete l u object)

  pub object_path : (t : CType) (d : ℕ) → root_path (shape_of l u) t d ≡ cond (is_root_here u t d) (Some []) (inner_path (shape_of l u) t d)
  object_path t d = whole_or_inner l.target (structs_of l) (shape_of l u) t d good.laid ∙ ap (λ v. cond (is_root_here v t d) (Some []) (inner_path (shape_of l u) t d)) (shape_type l h u (object_complete l u object))

  pub path_within : (t : CType) (d : ℕ) (ps : List Step) → root_path (shape_of l u) t d ≡ Some ps → d < size_of l u
  path_within t d ps e =
      let w = leads_within good.formed (found_leads l u t d ps h (object_complete l u object) e) in
      let some = size_some (shape_of l t) w.formed in
      omega (arith, w.ends, some)

  pub path_outside : (t : CType) (d : ℕ) → size_of l u ≤ d → is_some (root_path (shape_of l u) t d) ≡ false
  path_outside t d out = by_path (root_path (shape_of l u) t d) refl
    where
      by_path : (o : Option (List Step)) → root_path (shape_of l u) t d ≡ o → is_some o ≡ false
      by_path None e = refl
      by_path (Some ps) e = let lt = path_within t d ps e in absurd (omega (arith, lt))

  -- the object is the root
  pub root_here : (t : CType) (d : ℕ) → is_root_here u t d ≡ true → root_path (shape_of l u) t d ≡ Some []
  root_here t d e = object_path t d ∙ cond-true (is_root_here u t d) (Some []) (inner_path (shape_of l u) t d) e

  -- the root is in a part
  pub root_in : (t : CType) (d i : ℕ) (v : CType) (e : ℕ) → is_root_here u t d ≡ false → LiesIn l u d i v e → root_path (shape_of l u) t d ≡ prefixed (part_step u i) (root_path (shape_of l v) t e)
  root_in t d i v e out lies = object_path t d ∙ cond-false (is_root_here u t d) (Some []) (inner_path (shape_of l u) t d) out ∙ lies.path t

  pub root_in_none : (t : CType) (d : ℕ) → is_root_here u t d ≡ false → LiesInNone l u d → root_path (shape_of l u) t d ≡ None
  root_in_none t d out lies = object_path t d ∙ cond-false (is_root_here u t d) (Some []) (inner_path (shape_of l u) t d) out ∙ lies.path t

pub some_prefixed : (p : Step) (o : Option (List Step)) → is_some (prefixed p o) ≡ is_some o
some_prefixed p None = refl
some_prefixed p (Some ps) = refl
