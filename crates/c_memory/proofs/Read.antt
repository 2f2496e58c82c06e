-- Reads and writes at the place of a path.
use Rattle.std.proofs.Common.{◌≡◌, ℕ, true, List, false, Option, Some, None, is_some, IfSome, IfNone, ap, sym, ◌∙◌}
use Rattle.std.specs.Prelude.{IsSomeAnd}
use Rattle.c_values.specs.Types.{CType}
use Rattle.c_values.specs.Layout.{Layout, shape_of, space, is_scalar, is_object, IsLayout, type_of}
use Rattle.c_values.specs.Path.{Spot}
use Rattle.c_memory.specs.Memory.{Tag}
use Rattle.c_memory.specs.CodePlace.{place_of, place_from}
use Rattle.c_values.proofs.Laid.{shape_type}
use Rattle.c_values.proofs.Options.{some_is}
use Rattle.c_memory.specs.Tags.{is_covered}
use Rattle.c_memory.specs.CodeTagIndex.{Covers}
use Rattle.c_memory.proofs.Objects.{object_complete}
use Rattle.c_memory.proofs.Neighbours.{covered_at}

-- at a place of a scalar lies a scalar
pub scalar_place : (l : Layout) (a : ℕ) (o : Option Spot) (b : ℕ) (u : CType) → IsLayout l → is_object l u ≡ true → Some (place_of l b u) ≡ place_from (space l) a o →
    IsSomeAnd o (λ q. is_scalar (type_of q.shape) ≡ true) → is_scalar u ≡ true
scalar_place l a None b u h object e k = absurd cc
scalar_place l a (Some q) b u h object e k =
    let same : shape_of l u ≡ q.shape = ap (λ p. p.shape) (some_is e) in
    let own : type_of (shape_of l u) ≡ u = shape_type l h u (object_complete l u object) in
    ap is_scalar (sym own ∙ ap type_of same) ∙ k

-- a tag is found where a root is covered
pub found_covered : (l : Layout) (ts : List Tag) (t : CType) (a : ℕ) (o : Option ℕ) → IfNone o (is_covered l ts t a ≡ false) → IfSome o (Covers l ts t a) → is_some o ≡ is_covered l ts t a
found_covered l ts t a None h k = sym h
found_covered l ts t a (Some i) h k = sym (covered_at l ts t a i k.tag k.is k.path)
