-- What an assertion says before an object is written of what it says afterwards (Hoare's axiom of assignment; for typed heaps with
-- the rule for aliases: Bornat, Proving pointer programs in Hoare logic).
use Rattle.std.specs.Prelude.{◌≡◌, ℕ, true, false, Option, Some, None, ◌⊎◌, if◌then◌else◌}
use Rattle.c_values.specs.Name.{Name, same_name}
use Rattle.c_values.specs.Types.{CType, same_type}
use Rattle.c_values.specs.Layout.{Layout, Shape, Scalar, Record, Row, shape_of}
use Rattle.c_values.specs.Path.{Spot, member_spot, is_index}
use Rattle.c_memory.specs.Tags.{IsPart}
use Rattle.expression_lang.specs.Expression.{Exp, NumberLit, Eq, And, If, At, Read, Tagged, Global, Sel, Upd, Path, Here, IntoField, IntoElement}
use Rattle.expression_lang.specs.Sort.{Scope, shape_along}
use Rattle.assertion_walks.specs.Rebuilt.{IsRebuilt}

-- Parts

-- the part of a value at a path, step by step
abbrev pub part_of : Exp → Path → Exp
part_of e Here = e
part_of e (IntoField k path) = part_of (Sel e (IntoField k Here)) path
part_of e (IntoElement i path) = part_of (Sel e (IntoElement i Here)) path

-- an object's value with the part at a path replaced, and the whole replaced where the path is empty
abbrev pub replaced : Exp → Path → Exp → Exp
replaced whole Here e = e
replaced whole path e = Upd whole path e

-- Globals

abbrev pub global_before : Name → Path → Exp → Exp → Exp
global_before x path e (Global y way) = if same_name x y then part_of (replaced (Global x Here) path e) way else Global y way
global_before x path e a = a

-- the assertion before the expression is written to the part of the global
abbrev pub IsBeforeGlobal : Name → Path → Exp → Exp → Exp → Type 0
IsBeforeGlobal x path e after before = IsRebuilt (λ a b. b ≡ global_before x path e a) after before

-- Typed heaps

-- one is the type of a part of the other
abbrev pub AreRelated : Layout → CType → CType → Type 0
AreRelated l t u = (d : ℕ) × (IsPart (shape_of l t) d u ⊎ IsPart (shape_of l u) d t)

abbrev pub InMember : Option Spot → (Shape → Type 0) → Type 0
InMember None P = ⊥
InMember (Some q) P = P q.shape

-- each index of the path is a constant, of an element that is there
abbrev pub HasIndexes : Path → Shape → Type 0
HasIndexes Here s = Unit {0}
HasIndexes (IntoField k path) (Record x n align fs) = InMember (member_spot fs k) (λ s. HasIndexes path s)
HasIndexes (IntoElement (NumberLit i) path) (Row e n) = (is_index i n ≡ true) × HasIndexes path e
HasIndexes _ _ = ⊥

abbrev pub scalar_type : Option Shape → Option CType
scalar_type (Some (Scalar t width)) = Some t
scalar_type _ = None

-- the type of the scalar at the end of a path, where there is one
abbrev pub scalar_at : Scope → CType → Path → Option CType
scalar_at g t path = scalar_type (shape_along g path (shape_of g.layout t))

-- a place in a typed heap: the type and the address of the root, and the path
pub record Place : Type 0 where
  pub type : CType
  pub address : Exp
  pub path : Path

abbrev pub read_at : Place → Exp
read_at k = Read k.type k.address k.path

abbrev pub root_of : Place → Exp
root_of k = Read k.type k.address Here

abbrev pub address_of : Place → Exp
address_of k = At k.type k.address k.path

-- a read at a root of the written type: the part of what is written, where it is the same root
abbrev pub of_same_root : Place → Exp → Place → Exp
of_same_root w e r = If (Eq r.address w.address) (part_of (replaced (root_of w) w.path e) r.path) (read_at r)

-- a scalar in a root of a related type: what is written, where it is the same scalar
abbrev pub of_same_scalar : Place → Exp → Place → Exp
of_same_scalar w e r = If (And (Tagged r.type r.address) (Eq (address_of r) (address_of w))) e (read_at r)

pub data ReadBefore (g : Scope) (w : Place) (e : Exp) (r : Place) : Exp → Type 0 where
  same : same_type r.type w.type ≡ true → ReadBefore g w e r (of_same_root w e r)
  unrelated : same_type r.type w.type ≡ false → (AreRelated g.layout w.type r.type → ⊥) → ReadBefore g w e r (read_at r)
  -- both are scalars, and the place that is read is one in the root, wherever the root is
  related : {t u : CType} → same_type r.type w.type ≡ false → AreRelated g.layout w.type r.type → scalar_at g w.type w.path ≡ Some t →
      scalar_at g r.type r.path ≡ Some u → HasIndexes r.path (shape_of g.layout r.type) →
      ReadBefore g w e r (if same_type u t then of_same_scalar w e r else read_at r)

abbrev pub IsBefore : Scope → Place → Exp → Exp → Exp → Type 0
IsBefore g w e (Read t p path) b = ReadBefore g w e (record { type = t; address = p; path = path }) b
IsBefore g w e a b = b ≡ a

-- the assertion before the expression is written at the place
abbrev pub IsBeforeWrite : Scope → Place → Exp → Exp → Exp → Type 0
IsBeforeWrite g w e after before = IsRebuilt (IsBefore g w e) after before
