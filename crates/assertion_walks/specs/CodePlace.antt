-- What the code's places in typed heaps stand for, and what it finds of reads.
use Rattle.std.specs.Prelude.{◌≡◌, true, false, Bool, Some}
use Rattle.c_values.specs.Types.{CType, same_type}
use Rattle.c_values.specs.Layout.{shape_of}
use Rattle.c_values.specs.CodeTypes.{type_of}
use Rattle.expression_lang.specs.Expression.{Exp, If, Read}
use Rattle.expression_lang.specs.Sort.{Scope}
use Rattle.expression_lang.specs.CodeExpression.{exp_of, path_of}
use Rattle.assertion_walks.specs.Written.{Place, scalar_at, HasIndexes}
use Rattle.assertion_walks.specs.declared.typed_places.Place as P

abbrev pub place_in : P.Place → Place
place_in p = record { type = type_of p.ty.now; address = exp_of p.address.now; path = path_of p.path.now }

-- the read in what a read is before the heap is written
abbrev pub read_in : Exp → Exp
read_in (If c a b) = b
read_in e = e

abbrev pub is_a_read : Exp → Bool
is_a_read (Read t p path) = true
is_a_read e = false

-- both are scalars, of one type or not, and the place that is read is in its root
pub record AreScalars (g : Scope) (w r : Place) (same : Bool) : Type 0 where
  pub written : CType
  pub read : CType
  pub written_is : scalar_at g w.type w.path ≡ Some written
  pub read_is : scalar_at g r.type r.path ≡ Some read
  pub indexes : HasIndexes r.path (shape_of g.layout r.type)
  pub same_is : same ≡ same_type read written
