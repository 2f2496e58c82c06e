-- What is asked of an index of what is no array.
use Rattle.std.proofs.Common.{◌≡◌, None, Option, Some}
use Rattle.std.proofs.Common.{List}
use Rattle.c_values.specs.Name.{Name}
use Rattle.c_values.specs.Types.{Struct}
use Rattle.c_values.specs.Layout.{Layout, Shape, Incomplete, Scalar, Record, Row, shape_of}
use Rattle.expression_lang.specs.Expression.{Exp, Path, IntoElement}
use Rattle.expression_lang.specs.CodeAlong.{element_in}
use Rattle.expression_lang.proofs.Sorting.{struct_element}
use Rattle.ac_expr.specs.Fact.{Fact}
use Rattle.rule_heap.specs.Table.{AreInRange}

none_there : (fs : List Fact) (e : Exp) (path : Path) (s : Shape) → element_in s ≡ None → AreInRange fs (IntoElement e path) s → ⊥
none_there fs e path Incomplete h k = k
none_there fs e path (Scalar t width) h k = k
none_there fs e path (Record x size align members) h k = k
none_there fs e path (Row s n) h k = let clash : ◌≡◌ {A = Option Shape} (Some s) None = h in absurd cc

pub no_element : (fs : List Fact) (e : Exp) (path : Path) (l : Layout) (x : Name) → AreInRange fs (IntoElement e path) (shape_of l (Struct x)) → ⊥
no_element fs e path l x = none_there fs e path (shape_of l (Struct x)) (struct_element l x)
