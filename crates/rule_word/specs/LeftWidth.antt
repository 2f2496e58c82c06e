-- The width of a word, by a walk along first operands alone: of a well-sorted expression it is the width of its sort. So a checker need
-- not sort an operand to know at which width it is seen, and walks that begin at different rules don't meet.
use Rattle.std.specs.Prelude.{ℕ, Option, Some, None}
use Rattle.c_values.specs.Types.{address_width}
use Rattle.c_values.specs.Layout.{Shape, Record, Row, shape_of}
use Rattle.c_values.specs.Path.{member_spot}
use Rattle.expression_lang.specs.Expression as X
use Rattle.expression_lang.specs.Expression.{Exp, Path}
use Rattle.expression_lang.specs.Sort.{Scope, sort_of, sort_at, shape_in, scalar_sort, word_width, of_shape, of_type}

-- the shape at the end of a path, whatever its indices
abbrev pub shape_there : Path → Shape → Option Shape
shape_there X.Here s = Some s
shape_there (X.IntoField k path) (Record x n align fs) = shape_in (member_spot fs k) (λ s. shape_there path s)
shape_there (X.IntoElement e path) (Row s n) = shape_there path s
shape_there _ _ = None

abbrev pub left_width : Scope → Exp → Option ℕ
left_width g (X.Var x) = word_width (scalar_sort (g.names x))
left_width g (X.WordLit w) = Some w.width
left_width g (X.WordBinary op a b) = left_width g a
left_width g (X.WordShift op a n) = left_width g a
left_width g (X.WordUnary op a) = left_width g a
left_width g (X.Cast op m a) = Some m
left_width g (X.ToWord m a) = Some m
left_width g (X.If c a b) = left_width g a
left_width g (X.Padd t p n) = Some (address_width g.layout.target)
left_width g (X.At t p path) = Some (address_width g.layout.target)
left_width g (X.Load t p path) = word_width (of_shape (shape_there path (shape_of g.layout t)) sort_at)
left_width g (X.Read t p path) = word_width (of_shape (shape_there path (shape_of g.layout t)) sort_at)
left_width g (X.Global x path) =
    word_width (of_type (g.globals x) (λ t. of_shape (shape_there path (shape_of g.layout t)) sort_at))
-- in the language of assertions alone
left_width g (X.Sel e path) = word_width (sort_of g (X.Sel e path))
left_width g (X.Upd e path v) = word_width (sort_of g (X.Upd e path v))
left_width g e = None
