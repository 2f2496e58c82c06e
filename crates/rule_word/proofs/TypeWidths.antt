-- A struct or an array is no word.
use Rattle.std.proofs.Common.{◌≡◌, None, refl}
use Rattle.c_values.specs.Name.{Name}
use Rattle.c_values.specs.Types.{Struct}
use Rattle.c_values.specs.Layout.{Layout, Shape, Scalar, Row, shape_of}
use Rattle.expression_lang.specs.Sort.{word_width, sort_at}
use Rattle.expression_lang.proofs.Sorting.{struct_is, IsStructShape}

no_word : (s : Shape) → IsStructShape s → word_width (sort_at s) ≡ None
no_word (Scalar t width) h = absurd h
no_word (Row e n) h = absurd h
no_word _ _ = refl

pub struct_width : (l : Layout) (x : Name) → word_width (sort_at (shape_of l (Struct x))) ≡ None
struct_width l x = no_word (shape_of l (Struct x)) (struct_is l x)
