-- What the code's rows stand for.
use Rattle.expression_lang.specs.CodeExpression.{cast_op_of}
use Rattle.expression_lang.specs.CodeShapeView.{one_in, two_in, root_in, place_in}
use Rattle.expression_text.specs.declared.rows.Sized as S
use Rattle.expression_text.specs.declared.rows.Row as R
use Rattle.expression_text.specs.Row.{Sized, CastSized, ToWordSized, Row, WordRow, UnaryRow, SizedRow, TwoRow, BetweenRow, IfRow, PaddRow, RootRow, PlaceRow, GlobalRow, SelRow, UpdRow}

abbrev pub sized_in : S.Sized → Sized
sized_in (S.TheVariants.Cast op) = CastSized (cast_op_of op)
sized_in S.TheVariants.ToWord = ToWordSized

abbrev pub row_in : R.Row → Row
row_in R.TheVariants.Word = WordRow
row_in (R.TheVariants.Unary one) = UnaryRow (one_in one)
row_in (R.TheVariants.Sized sized) = SizedRow (sized_in sized)
row_in (R.TheVariants.Two two) = TwoRow (two_in two)
row_in R.TheVariants.Between = BetweenRow
row_in R.TheVariants.If = IfRow
row_in R.TheVariants.Padd = PaddRow
row_in (R.TheVariants.Root root) = RootRow (root_in root)
row_in (R.TheVariants.Place place) = PlaceRow (place_in place)
row_in R.TheVariants.Global = GlobalRow
row_in R.TheVariants.Sel = SelRow
row_in R.TheVariants.Upd = UpdRow
