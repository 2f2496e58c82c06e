-- Each head has a row of its own.
use Rattle.std.proofs.Common.{◌≡◌, Bool, true, false, refl}
use Rattle.std.proofs.lemmas.Bool.{false≢true}
use Rattle.c_values.specs.Word as W
use Rattle.c_values.specs.Number as N
use Rattle.expression_lang.specs.Expression.{Zext}
use Rattle.expression_lang.specs.CodeShape.{One, UnaryOne, CastOne, ToNatOne, ToIntOne, ToWordOne, NegateOne, NotOne, Two, BinaryTwo, ShiftTwo, CompareTwo, ArithTwo, TaggedRoot, AtPlace}
use Rattle.expression_text.specs.declared.heads.Head.{Head}
use Rattle.expression_text.specs.declared.heads.Head.TheVariants as H
use Rattle.expression_text.specs.Row.{Sized, CastSized, ToWordSized, Row, WordRow, UnaryRow, SizedRow, TwoRow, BetweenRow, IfRow, PaddRow, RootRow, PlaceRow, GlobalRow, SelRow, UpdRow, row_of, cast_head, one_head, two_head, root_head, place_head}
use Rattle.expression_text.specs.ExpText.{is_of_two}

abbrev pub sized_head : Sized → Head
sized_head (CastSized op) = cast_head op
sized_head ToWordSized = H.ToWord

abbrev pub row_head : Row → Head
row_head WordRow = H.Word
row_head (UnaryRow one) = one_head one
row_head (SizedRow sized) = sized_head sized
row_head (TwoRow two) = two_head two
row_head BetweenRow = H.Between
row_head IfRow = H.If
row_head PaddRow = H.Padd
row_head (RootRow root) = root_head root
row_head (PlaceRow place) = place_head place
row_head GlobalRow = H.Global
row_head SelRow = H.Sel
row_head UpdRow = H.Upd

-- a width stands in a row of its own
abbrev pub is_bare : One → Bool
is_bare (UnaryOne op) = true
is_bare (CastOne op width) = false
is_bare ToNatOne = true
is_bare ToIntOne = true
is_bare (ToWordOne width) = false
is_bare NegateOne = true
is_bare NotOne = true

abbrev pub is_pair : Two → Bool
is_pair (ArithTwo op) = is_of_two op
is_pair _ = true

abbrev pub is_row : Row → Bool
is_row (UnaryRow one) = is_bare one
is_row (TwoRow two) = is_pair two
is_row _ = true

pub head_of_row : (h : Head) → row_head (row_of h) ≡ h
head_of_row H.Word = refl
head_of_row _ = refl

pub head_has_row : (h : Head) → is_row (row_of h) ≡ true
head_has_row H.Word = refl
head_has_row _ = refl

pub row_of_head : (r : Row) → is_row r ≡ true → row_of (row_head r) ≡ r
row_of_head (UnaryRow (UnaryOne W.Wneg)) e = refl
row_of_head (SizedRow (CastSized Zext)) e = refl
row_of_head (TwoRow (BinaryTwo W.Wadd)) e = refl
row_of_head (TwoRow (ShiftTwo W.Wshl)) e = refl
row_of_head (TwoRow (CompareTwo W.Wult)) e = refl
row_of_head (RootRow TaggedRoot) e = refl
row_of_head (PlaceRow AtPlace) e = refl
row_of_head (UnaryRow (CastOne op width)) e = absurd (false≢true e)
row_of_head (UnaryRow (ToWordOne width)) e = absurd (false≢true e)
row_of_head (TwoRow (ArithTwo N.Neg)) e = absurd (false≢true e)
row_of_head _ _ = refl
