-- Expressions in do-notation: as certificates have them, a word before its operands, but for the operations on numbers and truth values
-- that have a sign, which stands between its operands. Each operation has parentheses of its own, so no sign binds more than another.
use Rattle.std.specs.Prelude.{List, [], ◌∷◌, Option, Some, None, codes}
use Rattle.std.specs.Fmt.{decimal}
use Rattle.c_values.specs.Types.{CType}
use Rattle.c_values.specs.Number as N
use Rattle.ac_sx.specs.Tree.{spelling}
use Rattle.expression_lang.specs.Expression as E
use Rattle.expression_lang.specs.CodeShape as S
use Rattle.expression_text.specs.declared.heads.Head.{Head}
use Rattle.expression_text.specs.declared.heads.Head.TheVariants as H
use Rattle.expression_text.specs.Head.{head_word}
use Rattle.expression_text.specs.Row.{one_head, two_head, root_head, place_head}
use Rattle.expression_text.specs.Numbers.{number_text}
use Rattle.expression_text.specs.TypeText.{type_tree}
use Rattle.expression_text.specs.ExpText.{truth_word, field_word, element_word}
use Rattle.abs_print.specs.Texts.{Text, listed}

-- a word and its operands
abbrev pub headed : Head → List Text → Text
headed h ps = listed (head_word h ∷ ps)

-- the sign between two operands, where there is one
abbrev pub sign : S.Two → Option Text
sign (S.ArithTwo N.Add) = Some (codes "+")
sign (S.ArithTwo N.Sub) = Some (codes "-")
sign (S.ArithTwo N.Mul) = Some (codes "*")
sign (S.ArithTwo N.Div) = Some (codes "/")
sign (S.ArithTwo N.Mod) = Some (codes "%")
sign S.LtTwo = Some (codes "<")
sign S.LeTwo = Some (codes "<=")
sign S.EqTwo = Some (codes "=")
sign S.AndTwo = Some (codes "&")
sign S.OrTwo = Some (codes "|")
sign S.ImpTwo = Some (codes "==>")
sign _ = None

abbrev pub placed : Option Text → Head → Text → Text → Text
placed (Some s) h a b = listed (a ∷ s ∷ b ∷ [])
placed None h a b = headed h (a ∷ b ∷ [])

-- an operation with two operands: its sign between them, or else its word before them
abbrev pub of_two : S.Two → Text → Text → Text
of_two two a b = placed (sign two) (two_head two) a b

abbrev pub type_text : CType → Text
type_text t = spelling (type_tree t)

abbrev mutual
  pub exp_text : E.Exp → Text
  exp_text (E.Var x) = x
  exp_text (E.WordLit w) = headed H.Word (decimal w.width ∷ decimal w.bits ∷ [])
  exp_text (E.NumberLit n) = number_text n
  exp_text (E.TruthLit b) = truth_word b
  exp_text (E.WordBinary op a b) = of_two (S.BinaryTwo op) (exp_text a) (exp_text b)
  exp_text (E.WordShift op a n) = of_two (S.ShiftTwo op) (exp_text a) (exp_text n)
  exp_text (E.WordUnary op a) = headed (one_head (S.UnaryOne op)) (exp_text a ∷ [])
  exp_text (E.WordCompare op a b) = of_two (S.CompareTwo op) (exp_text a) (exp_text b)
  exp_text (E.Cast op width a) = headed (one_head (S.CastOne op width)) (decimal width ∷ exp_text a ∷ [])
  exp_text (E.ToNat a) = headed (one_head S.ToNatOne) (exp_text a ∷ [])
  exp_text (E.ToInt a) = headed (one_head S.ToIntOne) (exp_text a ∷ [])
  exp_text (E.ToWord width a) = headed (one_head (S.ToWordOne width)) (decimal width ∷ exp_text a ∷ [])
  exp_text (E.Arith op a b) = of_two (S.ArithTwo op) (exp_text a) (exp_text b)
  exp_text (E.Negate a) = headed (one_head S.NegateOne) (exp_text a ∷ [])
  exp_text (E.Lt a b) = of_two S.LtTwo (exp_text a) (exp_text b)
  exp_text (E.Le a b) = of_two S.LeTwo (exp_text a) (exp_text b)
  exp_text (E.Between low a high) = listed (number_text low ∷ codes "<=" ∷ exp_text a ∷ codes "<=" ∷ number_text high ∷ [])
  exp_text (E.Eq a b) = of_two S.EqTwo (exp_text a) (exp_text b)
  exp_text (E.And a b) = of_two S.AndTwo (exp_text a) (exp_text b)
  exp_text (E.Or a b) = of_two S.OrTwo (exp_text a) (exp_text b)
  exp_text (E.Imp a b) = of_two S.ImpTwo (exp_text a) (exp_text b)
  exp_text (E.Not a) = headed (one_head S.NotOne) (exp_text a ∷ [])
  exp_text (E.If c a b) = headed H.If (exp_text c ∷ exp_text a ∷ exp_text b ∷ [])
  exp_text (E.Padd t p n) = headed H.Padd (type_text t ∷ exp_text p ∷ exp_text n ∷ [])
  exp_text (E.At t p path) = headed (place_head S.AtPlace) (type_text t ∷ exp_text p ∷ step_texts path)
  exp_text (E.Load t p path) = headed (place_head S.LoadPlace) (type_text t ∷ exp_text p ∷ step_texts path)
  exp_text (E.Read t p path) = headed (place_head S.ReadPlace) (type_text t ∷ exp_text p ∷ step_texts path)
  exp_text (E.Tagged t p) = headed (root_head S.TaggedRoot) (type_text t ∷ exp_text p ∷ [])
  exp_text (E.PtrOk t p) = headed (root_head S.PtrOkRoot) (type_text t ∷ exp_text p ∷ [])
  exp_text (E.Global x path) = headed H.Global (x ∷ step_texts path)
  exp_text (E.Sel e path) = headed H.Sel (exp_text e ∷ step_texts path)
  exp_text (E.Upd e path v) = headed H.Upd (exp_text e ∷ listed (step_texts path) ∷ exp_text v ∷ [])

  -- a step for each part
  pub step_texts : E.Path → List Text
  step_texts E.Here = []
  step_texts (E.IntoField k path) = listed (field_word ∷ decimal k ∷ []) ∷ step_texts path
  step_texts (E.IntoElement e path) = listed (element_word ∷ exp_text e ∷ []) ∷ step_texts path
