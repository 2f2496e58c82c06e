-- The front of an expression, and what stands behind it, are its text.
use Rattle.std.proofs.Common.{◌≡◌, List, [], ◌∷◌, ◌++◌, Option, Some, None, ap, sym, ◌∙◌, append_assoc}
use Rattle.std.specs.Prelude.{codes}
use Rattle.std.specs.Fmt.{decimal}
use Rattle.std.proofs.lemmas.List.{append-nil}
use Rattle.expression_lang.specs.Expression as E
use Rattle.expression_lang.specs.CodeShape.{One, Two, shape_of}
use Rattle.expression_lang.specs.CodeShape as S
use Rattle.expression_text.specs.declared.heads.Head.{Head}
use Rattle.expression_text.specs.declared.heads.Head.TheVariants as H
use Rattle.expression_text.specs.Head.{head_word}
use Rattle.expression_text.specs.Row.{one_head, two_head, root_head}
use Rattle.expression_text.specs.Numbers.{number_text}
use Rattle.abs_print.specs.Texts.{Text, each_after, parted, listed}
use Rattle.abs_print.specs.Expressions.{sign, placed, type_text, exp_text, step_texts}
use Rattle.abs_print.specs.CodeFronts.{each_before, begun, placed_parts, front, behind}

-- each part with a space behind it, and then the last one
parts_closed : (ps : List Text) (last rest : Text) → each_before ps ++ (last ++ rest) ≡ parted (codes " ") (ps ++ last ∷ []) ++ rest
parts_closed [] last rest = ap (λ t. t ++ rest) (sym (append-nil last))
parts_closed (p ∷ ps) last rest =
    append_assoc p (codes " " ++ each_before ps) (last ++ rest)
    ∙ ap (λ t. p ++ (codes " " ++ t)) (parts_closed ps last rest)
    ∙ joined ps
  where
    joined : (qs : List Text) → p ++ (codes " " ++ (parted (codes " ") (qs ++ last ∷ []) ++ rest)) ≡ parted (codes " ") (p ∷ (qs ++ last ∷ [])) ++ rest
    joined [] = sym (append_assoc p (codes " " ++ (last ++ [])) rest)
    joined (q ∷ qs) = sym (append_assoc p (codes " " ++ (q ++ each_after (codes " ") (qs ++ last ∷ []))) rest)

list_closed : (ps : List Text) (last : Text) → begun ps ++ (last ++ codes ")") ≡ listed (ps ++ last ∷ [])
list_closed ps last = ap (λ t. codes "(" ++ t) (parts_closed ps last (codes ")"))

two_closed : (s : Option Text) (h : Head) (a b : Text) → begun (placed_parts s h a) ++ (b ++ codes ")") ≡ placed s h a b
two_closed (Some s) h a b = list_closed (a ∷ s ∷ []) b
two_closed None h a b = list_closed (head_word h ∷ a ∷ []) b

-- an operation with two operands
of_two_closed : (two : Two) (a b : Text) → begun (placed_parts (sign two) (two_head two) a) ++ (b ++ codes ")") ≡ placed (sign two) (two_head two) a b
of_two_closed two a b = two_closed (sign two) (two_head two) a b

of_one_closed : (one : One) (a : Text) → begun (head_word (one_head one) ∷ []) ++ (a ++ codes ")") ≡ listed (head_word (one_head one) ∷ a ∷ [])
of_one_closed one a = list_closed (head_word (one_head one) ∷ []) a

pub front_behind : (e : E.Exp) → front (shape_of e) ++ behind (shape_of e) ≡ exp_text e
front_behind (E.Var x) = append-nil (exp_text (E.Var x))
front_behind (E.WordLit w) = append-nil (exp_text (E.WordLit w))
front_behind (E.NumberLit n) = append-nil (exp_text (E.NumberLit n))
front_behind (E.TruthLit b) = append-nil (exp_text (E.TruthLit b))
front_behind (E.WordBinary op a b) = of_two_closed (S.BinaryTwo op) (exp_text a) (exp_text b)
front_behind (E.WordShift op a n) = of_two_closed (S.ShiftTwo op) (exp_text a) (exp_text n)
front_behind (E.WordUnary op a) = of_one_closed (S.UnaryOne op) (exp_text a)
front_behind (E.WordCompare op a b) = of_two_closed (S.CompareTwo op) (exp_text a) (exp_text b)
front_behind (E.Cast op width a) = list_closed (head_word (one_head (S.CastOne op width)) ∷ decimal width ∷ []) (exp_text a)
front_behind (E.ToNat a) = of_one_closed S.ToNatOne (exp_text a)
front_behind (E.ToInt a) = of_one_closed S.ToIntOne (exp_text a)
front_behind (E.ToWord width a) = list_closed (head_word (one_head (S.ToWordOne width)) ∷ decimal width ∷ []) (exp_text a)
front_behind (E.Arith op a b) = of_two_closed (S.ArithTwo op) (exp_text a) (exp_text b)
front_behind (E.Negate a) = of_one_closed S.NegateOne (exp_text a)
front_behind (E.Lt a b) = of_two_closed S.LtTwo (exp_text a) (exp_text b)
front_behind (E.Le a b) = of_two_closed S.LeTwo (exp_text a) (exp_text b)
front_behind (E.Between low a high) =
    ap (λ t. codes "(" ++ t)
    (append_assoc (number_text low) (codes " <= ") (exp_text a ++ (codes " <= " ++ (number_text high ++ codes ")")))
    ∙ ap (λ t. number_text low ++ (codes " <= " ++ t)) (last_closed (exp_text a) (number_text high))
    ∙ sym (append_assoc (number_text low) (codes " <= " ++ (exp_text a ++ (codes " <= " ++ (number_text high ++ [])))) (codes ")")))
  where
    last_closed : (x h : Text) → x ++ (codes " <= " ++ (h ++ codes ")")) ≡ (x ++ (codes " <= " ++ (h ++ []))) ++ codes ")"
    last_closed x h =
        ap (λ t. x ++ (codes " <= " ++ (t ++ codes ")"))) (sym (append-nil h))
        ∙ sym (append_assoc x (codes " <= " ++ (h ++ [])) (codes ")"))
front_behind (E.Eq a b) = of_two_closed S.EqTwo (exp_text a) (exp_text b)
front_behind (E.And a b) = of_two_closed S.AndTwo (exp_text a) (exp_text b)
front_behind (E.Or a b) = of_two_closed S.OrTwo (exp_text a) (exp_text b)
front_behind (E.Imp a b) = of_two_closed S.ImpTwo (exp_text a) (exp_text b)
front_behind (E.Not a) = of_one_closed S.NotOne (exp_text a)
front_behind (E.If c a b) = list_closed (head_word H.If ∷ exp_text c ∷ exp_text a ∷ []) (exp_text b)
front_behind (E.Padd t p n) = list_closed (head_word H.Padd ∷ type_text t ∷ exp_text p ∷ []) (exp_text n)
front_behind (E.At t p path) = append-nil (exp_text (E.At t p path))
front_behind (E.Load t p path) = append-nil (exp_text (E.Load t p path))
front_behind (E.Read t p path) = append-nil (exp_text (E.Read t p path))
front_behind (E.Tagged t p) = list_closed (head_word (root_head S.TaggedRoot) ∷ type_text t ∷ []) (exp_text p)
front_behind (E.PtrOk t p) = list_closed (head_word (root_head S.PtrOkRoot) ∷ type_text t ∷ []) (exp_text p)
front_behind (E.Global x path) = append-nil (exp_text (E.Global x path))
front_behind (E.Sel e path) = append-nil (exp_text (E.Sel e path))
front_behind (E.Upd e path v) = list_closed (head_word H.Upd ∷ exp_text e ∷ listed (step_texts path) ∷ []) (exp_text v)

pub behind_front : (e : E.Exp) → exp_text e ≡ front (shape_of e) ++ behind (shape_of e)
behind_front e = sym (front_behind e)
