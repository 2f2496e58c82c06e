-- Expressions by their shapes, as the code writes them: the front of a list, and then its last part.
use Rattle.std.specs.Prelude.{List, [], ◌∷◌, ◌++◌, Option, Some, None, codes}
use Rattle.std.specs.Fmt.{decimal}
use Rattle.expression_lang.specs.CodeShape.{One, CastOne, ToWordOne, Two, Shape, LeafShape, OneShape, TwoShape, BetweenShape, IfShape, PaddShape, RootShape, PlaceShape, GlobalShape, SelShape, UpdShape, whole_leaf}
use Rattle.expression_text.specs.declared.heads.Head.{Head}
use Rattle.expression_text.specs.declared.heads.Head.TheVariants as H
use Rattle.expression_text.specs.Head.{head_word}
use Rattle.expression_text.specs.Row.{one_head, two_head, root_head, place_head}
use Rattle.expression_text.specs.Numbers.{number_text}
use Rattle.abs_print.specs.Texts.{Text, listed}
use Rattle.abs_print.specs.Expressions.{headed, sign, type_text, exp_text, step_texts}

-- each part, and a space behind it
abbrev pub each_before : List Text → Text
each_before [] = []
each_before (p ∷ ps) = p ++ (codes " " ++ each_before ps)

-- a list as far as its last part
abbrev pub begun : List Text → Text
begun ps = codes "(" ++ each_before ps

-- all parts but the last
abbrev pub one_parts : One → List Text
one_parts (CastOne op width) = head_word (one_head (CastOne op width)) ∷ decimal width ∷ []
one_parts (ToWordOne width) = head_word (one_head (ToWordOne width)) ∷ decimal width ∷ []
one_parts one = head_word (one_head one) ∷ []

abbrev pub placed_parts : Option Text → Head → Text → List Text
placed_parts (Some s) h a = a ∷ s ∷ []
placed_parts None h a = head_word h ∷ a ∷ []

abbrev pub two_parts : Two → Text → List Text
two_parts two a = placed_parts (sign two) (two_head two) a

-- All before the last part. Where there is no part, or steps stand behind it, that is all.
abbrev pub front : Shape → Text
front (LeafShape l) = exp_text (whole_leaf l)
front (OneShape one a) = begun (one_parts one)
front (TwoShape two a b) = begun (two_parts two (exp_text a))
front (BetweenShape low a high) = begun (number_text low ∷ codes "<=" ∷ [])
front (IfShape c a b) = begun (head_word H.If ∷ exp_text c ∷ exp_text a ∷ [])
front (PaddShape t p n) = begun (head_word H.Padd ∷ type_text t ∷ exp_text p ∷ [])
front (RootShape root t p) = begun (head_word (root_head root) ∷ type_text t ∷ [])
front (PlaceShape place t p path) = headed (place_head place) (type_text t ∷ exp_text p ∷ step_texts path)
front (GlobalShape x path) = headed H.Global (x ∷ step_texts path)
front (SelShape e path) = headed H.Sel (exp_text e ∷ step_texts path)
front (UpdShape e path v) = begun (head_word H.Upd ∷ exp_text e ∷ listed (step_texts path) ∷ [])

-- the last part, and the end of its list
abbrev pub behind : Shape → Text
behind (LeafShape l) = []
behind (OneShape one a) = exp_text a ++ codes ")"
behind (TwoShape two a b) = exp_text b ++ codes ")"
behind (BetweenShape low a high) = exp_text a ++ (codes " <= " ++ (number_text high ++ codes ")"))
behind (IfShape c a b) = exp_text b ++ codes ")"
behind (PaddShape t p n) = exp_text n ++ codes ")"
behind (RootShape root t p) = exp_text p ++ codes ")"
behind (PlaceShape place t p path) = []
behind (GlobalShape x path) = []
behind (SelShape e path) = []
behind (UpdShape e path v) = exp_text v ++ codes ")"
