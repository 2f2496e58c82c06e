-- Expressions as trees.
use Rattle.std.specs.Prelude.{ℕ, ◌^◌, ◌==◌, nat_lt, Bool, true, false, ◌&&◌, ◌||◌, [], ◌∷◌, codes}
use Rattle.std.specs.Fmt.{decimal}
use Rattle.c_values.specs.Name.{Name}
use Rattle.c_values.specs.Number as N
use Rattle.expression_lang.specs.Expression as E
use Rattle.expression_lang.specs.CodeShape as S
use Rattle.ac_sx.specs.Tree.{Tree, Trees, Atom, Node, no_trees, more}
use Rattle.expression_text.specs.declared.heads.Head.{Head}
use Rattle.expression_text.specs.declared.heads.Head.TheVariants as H
use Rattle.expression_text.specs.Names.{is_name}
use Rattle.expression_text.specs.Numbers.{number_text, is_number}
use Rattle.expression_text.specs.TypeText.{row, type_tree, is_type}
use Rattle.expression_text.specs.Head.{head_word}
use Rattle.expression_text.specs.Row.{one_head, two_head, root_head, place_head}

abbrev pub truth_word : Bool → Name
truth_word true = codes "#t"
truth_word false = codes "#f"

-- a list that begins with a head
abbrev pub headed : Head → Trees → Tree
headed h ts = Node (more (Atom (head_word h)) ts)

-- a step into a member or an element
abbrev pub field_word : Name
field_word = codes "f"

abbrev pub element_word : Name
element_word = codes "i"

abbrev mutual
  pub exp_tree : E.Exp → Tree
  exp_tree (E.Var x) = Atom x
  exp_tree (E.WordLit w) = headed H.Word (row (Atom (decimal w.width) ∷ Atom (decimal w.bits) ∷ []))
  exp_tree (E.NumberLit n) = Atom (number_text n)
  exp_tree (E.TruthLit b) = Atom (truth_word b)
  exp_tree (E.WordBinary op a b) = headed (two_head (S.BinaryTwo op)) (row (exp_tree a ∷ exp_tree b ∷ []))
  exp_tree (E.WordShift op a n) = headed (two_head (S.ShiftTwo op)) (row (exp_tree a ∷ exp_tree n ∷ []))
  exp_tree (E.WordUnary op a) = headed (one_head (S.UnaryOne op)) (row (exp_tree a ∷ []))
  exp_tree (E.WordCompare op a b) = headed (two_head (S.CompareTwo op)) (row (exp_tree a ∷ exp_tree b ∷ []))
  exp_tree (E.Cast op width a) = headed (one_head (S.CastOne op width)) (row (Atom (decimal width) ∷ exp_tree a ∷ []))
  exp_tree (E.ToNat a) = headed (one_head S.ToNatOne) (row (exp_tree a ∷ []))
  exp_tree (E.ToInt a) = headed (one_head S.ToIntOne) (row (exp_tree a ∷ []))
  exp_tree (E.ToWord width a) = headed (one_head (S.ToWordOne width)) (row (Atom (decimal width) ∷ exp_tree a ∷ []))
  exp_tree (E.Arith op a b) = headed (two_head (S.ArithTwo op)) (row (exp_tree a ∷ exp_tree b ∷ []))
  exp_tree (E.Negate a) = headed (one_head S.NegateOne) (row (exp_tree a ∷ []))
  exp_tree (E.Lt a b) = headed (two_head S.LtTwo) (row (exp_tree a ∷ exp_tree b ∷ []))
  exp_tree (E.Le a b) = headed (two_head S.LeTwo) (row (exp_tree a ∷ exp_tree b ∷ []))
  exp_tree (E.Between low a high) = headed H.Between (row (Atom (number_text low) ∷ exp_tree a ∷ Atom (number_text high) ∷ []))
  exp_tree (E.Eq a b) = headed (two_head S.EqTwo) (row (exp_tree a ∷ exp_tree b ∷ []))
  exp_tree (E.And a b) = headed (two_head S.AndTwo) (row (exp_tree a ∷ exp_tree b ∷ []))
  exp_tree (E.Or a b) = headed (two_head S.OrTwo) (row (exp_tree a ∷ exp_tree b ∷ []))
  exp_tree (E.Imp a b) = headed (two_head S.ImpTwo) (row (exp_tree a ∷ exp_tree b ∷ []))
  exp_tree (E.Not a) = headed (one_head S.NotOne) (row (exp_tree a ∷ []))
  exp_tree (E.If c a b) = headed H.If (row (exp_tree c ∷ exp_tree a ∷ exp_tree b ∷ []))
  exp_tree (E.Padd t p n) = headed H.Padd (row (type_tree t ∷ exp_tree p ∷ exp_tree n ∷ []))
  exp_tree (E.At t p path) = headed (place_head S.AtPlace) (more (type_tree t) (more (exp_tree p) (step_trees path)))
  exp_tree (E.Load t p path) = headed (place_head S.LoadPlace) (more (type_tree t) (more (exp_tree p) (step_trees path)))
  exp_tree (E.Read t p path) = headed (place_head S.ReadPlace) (more (type_tree t) (more (exp_tree p) (step_trees path)))
  exp_tree (E.Tagged t p) = headed (root_head S.TaggedRoot) (row (type_tree t ∷ exp_tree p ∷ []))
  exp_tree (E.PtrOk t p) = headed (root_head S.PtrOkRoot) (row (type_tree t ∷ exp_tree p ∷ []))
  exp_tree (E.Global x path) = headed H.Global (more (Atom x) (step_trees path))
  exp_tree (E.Sel e path) = headed H.Sel (more (exp_tree e) (step_trees path))
  exp_tree (E.Upd e path v) = headed H.Upd (row (exp_tree e ∷ Node (step_trees path) ∷ exp_tree v ∷ []))

  -- a step for each part
  pub step_trees : E.Path → Trees
  step_trees E.Here = no_trees
  step_trees (E.IntoField k path) = more (Node (row (Atom field_word ∷ Atom (decimal k) ∷ []))) (step_trees path)
  step_trees (E.IntoElement e path) = more (Node (row (Atom element_word ∷ exp_tree e ∷ []))) (step_trees path)

abbrev pub is_width : ℕ → Bool
is_width n = n == 8 || n == 16 || n == 32 || n == 64

-- a negation takes one number
abbrev pub is_of_two : N.NumberOp → Bool
is_of_two N.Neg = false
is_of_two _ = true

abbrev pub is_one_step : E.Path → Bool
is_one_step E.Here = false
is_one_step (E.IntoField k E.Here) = true
is_one_step (E.IntoField k _) = false
is_one_step (E.IntoElement e E.Here) = true
is_one_step (E.IntoElement e _) = false

abbrev mutual
  -- Which expressions have a text that says what they are: names are names, numbers have a magnitude below 2^128, words have a width and
  -- fit it, members have 32 bits, and a part is selected by one step.
  pub is_exp : E.Exp → Bool
  is_exp (E.Var x) = is_name x
  is_exp (E.WordLit w) = is_width w.width && nat_lt w.bits (2 ^ w.width)
  is_exp (E.NumberLit n) = is_number n
  is_exp (E.TruthLit b) = true
  is_exp (E.WordBinary op a b) = is_exp a && is_exp b
  is_exp (E.WordShift op a n) = is_exp a && is_exp n
  is_exp (E.WordUnary op a) = is_exp a
  is_exp (E.WordCompare op a b) = is_exp a && is_exp b
  is_exp (E.Cast op width a) = is_width width && is_exp a
  is_exp (E.ToNat a) = is_exp a
  is_exp (E.ToInt a) = is_exp a
  is_exp (E.ToWord width a) = is_width width && is_exp a
  is_exp (E.Arith op a b) = is_of_two op && (is_exp a && is_exp b)
  is_exp (E.Negate a) = is_exp a
  is_exp (E.Lt a b) = is_exp a && is_exp b
  is_exp (E.Le a b) = is_exp a && is_exp b
  is_exp (E.Between low a high) = is_number low && (is_exp a && is_number high)
  is_exp (E.Eq a b) = is_exp a && is_exp b
  is_exp (E.And a b) = is_exp a && is_exp b
  is_exp (E.Or a b) = is_exp a && is_exp b
  is_exp (E.Imp a b) = is_exp a && is_exp b
  is_exp (E.Not a) = is_exp a
  is_exp (E.If c a b) = is_exp c && (is_exp a && is_exp b)
  is_exp (E.Padd t p n) = is_type t && (is_exp p && is_exp n)
  is_exp (E.At t p path) = is_type t && (is_exp p && is_path path)
  is_exp (E.Load t p path) = is_type t && (is_exp p && is_path path)
  is_exp (E.Read t p path) = is_type t && (is_exp p && is_path path)
  is_exp (E.Tagged t p) = is_type t && is_exp p
  is_exp (E.PtrOk t p) = is_type t && is_exp p
  is_exp (E.Global x path) = is_name x && is_path path
  is_exp (E.Sel e path) = is_exp e && (is_one_step path && is_path path)
  is_exp (E.Upd e path v) = is_exp e && (is_path path && is_exp v)

  pub is_path : E.Path → Bool
  is_path E.Here = true
  is_path (E.IntoField k path) = nat_lt k (2 ^ 32) && is_path path
  is_path (E.IntoElement e path) = is_exp e && is_path path
