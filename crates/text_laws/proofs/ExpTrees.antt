-- The trees of expressions that have texts are trees of atoms.
use Rattle.std.proofs.Common.{◌≡◌, ℕ, ◌^◌, ◌≤◌, nat_lt, Bool, true, false, ◌&&◌, List, [], ◌∷◌, refl, arith}
use Rattle.std.specs.Fmt.{decimal}
use Rattle.std.proofs.lemmas.Bool.{and_parts, ltb-true}
use Rattle.std.proofs.Math.Nat.{pow-le-pow_right}
use Rattle.c_values.specs.Types as T
use Rattle.c_values.specs.Word.{WordOp, Wadd, ShiftOp, Wshl, UnaryOp, Wneg, Wnot, WordTest, Wult}
use Rattle.c_values.specs.Number as N
use Rattle.expression_lang.specs.Expression.{Exp, CastOp, Zext, Var, WordLit, NumberLit, TruthLit, WordBinary, WordShift, WordUnary, WordCompare, Cast, ToNat, ToInt, ToWord, Arith, Negate, Lt, Le, Between, Eq, And, Or, Imp, Not, If, Padd, At, Load, Read, Tagged, PtrOk, Global, Sel, Upd, Path, Here, IntoField, IntoElement}
use Rattle.ac_sx.specs.Tree.{Tree, IsTree, AreTrees, is_atom}
use Rattle.expression_text.specs.Names.{is_name}
use Rattle.expression_text.specs.Numbers.{is_number}
use Rattle.expression_text.specs.TypeText.{is_type}
use Rattle.expression_text.specs.Head.{head_word}
use Rattle.expression_text.specs.Row.{word_op_head, shift_head, word_test_head, number_op_head, unary_op_head, cast_head}
use Rattle.expression_text.specs.ExpText.{truth_word, exp_tree, step_trees, is_width, is_of_two, is_one_step, is_exp, is_path}
use Rattle.expression_text.specs.Lists.{each, trees_for, exp_trees}
use Rattle.expression_text.proofs.Atoms.{name_atom, decimal_atom, number_atom, width_small, short_atom, type_is_tree}

-- Widths and numbers of words

pub atom_width : (n : ℕ) → is_width n ≡ true → is_atom (decimal n) ≡ true
atom_width n h = let s = width_small n h in decimal_atom n (omega (arith, s))

bits_atom : (n k : ℕ) → is_width n ≡ true → nat_lt k (2 ^ n) ≡ true → is_atom (decimal k) ≡ true
bits_atom n k h l =
    let a : 2 ^ n ≤ 2 ^ 64 = pow-le-pow_right (omega arith) (width_small n h) in
    let b = ltb-true k (2 ^ n) l in
    decimal_atom k (omega (arith, a, b))

-- Words

word_op_atom : (op : WordOp) → is_atom (head_word (word_op_head op)) ≡ true
word_op_atom Wadd = refl
word_op_atom _ = refl

shift_atom : (op : ShiftOp) → is_atom (head_word (shift_head op)) ≡ true
shift_atom Wshl = refl
shift_atom _ = refl

test_atom : (op : WordTest) → is_atom (head_word (word_test_head op)) ≡ true
test_atom Wult = refl
test_atom _ = refl

number_op_atom : (op : N.NumberOp) → is_atom (head_word (number_op_head op)) ≡ true
number_op_atom N.Add = refl
number_op_atom _ = refl

unary_atom : (op : UnaryOp) → is_atom (head_word (unary_op_head op)) ≡ true
unary_atom Wneg = refl
unary_atom Wnot = refl

cast_atom : (op : CastOp) → is_atom (head_word (cast_head op)) ≡ true
cast_atom Zext = refl
cast_atom _ = refl

truth_atom : (b : Bool) → is_atom (truth_word b) ≡ true
truth_atom true = refl
truth_atom false = refl

-- Types

-- Expressions

mutual
  pub exp_is_tree : (e : Exp) → is_exp e ≡ true → IsTree (exp_tree e)
  exp_is_tree (Var x) h = name_atom x h
  exp_is_tree (WordLit w) h =
      let p = and_parts (is_width w.width) (nat_lt w.bits (2 ^ w.width)) h in
      (refl, (atom_width w.width p.0, (bits_atom w.width w.bits p.0 p.1, tt)))
  exp_is_tree (NumberLit n) h = number_atom n h
  exp_is_tree (TruthLit b) h = truth_atom b
  exp_is_tree (WordBinary op a b) h =
      let p0 = and_parts (is_exp a) (is_exp b) h in
      (word_op_atom op, (exp_is_tree a p0.0, (exp_is_tree b p0.1, tt)))
  exp_is_tree (WordShift op a b) h =
      let p0 = and_parts (is_exp a) (is_exp b) h in
      (shift_atom op, (exp_is_tree a p0.0, (exp_is_tree b p0.1, tt)))
  exp_is_tree (WordUnary op a) h =
      (unary_atom op, (exp_is_tree a h, tt))
  exp_is_tree (WordCompare op a b) h =
      let p0 = and_parts (is_exp a) (is_exp b) h in
      (test_atom op, (exp_is_tree a p0.0, (exp_is_tree b p0.1, tt)))
  exp_is_tree (Cast op width a) h =
      let p0 = and_parts (is_width width) (is_exp a) h in
      (cast_atom op, (atom_width width p0.0, (exp_is_tree a p0.1, tt)))
  exp_is_tree (ToNat a) h =
      (refl, (exp_is_tree a h, tt))
  exp_is_tree (ToInt a) h =
      (refl, (exp_is_tree a h, tt))
  exp_is_tree (ToWord width a) h =
      let p0 = and_parts (is_width width) (is_exp a) h in
      (refl, (atom_width width p0.0, (exp_is_tree a p0.1, tt)))
  exp_is_tree (Arith op a b) h =
      let p0 = and_parts (is_of_two op) (is_exp a && is_exp b) h in
      let p1 = and_parts (is_exp a) (is_exp b) p0.1 in
      (number_op_atom op, (exp_is_tree a p1.0, (exp_is_tree b p1.1, tt)))
  exp_is_tree (Negate a) h =
      (refl, (exp_is_tree a h, tt))
  exp_is_tree (Lt a b) h =
      let p0 = and_parts (is_exp a) (is_exp b) h in
      (refl, (exp_is_tree a p0.0, (exp_is_tree b p0.1, tt)))
  exp_is_tree (Le a b) h =
      let p0 = and_parts (is_exp a) (is_exp b) h in
      (refl, (exp_is_tree a p0.0, (exp_is_tree b p0.1, tt)))
  exp_is_tree (Between low a high) h =
      let p0 = and_parts (is_number low) (is_exp a && is_number high) h in
      let p1 = and_parts (is_exp a) (is_number high) p0.1 in
      (refl, (number_atom low p0.0, (exp_is_tree a p1.0, (number_atom high p1.1, tt))))
  exp_is_tree (Eq a b) h =
      let p0 = and_parts (is_exp a) (is_exp b) h in
      (refl, (exp_is_tree a p0.0, (exp_is_tree b p0.1, tt)))
  exp_is_tree (And a b) h =
      let p0 = and_parts (is_exp a) (is_exp b) h in
      (refl, (exp_is_tree a p0.0, (exp_is_tree b p0.1, tt)))
  exp_is_tree (Or a b) h =
      let p0 = and_parts (is_exp a) (is_exp b) h in
      (refl, (exp_is_tree a p0.0, (exp_is_tree b p0.1, tt)))
  exp_is_tree (Imp a b) h =
      let p0 = and_parts (is_exp a) (is_exp b) h in
      (refl, (exp_is_tree a p0.0, (exp_is_tree b p0.1, tt)))
  exp_is_tree (Not a) h =
      (refl, (exp_is_tree a h, tt))
  exp_is_tree (If c a b) h =
      let p0 = and_parts (is_exp c) (is_exp a && is_exp b) h in
      let p1 = and_parts (is_exp a) (is_exp b) p0.1 in
      (refl, (exp_is_tree c p0.0, (exp_is_tree a p1.0, (exp_is_tree b p1.1, tt))))
  exp_is_tree (Padd t a b) h =
      let p0 = and_parts (is_type t) (is_exp a && is_exp b) h in
      let p1 = and_parts (is_exp a) (is_exp b) p0.1 in
      (refl, (type_is_tree t p0.0, (exp_is_tree a p1.0, (exp_is_tree b p1.1, tt))))
  exp_is_tree (At t a path) h =
      let p0 = and_parts (is_type t) (is_exp a && is_path path) h in
      let p1 = and_parts (is_exp a) (is_path path) p0.1 in
      (refl, (type_is_tree t p0.0, (exp_is_tree a p1.0, path_are_trees path p1.1)))
  exp_is_tree (Load t a path) h =
      let p0 = and_parts (is_type t) (is_exp a && is_path path) h in
      let p1 = and_parts (is_exp a) (is_path path) p0.1 in
      (refl, (type_is_tree t p0.0, (exp_is_tree a p1.0, path_are_trees path p1.1)))
  exp_is_tree (Read t a path) h =
      let p0 = and_parts (is_type t) (is_exp a && is_path path) h in
      let p1 = and_parts (is_exp a) (is_path path) p0.1 in
      (refl, (type_is_tree t p0.0, (exp_is_tree a p1.0, path_are_trees path p1.1)))
  exp_is_tree (Tagged t a) h =
      let p0 = and_parts (is_type t) (is_exp a) h in
      (refl, (type_is_tree t p0.0, (exp_is_tree a p0.1, tt)))
  exp_is_tree (PtrOk t a) h =
      let p0 = and_parts (is_type t) (is_exp a) h in
      (refl, (type_is_tree t p0.0, (exp_is_tree a p0.1, tt)))
  exp_is_tree (Global x path) h =
      let p0 = and_parts (is_name x) (is_path path) h in
      (refl, (name_atom x p0.0, path_are_trees path p0.1))
  exp_is_tree (Sel a path) h =
      let p0 = and_parts (is_exp a) (is_one_step path && is_path path) h in
      let p1 = and_parts (is_one_step path) (is_path path) p0.1 in
      (refl, (exp_is_tree a p0.0, path_are_trees path p1.1))
  exp_is_tree (Upd a path b) h =
      let p0 = and_parts (is_exp a) (is_path path && is_exp b) h in
      let p1 = and_parts (is_path path) (is_exp b) p0.1 in
      (refl, (exp_is_tree a p0.0, (path_are_trees path p1.0, (exp_is_tree b p1.1, tt))))

  pub path_are_trees : (path : Path) → is_path path ≡ true → AreTrees (step_trees path)
  path_are_trees Here h = tt
  path_are_trees (IntoField k path) h =
      let p = and_parts (nat_lt k (2 ^ 32)) (is_path path) h in
      ((refl, (short_atom k p.0, tt)), path_are_trees path p.1)
  path_are_trees (IntoElement e path) h =
      let p = and_parts (is_exp e) (is_path path) h in
      ((refl, (exp_is_tree e p.0, tt)), path_are_trees path p.1)

-- Lists

pub each_is_tree : {A : Type 0} (test : A → Bool) (tree : A → Tree) → ((a : A) → test a ≡ true → IsTree (tree a)) →
    (as' : List A) → each test as' ≡ true → AreTrees (trees_for tree as')
each_is_tree test tree f [] h = tt
each_is_tree test tree f (a ∷ as') h =
    let p = and_parts (test a) (each test as') h in (f a p.0, each_is_tree test tree f as' p.1)

pub exps_are_trees : (es : List Exp) → each is_exp es ≡ true → AreTrees (exp_trees es)
exps_are_trees es h = each_is_tree is_exp exp_tree exp_is_tree es h
