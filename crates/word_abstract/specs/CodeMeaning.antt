-- What an expression on words stands for before it is seen one way: at a base, a word's constant, the same however it is seen, a choice
-- of two that are seen alike, or an extended word. So each expression is abstracted once, and not once for each way it is seen in.
use Rattle.std.specs.Prelude.{ℕ, Bool, true, false, List, Option, Some, None}
use Rattle.c_values.specs.Name.{Name}
use Rattle.c_values.specs.Word.{Word, unsigned, signed, WordOp, UnaryOp, WordTest, Wult, Wule, Wslt, Wsle}
use Rattle.expression_lang.specs.Expression as X
use Rattle.expression_lang.specs.Expression.{Exp, Path}
use Rattle.expression_lang.specs.Sort.{Kind, WordKind, NatKind, IntKind, BoolKind, Scope, sort_of}
use Rattle.expression_lang.specs.Signature.{Binder}
use Rattle.expression_lang.specs.CodeShape.{Leaf, VarLeaf, WordLeaf, NumberLeaf, TruthLeaf, One, UnaryOne, CastOne, ToNatOne, ToIntOne, ToWordOne, NegateOne, NotOne, Two, BinaryTwo, ShiftTwo, CompareTwo, ArithTwo, LtTwo, LeTwo, EqTwo, AndTwo, OrTwo, ImpTwo, whole_one, whole_two}
use Rattle.ac_expr.specs.Fact.{Whole, NotTrue}
use Rattle.rule_trees.specs.RuleTree.{Trees, no_trees, tree}
use Rattle.rule_word.specs.Rule as R
use Rattle.rule_word.specs.Rule.{Rule, View, AsIs, Unsigned, Signed}
use Rattle.rule_word.specs.Scopes.{names_in, width_in}
use Rattle.rule_word.specs.Bases.{Surroundings, under, Base, Words, Naturals, Integers, first_base}
use Rattle.rule_word.specs.WordsAbstracted.{Abstracted, made, one, two, as_word, Operands, or_zero, binary_base, binary_at, negation_base, unary_at, order, equality_kind}

-- how a word is seen, whatever its width
pub data Seen : Type 0 where
  AsWord : Seen
  AsNatural : Seen
  AsInteger : Seen

abbrev pub seen_in : View → Seen
seen_in (AsIs o) = AsWord
seen_in (Unsigned n) = AsNatural
seen_in (Signed n) = AsInteger

abbrev pub seen_for : Kind → Seen
seen_for (WordKind n) = AsWord
seen_for (NatKind n) = AsNatural
seen_for (IntKind n) = AsInteger
seen_for BoolKind = AsWord

pub data Standing : Type 0 where
  -- a word of the width, at a base
  At : Base → ℕ → Abstracted → Standing
  Constant : Word → Standing
  Fixed : Abstracted → Standing
  Chosen : Abstracted → Standing → Standing → Standing
  -- of the number that its operand stands for, to the width
  Extended : ℕ → Abstracted → Standing

abbrev pub to_natural : Abstracted → Abstracted
to_natural x = made R.Unat (X.ToNat x.right) (one x)

abbrev pub to_integer : Abstracted → Abstracted
to_integer x = made R.Sint (X.ToInt x.right) (one x)

abbrev pub seen_at : Base → ℕ → Seen → Abstracted → Abstracted
seen_at Words n AsWord x = x
seen_at Words n AsNatural x = to_natural x
seen_at Words n AsInteger x = to_integer x
seen_at Naturals n AsWord x = as_word Naturals n x
seen_at Naturals n AsNatural x = x
seen_at Naturals n AsInteger x = to_integer (as_word Naturals n x)
seen_at Integers n AsWord x = as_word Integers n x
seen_at Integers n AsNatural x = to_natural (as_word Integers n x)
seen_at Integers n AsInteger x = x

abbrev pub constant_seen : Seen → Word → Abstracted
constant_seen AsWord w = made R.Const (X.WordLit w) no_trees
constant_seen AsNatural w = made R.Const (X.NumberLit (unsigned w)) no_trees
constant_seen AsInteger w = made R.Const (X.NumberLit (signed w)) no_trees

abbrev pub zero_extended : Abstracted → Abstracted
zero_extended x = made R.Zext x.right (one x)

abbrev pub extended_seen : Seen → ℕ → Abstracted → Abstracted
extended_seen AsWord m x = made (R.Word (NatKind m)) (X.ToWord m x.right) (one (zero_extended x))
extended_seen AsNatural m x = zero_extended x
extended_seen AsInteger m x = zero_extended x

abbrev pub chosen : Abstracted → Abstracted → Abstracted → Abstracted
chosen t x y = made R.Cond (X.If t.right x.right y.right) (tree t.tree (two x y))

-- what it is, seen so
abbrev pub meaning : Standing → Seen → Abstracted
meaning (At b n x) s = seen_at b n s x
meaning (Constant w) s = constant_seen s w
meaning (Fixed x) s = x
meaning (Chosen t a b) s = chosen t (meaning a s) (meaning b s)
meaning (Extended m x) s = extended_seen s m x

abbrev pub word_of : Standing → Abstracted
word_of a = meaning a AsWord

-- the base of a word
abbrev pub base_at : Standing → Base
base_at (At b n x) = b
base_at (Constant w) = Words
base_at (Fixed x) = Words
base_at (Chosen t a b) = Words
base_at (Extended m x) = Naturals

abbrev pub both : Standing → Standing → Operands
both a b =
    record { words = (word_of a, word_of b); naturals = (meaning a AsNatural, meaning b AsNatural); integers = (meaning a AsInteger, meaning b AsInteger) }

-- at each head

abbrev pub operator : Exp → Trees Rule → Standing
operator e ts = At Words 0 (made R.Op e ts)

abbrev pub var_standing : Option Kind → Name → Standing
var_standing None x = Fixed (made R.Var (X.Var x) no_trees)
var_standing (Some (WordKind n)) x = At Words n (made R.Var (X.Var x) no_trees)
var_standing (Some (NatKind n)) x = At Naturals n (made R.Var (X.Var x) no_trees)
var_standing (Some (IntKind n)) x = At Integers n (made R.Var (X.Var x) no_trees)
var_standing (Some BoolKind) x = Fixed (made R.Var (X.Var x) no_trees)

abbrev pub leaf_standing : (Name → Option Kind) → Leaf → Standing
leaf_standing kinds (VarLeaf x) = var_standing (kinds x) x
leaf_standing kinds (WordLeaf w) = Constant w
leaf_standing kinds (NumberLeaf n) = Fixed (made R.Const (X.NumberLit n) no_trees)
leaf_standing kinds (TruthLeaf b) = Fixed (made R.Const (X.TruthLit b) no_trees)

abbrev pub over_word : One → Abstracted → Standing
over_word h x = operator (whole_one h x.right) (one x)

abbrev pub sign_extended : ℕ → Abstracted → Standing
sign_extended m x = At Integers m (made R.Sext x.right (one x))

abbrev pub cast_standing : Bool → X.CastOp → ℕ → Standing → Standing
cast_standing true X.Zext m a = Extended m (meaning a AsNatural)
cast_standing true X.Sext m a = sign_extended m (meaning a AsInteger)
cast_standing numbers op m a = over_word (CastOne op m) (word_of a)

abbrev pub negated : UnaryOp → ℕ → Base → Standing → Standing
negated op n b a = At b n (unary_at op b (word_of a) (meaning a AsNatural) (meaning a AsInteger))

abbrev pub natural_of : Abstracted → Standing
natural_of x = Fixed (made R.Nat x.right (one x))

abbrev pub integer_of : Abstracted → Standing
integer_of x = Fixed (made R.Int x.right (one x))

abbrev pub denied : Abstracted → Standing
denied x = Fixed (made R.Logic (X.Not x.right) (one x))

abbrev pub test_seen : WordTest → Seen
test_seen Wult = AsNatural
test_seen Wule = AsNatural
test_seen Wslt = AsInteger
test_seen Wsle = AsInteger

abbrev pub ordered : WordTest → Abstracted → Abstracted → Standing
ordered test x y = Fixed (made R.Order (order test x.right y.right) (two x y))

abbrev pub tested : WordTest → Abstracted → Abstracted → Standing
tested test x y = Fixed (made R.Op (X.WordCompare test x.right y.right) (two x y))

abbrev pub compared : Bool → WordTest → Standing → Standing → Standing
compared true test a b = ordered test (meaning a (test_seen test)) (meaning b (test_seen test))
compared false test a b = tested test (word_of a) (word_of b)

abbrev pub equated : Kind → Abstracted → Abstracted → Standing
equated k x y = Fixed (made (R.Eq k) (X.Eq x.right y.right) (two x y))

abbrev pub equal : Option Kind → Standing → Standing → Standing
equal (Some k) a b = equated k (meaning a (seen_for k)) (meaning b (seen_for k))
equal None a b = let x = word_of a in let y = word_of b in Fixed (made R.Op (X.Eq x.right y.right) (two x y))

abbrev pub connected : Two → Abstracted → Abstracted → Standing
connected h x y = Fixed (made R.Logic (whole_two h x.right y.right) (two x y))

abbrev pub over_words : Two → Abstracted → Abstracted → Standing
over_words h x y = operator (whole_two h x.right y.right) (two x y)

module _ (same : Exp → Exp → Bool) (numbers : Bool) (g : Scope) (names : List Binder) where
  abbrev pub negation_at : Surroundings → UnaryOp → ℕ → Standing → Base
  negation_at k op n a = negation_base same numbers k n op (meaning a AsNatural) (meaning a AsInteger)

  abbrev pub operation_at : Surroundings → WordOp → ℕ → Standing → Standing → Base
  operation_at k op n a b = binary_base same numbers k n op (both a b)

  abbrev pub operation : Surroundings → WordOp → ℕ → Standing → Standing → Standing
  operation k op n a b = let base = operation_at k op n a b in At base n (binary_at op base (both a b))

  abbrev pub one_standing : Surroundings → One → ℕ → Standing → Standing
  one_standing k (UnaryOne op) n a = negated op n (negation_at k op n a) a
  one_standing k (CastOne op m) n a = cast_standing numbers op m a
  one_standing k ToNatOne n a = natural_of (meaning a AsNatural)
  one_standing k ToIntOne n a = integer_of (meaning a AsInteger)
  one_standing k (ToWordOne m) n a = over_word (ToWordOne m) (word_of a)
  one_standing k NegateOne n a = over_word NegateOne (word_of a)
  one_standing k NotOne n a = denied (word_of a)

  -- of two operands that stand under the same, the first being this one
  abbrev pub two_standing : Surroundings → Two → Exp → Standing → Standing → Standing
  two_standing k (BinaryTwo op) e a b = operation k op (or_zero (width_in g e)) a b
  two_standing k (CompareTwo test) e a b = compared numbers test a b
  two_standing k EqTwo e a b = equal (equality_kind (sort_of g e) (first_base (base_at a) (base_at b))) a b
  two_standing k h e a b = over_words h (word_of a) (word_of b)

  abbrev mutual
    pub standing : Surroundings → Exp → Standing
    standing k (X.Var x) = var_standing (names_in (λ j. j) names x) x
    standing k (X.WordLit w) = Constant w
    standing k (X.NumberLit n) = Fixed (made R.Const (X.NumberLit n) no_trees)
    standing k (X.TruthLit b) = Fixed (made R.Const (X.TruthLit b) no_trees)
    standing k (X.WordBinary op a b) = operation k op (or_zero (width_in g a)) (standing k a) (standing k b)
    standing k (X.WordShift op a n) = over_words (ShiftTwo op) (word_of (standing k a)) (word_of (standing k n))
    standing k (X.WordUnary op a) = one_standing k (UnaryOne op) (or_zero (width_in g a)) (standing k a)
    standing k (X.WordCompare test a b) = compared numbers test (standing k a) (standing k b)
    standing k (X.Cast op m a) = one_standing k (CastOne op m) 0 (standing k a)
    standing k (X.ToNat a) = one_standing k ToNatOne 0 (standing k a)
    standing k (X.ToInt a) = one_standing k ToIntOne 0 (standing k a)
    standing k (X.ToWord m a) = one_standing k (ToWordOne m) 0 (standing k a)
    standing k (X.Arith op a b) = over_words (ArithTwo op) (word_of (standing k a)) (word_of (standing k b))
    standing k (X.Negate a) = one_standing k NegateOne 0 (standing k a)
    standing k (X.Lt a b) = over_words LtTwo (word_of (standing k a)) (word_of (standing k b))
    standing k (X.Le a b) = over_words LeTwo (word_of (standing k a)) (word_of (standing k b))
    standing k (X.Between low a high) = let x = word_of (standing k a) in operator (X.Between low x.right high) (one x)
    standing k (X.Eq a b) =
        equal (equality_kind (sort_of g a) (first_base (base_at (standing k a)) (base_at (standing k b)))) (standing k a) (standing k b)
    standing k (X.And a b) =
        let x = word_of (standing k a) in connected AndTwo x (word_of (standing (under (Whole x.right) k) b))
    standing k (X.Or a b) =
        let x = word_of (standing k a) in connected OrTwo x (word_of (standing (under (NotTrue x.right) k) b))
    standing k (X.Imp a b) =
        let x = word_of (standing k a) in connected ImpTwo x (word_of (standing (under (Whole x.right) k) b))
    standing k (X.Not a) = one_standing k NotOne 0 (standing k a)
    standing k (X.If c a b) =
        let t = word_of (standing k c) in Chosen t (standing (under (Whole t.right) k) a) (standing (under (NotTrue t.right) k) b)
    standing k (X.Padd t p n) =
        let x = word_of (standing k p) in
        let y = word_of (standing k n) in operator (X.Padd t x.right y.right) (two x y)
    standing k (X.At t p path) =
        let x = word_of (standing k p) in operator (X.At t x.right (path_standing k path)) (tree x.tree (path_trees k path no_trees))
    standing k (X.Load t p path) =
        let x = word_of (standing k p) in operator (X.Load t x.right (path_standing k path)) (tree x.tree (path_trees k path no_trees))
    standing k (X.Read t p path) =
        let x = word_of (standing k p) in operator (X.Read t x.right (path_standing k path)) (tree x.tree (path_trees k path no_trees))
    standing k (X.Tagged t p) = let x = word_of (standing k p) in operator (X.Tagged t x.right) (one x)
    standing k (X.PtrOk t p) = let x = word_of (standing k p) in operator (X.PtrOk t x.right) (one x)
    standing k (X.Global x path) = operator (X.Global x (path_standing k path)) (path_trees k path no_trees)
    standing k (X.Sel e path) =
        let x = word_of (standing k e) in operator (X.Sel x.right (path_standing k path)) (tree x.tree (path_trees k path no_trees))
    standing k (X.Upd e path w) =
        let x = word_of (standing k e) in
        let y = word_of (standing k w) in
        operator (X.Upd x.right (path_standing k path) y.right) (tree x.tree (path_trees k path (one y)))

    pub path_standing : Surroundings → Path → Path
    path_standing k X.Here = X.Here
    path_standing k (X.IntoField j path) = X.IntoField j (path_standing k path)
    path_standing k (X.IntoElement e path) = X.IntoElement (word_of (standing k e)).right (path_standing k path)

    pub path_trees : Surroundings → Path → Trees Rule → Trees Rule
    path_trees k X.Here ts = ts
    path_trees k (X.IntoField j path) ts = path_trees k path ts
    path_trees k (X.IntoElement e path) ts = tree (word_of (standing k e)).tree (path_trees k path ts)
