-- Words made numbers: the right side, and the tree of rules that leads there. A sum goes by its own rule at its base, and through the
-- word that it is at every other kind; an equality at the base of its sides.
use Rattle.std.specs.Prelude.{ℕ, Bool, true, false, List, Option, Some, None}
use Rattle.c_values.specs.Name.{Name}
use Rattle.c_values.specs.Word.{unsigned, signed, WordOp, Wadd, Wsub, Wmul, Wudiv, Wumod, Wsdiv, Wsmod, UnaryOp, Wneg, Wnot, WordTest, Wult, Wule, Wslt, Wsle}
use Rattle.c_values.specs.Number as N
use Rattle.expression_lang.specs.Expression as X
use Rattle.expression_lang.specs.Expression.{Exp, Path}
use Rattle.expression_lang.specs.Sort.{Kind, WordKind, NatKind, IntKind, BoolKind, Sort, Of, WordSort, TruthSort, Scope, sort_of}
use Rattle.expression_lang.specs.Signature.{Binder}
use Rattle.ac_expr.specs.Fact.{Whole, NotTrue}
use Rattle.rule_trees.specs.RuleTree.{Tree, Trees, node, no_trees, tree}
use Rattle.rule_word.specs.Rule as R
use Rattle.rule_word.specs.Rule.{Rule, View, AsIs, Unsigned, Signed}
use Rattle.rule_word.specs.Scopes.{names_in, view_for, own, width_in}
use Rattle.rule_word.specs.Table.{truth}
use Rattle.rule_word.specs.Bases.{Surroundings, under, Base, Words, Naturals, Integers, base_of_kind, kind_at_base, base_in, signed_base_in, where_numbers, first_base}

pub record Abstracted : Type 0 where
  pub right : Exp
  pub tree : Tree Rule

abbrev pub made : Rule → Exp → Trees Rule → Abstracted
made rule a ts = record { right = a; tree = node rule ts }

abbrev pub one : Abstracted → Trees Rule
one a = tree a.tree no_trees

abbrev pub two : Abstracted → Abstracted → Trees Rule
two a b = tree a.tree (tree b.tree no_trees)

-- what stands for a word of the width at a base, seen in another way
abbrev pub as_word : Base → ℕ → Abstracted → Abstracted
as_word Words n x = x
as_word Naturals n x = made (R.Word (NatKind n)) (X.ToWord n x.right) (one x)
as_word Integers n x = made (R.Word (IntKind n)) (X.ToWord n x.right) (one x)

abbrev pub seen_from : Base → ℕ → View → Abstracted → Abstracted
seen_from Naturals n (Unsigned m) x = x
seen_from Integers n (Signed m) x = x
seen_from base n (AsIs o) x = as_word base n x
seen_from base n (Unsigned m) x = let w = as_word base n x in made R.Unat (X.ToNat w.right) (one w)
seen_from base n (Signed m) x = let w = as_word base n x in made R.Sint (X.ToInt w.right) (one w)

-- by the rule for a head that no other rule is for
abbrev pub by_head : View → Exp → Trees Rule → Abstracted
by_head v a ts = seen_from Words 0 v (made R.Op a ts)

abbrev pub or_zero : Option ℕ → ℕ
or_zero None = 0
or_zero (Some n) = n

-- two operands, at each base
pub record Operands : Type 0 where
  pub words : Abstracted × Abstracted
  pub naturals : Abstracted × Abstracted
  pub integers : Abstracted × Abstracted

abbrev pub by_op : Exp → Abstracted × Abstracted → Abstracted
by_op e ab = made R.Op e (two ab.0 ab.1)

abbrev pub by_rule : Rule → N.NumberOp → Abstracted × Abstracted → Abstracted
by_rule rule o ab = made rule (X.Arith o ab.0.right ab.1.right) (two ab.0 ab.1)

abbrev pub at_base : Base → Abstracted → Abstracted → Abstracted → Abstracted
at_base Words w n i = w
at_base Naturals w n i = n
at_base Integers w n i = i

abbrev pub words_of : WordOp → Operands → Abstracted
words_of op os = by_op (X.WordBinary op os.words.0.right os.words.1.right) os.words

-- the base of an operation, and what it is there
abbrev pub binary_base : (Exp → Exp → Bool) → Bool → Surroundings → ℕ → WordOp → Operands → Base
binary_base same numbers fs n Wadd os =
    base_in same numbers fs n (X.Arith N.Add os.naturals.0.right os.naturals.1.right)
    (X.Arith N.Add os.integers.0.right os.integers.1.right)
binary_base same numbers fs n Wsub os =
    base_in same numbers fs n (X.Arith N.Sub os.naturals.0.right os.naturals.1.right)
    (X.Arith N.Sub os.integers.0.right os.integers.1.right)
binary_base same numbers fs n Wmul os =
    base_in same numbers fs n (X.Arith N.Mul os.naturals.0.right os.naturals.1.right)
    (X.Arith N.Mul os.integers.0.right os.integers.1.right)
binary_base same numbers fs n Wsdiv os =
    signed_base_in same numbers fs n (X.Arith N.Div os.integers.0.right os.integers.1.right)
binary_base same numbers fs n Wudiv os = where_numbers numbers Naturals
binary_base same numbers fs n Wumod os = where_numbers numbers Naturals
binary_base same numbers fs n Wsmod os = where_numbers numbers Integers
binary_base same numbers fs n op os = Words

abbrev pub binary_at : WordOp → Base → Operands → Abstracted
binary_at Wadd b os = at_base b (words_of Wadd os) (by_rule R.Add N.Add os.naturals) (by_rule R.Add N.Add os.integers)
binary_at Wsub b os = at_base b (words_of Wsub os) (by_rule R.Sub N.Sub os.naturals) (by_rule R.Sub N.Sub os.integers)
binary_at Wmul b os = at_base b (words_of Wmul os) (by_rule R.Mul N.Mul os.naturals) (by_rule R.Mul N.Mul os.integers)
binary_at Wudiv b os = at_base b (words_of Wudiv os) (by_rule R.Udiv N.Div os.naturals) (words_of Wudiv os)
binary_at Wumod b os = at_base b (words_of Wumod os) (by_rule R.Umod N.Mod os.naturals) (words_of Wumod os)
binary_at Wsdiv b os = at_base b (words_of Wsdiv os) (words_of Wsdiv os) (by_rule R.Sdiv N.Div os.integers)
binary_at Wsmod b os = at_base b (words_of Wsmod os) (words_of Wsmod os) (by_rule R.Smod N.Mod os.integers)
binary_at op b os = words_of op os

abbrev pub negation_base : (Exp → Exp → Bool) → Bool → Surroundings → ℕ → UnaryOp → Abstracted → Abstracted → Base
negation_base same numbers fs n Wneg natural integer =
    base_in same numbers fs n (X.Negate natural.right) (X.Negate integer.right)
negation_base same numbers fs n Wnot natural integer = Words

abbrev pub unary_at : UnaryOp → Base → Abstracted → Abstracted → Abstracted → Abstracted
unary_at Wneg b word natural integer =
    at_base b (made R.Op (X.WordUnary Wneg word.right) (one word)) (made R.Neg (X.Negate natural.right) (one natural))
    (made R.Neg (X.Negate integer.right) (one integer))
unary_at Wnot b word natural integer = made R.Op (X.WordUnary Wnot word.right) (one word)

abbrev pub is_signed_test : WordTest → Bool
is_signed_test Wult = false
is_signed_test Wule = false
is_signed_test Wslt = true
is_signed_test Wsle = true

abbrev pub order : WordTest → Exp → Exp → Exp
order Wult a b = X.Lt a b
order Wule a b = X.Le a b
order Wslt a b = X.Lt a b
order Wsle a b = X.Le a b

abbrev pub view_of_test : WordTest → ℕ → View
view_of_test Wult n = Unsigned n
view_of_test Wule n = Unsigned n
view_of_test Wslt n = Signed n
view_of_test Wsle n = Signed n

-- the kind at which an equality is, where its sides aren't numbers
abbrev pub equality_kind : Option Sort → Base → Option Kind
equality_kind (Some (Of (WordSort n))) b = Some (kind_at_base b n)
equality_kind (Some (Of TruthSort)) b = Some BoolKind
equality_kind o b = None

abbrev pub constant_at : View → Exp → Abstracted
constant_at (Unsigned n) (X.WordLit w) = made R.Const (X.NumberLit (unsigned w)) no_trees
constant_at (Signed n) (X.WordLit w) = made R.Const (X.NumberLit (signed w)) no_trees
constant_at v e = made R.Const e no_trees

abbrev pub var_at : Option Kind → Name → View → Abstracted
var_at None x v = made R.Var (X.Var x) no_trees
var_at (Some (WordKind n)) x v = seen_from Words n v (made R.Var (X.Var x) no_trees)
var_at (Some (NatKind n)) x v = seen_from Naturals n v (made R.Var (X.Var x) no_trees)
var_at (Some (IntKind n)) x v = seen_from Integers n v (made R.Var (X.Var x) no_trees)
var_at (Some BoolKind) x v = made R.Var (X.Var x) no_trees

abbrev pub var_base : Option Kind → Base
var_base None = Words
var_base (Some k) = base_of_kind k

-- a path, and the trees of its indices before others
pub record Indices : Type 0 where
  pub path : Path
  pub trees : Trees Rule

-- an extended word: of the numbers that its operand stands for
abbrev pub extended : View → ℕ → Abstracted → Abstracted
extended (AsIs o) m x = made (R.Word (NatKind m)) (X.ToWord m x.right) (one (made R.Zext x.right (one x)))
extended (Unsigned k) m x = made R.Zext x.right (one x)
extended (Signed k) m x = made R.Zext x.right (one x)

abbrev pub extended_signed : View → ℕ → Abstracted → Abstracted
extended_signed v m x = seen_from Integers m v (made R.Sext x.right (one x))

-- two operands whose parts are seen in each way
abbrev pub operands : (View → Abstracted) → (View → Abstracted) → View → View → ℕ → Operands
operands f g v w n =
    record { words = (f v, g w); naturals = (f (Unsigned n), g (Unsigned n)); integers = (f (Signed n), g (Signed n)) }

abbrev pub compared : Bool → WordTest → (View → Abstracted) → (View → Abstracted) → View → View → ℕ → Abstracted
compared true test f g v w n =
    let x = f (view_of_test test n) in
    let y = g (view_of_test test n) in made R.Order (order test x.right y.right) (two x y)
compared false test f g v w n =
    let x = f v in
    let y = g w in made R.Op (X.WordCompare test x.right y.right) (two x y)

abbrev pub cast_at : Bool → X.CastOp → ℕ → View → (View → Abstracted) → View → ℕ → Abstracted
cast_at true X.Zext m v f w n = extended v m (f (Unsigned n))
cast_at true X.Sext m v f w n = extended_signed v m (f (Signed n))
cast_at numbers op m v f w n = let x = f w in by_head v (X.Cast op m x.right) (one x)

abbrev pub equal : (View → Abstracted) → (View → Abstracted) → View → View → Option Kind → Abstracted
equal f g v w (Some k) =
    let x = f (view_for k) in
    let y = g (view_for k) in made (R.Eq k) (X.Eq x.right y.right) (two x y)
equal f g v w None =
    let x = f v in
    let y = g w in made R.Op (X.Eq x.right y.right) (two x y)

-- Of a level, at which words are numbers or stay words; in a scope of words, with the kinds that the names have on the right.
module _ (same : Exp → Exp → Bool) (numbers : Bool) (g : Scope) (names : List Binder) where
  abbrev mutual
    pub abstracted : Surroundings → Exp → View → Abstracted
    abstracted fs (X.Var x) v = var_at (names_in (λ k. k) names x) x v
    abstracted fs (X.WordLit w) v = constant_at v (X.WordLit w)
    abstracted fs (X.NumberLit n) v = constant_at v (X.NumberLit n)
    abstracted fs (X.TruthLit b) v = constant_at v (X.TruthLit b)
    abstracted fs (X.WordBinary op a b) v =
        let n = or_zero (width_in g a) in
        let os = operands (λ w. abstracted fs a w) (λ w. abstracted fs b w) (own g a) (own g b) n in
        let base = binary_base same numbers fs n op os in seen_from base n v (binary_at op base os)
    abstracted fs (X.WordShift op a n) v =
        let x = abstracted fs a (own g a) in
        let y = abstracted fs n (own g n) in by_head v (X.WordShift op x.right y.right) (two x y)
    abstracted fs (X.WordUnary op a) v =
        let n = or_zero (width_in g a) in
        let natural = abstracted fs a (Unsigned n) in
        let integer = abstracted fs a (Signed n) in
        let base = negation_base same numbers fs n op natural integer in seen_from base n v
        (unary_at op base (abstracted fs a (own g a)) natural integer)
    abstracted fs (X.WordCompare test a b) v =
        compared numbers test (λ w. abstracted fs a w) (λ w. abstracted fs b w) (own g a) (own g b)
        (or_zero (width_in g a))
    abstracted fs (X.Cast op m a) v = cast_at numbers op m v (λ w. abstracted fs a w) (own g a) (or_zero (width_in g a))
    abstracted fs (X.ToNat a) v =
        let x = abstracted fs a (Unsigned (or_zero (width_in g a))) in made R.Nat x.right (one x)
    abstracted fs (X.ToInt a) v =
        let x = abstracted fs a (Signed (or_zero (width_in g a))) in made R.Int x.right (one x)
    abstracted fs (X.ToWord m a) v = let x = abstracted fs a (own g a) in by_head v (X.ToWord m x.right) (one x)
    abstracted fs (X.Arith op a b) v =
        let x = abstracted fs a (own g a) in
        let y = abstracted fs b (own g b) in by_head v (X.Arith op x.right y.right) (two x y)
    abstracted fs (X.Negate a) v = let x = abstracted fs a (own g a) in by_head v (X.Negate x.right) (one x)
    abstracted fs (X.Lt a b) v =
        let x = abstracted fs a (own g a) in
        let y = abstracted fs b (own g b) in by_head v (X.Lt x.right y.right) (two x y)
    abstracted fs (X.Le a b) v =
        let x = abstracted fs a (own g a) in
        let y = abstracted fs b (own g b) in by_head v (X.Le x.right y.right) (two x y)
    abstracted fs (X.Between low a high) v =
        let x = abstracted fs a (own g a) in by_head v (X.Between low x.right high) (one x)
    abstracted fs (X.Eq a b) v =
        equal (λ w. abstracted fs a w) (λ w. abstracted fs b w) (own g a) (own g b)
        (equality_kind (sort_of g a) (first_base (base_of fs a) (base_of fs b)))
    abstracted fs (X.And a b) v =
        let x = abstracted fs a truth in
        let y = abstracted (under (Whole x.right) fs) b truth in made R.Logic (X.And x.right y.right) (two x y)
    abstracted fs (X.Or a b) v =
        let x = abstracted fs a truth in
        let y = abstracted (under (NotTrue x.right) fs) b truth in made R.Logic (X.Or x.right y.right) (two x y)
    abstracted fs (X.Imp a b) v =
        let x = abstracted fs a truth in
        let y = abstracted (under (Whole x.right) fs) b truth in made R.Logic (X.Imp x.right y.right) (two x y)
    abstracted fs (X.Not a) v = let x = abstracted fs a truth in made R.Logic (X.Not x.right) (one x)
    abstracted fs (X.If c a b) v =
        let t = abstracted fs c truth in
        let x = abstracted (under (Whole t.right) fs) a v in
        let y = abstracted (under (NotTrue t.right) fs) b v in made R.Cond (X.If t.right x.right y.right)
        (tree t.tree (two x y))
    abstracted fs (X.Padd t p n) v =
        let x = abstracted fs p (own g p) in
        let y = abstracted fs n (own g n) in by_head v (X.Padd t x.right y.right) (two x y)
    abstracted fs (X.At t p path) v =
        let x = abstracted fs p (own g p) in
        let i = indices fs path no_trees in by_head v (X.At t x.right i.path) (tree x.tree i.trees)
    abstracted fs (X.Load t p path) v =
        let x = abstracted fs p (own g p) in
        let i = indices fs path no_trees in by_head v (X.Load t x.right i.path) (tree x.tree i.trees)
    abstracted fs (X.Read t p path) v =
        let x = abstracted fs p (own g p) in
        let i = indices fs path no_trees in by_head v (X.Read t x.right i.path) (tree x.tree i.trees)
    abstracted fs (X.Tagged t p) v = let x = abstracted fs p (own g p) in by_head v (X.Tagged t x.right) (one x)
    abstracted fs (X.PtrOk t p) v = let x = abstracted fs p (own g p) in by_head v (X.PtrOk t x.right) (one x)
    abstracted fs (X.Global x path) v = let i = indices fs path no_trees in by_head v (X.Global x i.path) i.trees
    abstracted fs (X.Sel e path) v =
        let x = abstracted fs e (own g e) in
        let i = indices fs path no_trees in by_head v (X.Sel x.right i.path) (tree x.tree i.trees)
    abstracted fs (X.Upd e path w) v =
        let x = abstracted fs e (own g e) in
        let y = abstracted fs w (own g w) in
        let i = indices fs path (one y) in by_head v (X.Upd x.right i.path y.right) (tree x.tree i.trees)

    pub indices : Surroundings → Path → Trees Rule → Indices
    indices fs X.Here ts = record { path = X.Here; trees = ts }
    indices fs (X.IntoField k path) ts =
        let i = indices fs path ts in record { path = X.IntoField k i.path; trees = i.trees }
    indices fs (X.IntoElement e path) ts =
        let x = abstracted fs e (own g e) in
        let i = indices fs path ts in record { path = X.IntoElement x.right i.path; trees = tree x.tree i.trees }

    pub base_of : Surroundings → Exp → Base
    base_of fs (X.Var x) = var_base (names_in (λ k. k) names x)
    base_of fs (X.WordBinary op a b) =
        let n = or_zero (width_in g a) in binary_base same numbers fs n op
        (operands (λ w. abstracted fs a w) (λ w. abstracted fs b w) (own g a) (own g b) n)
    base_of fs (X.WordUnary op a) =
        let n = or_zero (width_in g a) in negation_base same numbers fs n op (abstracted fs a (Unsigned n))
        (abstracted fs a (Signed n))
    base_of fs (X.Cast X.Zext m a) = where_numbers numbers Naturals
    base_of fs (X.Cast X.Sext m a) = where_numbers numbers Integers
    base_of fs e = Words
