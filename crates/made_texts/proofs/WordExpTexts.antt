-- What stands for a well-sorted expression where words are numbers has a text where the expression has one, and so has the tree of rules
-- that leads there.
use Rattle.std.proofs.Common.{◌≡◌, ℕ, ◌+◌, ◌^◌, ◌≤◌, ◌<◌, nat_lt, Bool, true, false, ◌&&◌, List, [], ◌∷◌, ◌++◌, Option, Some, None, ℤ, pos, refl, ap, subst, ◌∙◌, arith}
use Rattle.std.proofs.lemmas.Bool.{and_parts, and_from, lt-ltb, ltb-true}
use Rattle.std.proofs.Math.Nat.{pow-le-pow_right}
use Rattle.c_values.specs.Name.{Name}
use Rattle.c_values.specs.Layout.{IsLayout}
use Rattle.c_values.specs.Number as N
use Rattle.c_values.specs.Word.{Word, unsigned, signed, WordOp, Wadd, Wsub, Wmul, Wand, Wor, Wxor, Wudiv, Wumod, Wsdiv, Wsmod, UnaryOp, Wneg, Wnot, WordTest, Wult, Wule, Wslt, Wsle}
use Rattle.c_values.proofs.WordValues.{IsSigned, low, high, signed_is}
use Rattle.expression_lang.specs.Expression as X
use Rattle.expression_lang.specs.Expression.{Exp, Path}
use Rattle.expression_lang.specs.Sort.{WordSort, TruthSort, Kind, WordKind, NatKind, IntKind, BoolKind, Sort, Of, Scope, sort_of, word_width, word_sort, is_kind}
use Rattle.expression_lang.specs.Signature.{Binder}
use Rattle.expression_lang.proofs.Inversion.{words_inv, word_inv, width_inv}
use Rattle.expression_text.specs.Names.{is_name}
use Rattle.expression_text.specs.Numbers.{is_number}
use Rattle.expression_text.specs.TypeText.{is_type}
use Rattle.expression_text.specs.ExpText.{is_width, is_of_two, is_one_step, is_exp, is_path}
use Rattle.expression_text.proofs.Atoms.{width_small}
use Rattle.ac_expr.specs.Fact.{Whole, NotTrue}
use Rattle.ac_expr.specs.Heads.{path_children}
use Rattle.ac_expr.proofs.PartsSorted.{IsSorted, AreSorted, children_sorted}
use Rattle.rule_trees.specs.RuleTree.{Trees, no_trees, count}
use Rattle.rule_word.specs.Rule as R
use Rattle.rule_word.specs.Rule.{Rule, View, AsIs, Unsigned, Signed}
use Rattle.rule_word.specs.Scopes.{names_in, own, width_in, view_for}
use Rattle.rule_word.specs.Table.{truth}
use Rattle.rule_word.specs.Bases.{Surroundings, under, Base, Words, Naturals, Integers, first_base}
use Rattle.rule_word.specs.WordsAbstracted.{Abstracted, made, one, two, as_word, seen_from, by_head, or_zero, Operands, by_rule, at_base, words_of, binary_base, binary_at, negation_base, unary_at, order, view_of_test, equality_kind, constant_at, var_at, Indices, extended, operands, compared, cast_at, equal, abstracted, indices, base_of}
use Rattle.rule_word.proofs.Widths.{IsWide, expression_wide}
use Rattle.rule_text.specs.Arities.{fits}
use Rattle.rule_text.specs.WordText.{arity, has_text, is_tree}
use Rattle.rule_text.specs.RuleText as trees
use Rattle.made_texts.proofs.HeapTexts.{least}

abbrev pub are_trees : Trees Rule → Bool
are_trees = trees.are_trees arity has_text

pub record HaveTexts (x : Abstracted) : Type 0 where
  pub program : is_exp x.right ≡ true
  pub rules : is_tree x.tree ≡ true

-- by a rule over one part and over two

pub by_one : (rule : Rule) (a : Exp) (x : Abstracted) → fits (arity rule) 1 && has_text rule ≡ true → is_exp a ≡ true →
    HaveTexts x → HaveTexts (made rule a (one x))
by_one rule a x f h k = record { program = h; rules = and_from _ _ f (and_from _ _ k.rules refl) }

pub by_two : (rule : Rule) (a : Exp) (x y : Abstracted) → fits (arity rule) 2 && has_text rule ≡ true → is_exp a ≡ true →
    HaveTexts x → HaveTexts y → HaveTexts (made rule a (two x y))
by_two rule a x y f h k l = record { program = h; rules = and_from _ _ f (and_from _ _ k.rules (and_from _ _ l.rules refl)) }

-- Numbers of words

small : (n m : ℕ) → is_width n ≡ true → m ≤ 2 ^ n → m < 2 ^ 128
small n m w h =
    let a : 2 ^ n ≤ 2 ^ 64 = pow-le-pow_right (omega arith) (width_small n w) in
    omega (arith, a)

unsigned_text : (n m : ℕ) → is_width n ≡ true → m < 2 ^ n → is_number (pos m) ≡ true
unsigned_text n m w h = lt-ltb m (2 ^ 128) (small n m w (omega arith))

signed_text : (n m : ℕ) (k : ℤ) → is_width n ≡ true → m < 2 ^ n → IsSigned n m k → is_number k ≡ true
signed_text n m k w h (low i) = unsigned_text n m w h
signed_text n m k w h (high {c} i e) = lt-ltb (c + 1) (2 ^ 128) (small n (c + 1) w (omega arith))

word_text : (w : Word) → is_width w.width && nat_lt w.bits (2 ^ w.width) ≡ true →
    (is_number (unsigned w) ≡ true) × (is_number (signed w) ≡ true)
word_text w h =
    let p = and_parts (is_width w.width) (nat_lt w.bits (2 ^ w.width)) h in
    let l = ltb-true w.bits (2 ^ w.width) p.1 in (
      unsigned_text w.width w.bits p.0 l,
      signed_text w.width w.bits (signed w) p.0 l (signed_is w.width w.bits l),
    )

constant_texts : (v : View) (w : Word) → is_width w.width && nat_lt w.bits (2 ^ w.width) ≡ true →
    HaveTexts (constant_at v (X.WordLit w))
constant_texts (AsIs o) w h = record { program = h; rules = refl }
constant_texts (Unsigned n) w h = record { program = (word_text w h).0; rules = refl }
constant_texts (Signed n) w h = record { program = (word_text w h).1; rules = refl }

number_texts : (v : View) (k : ℤ) → is_number k ≡ true → HaveTexts (constant_at v (X.NumberLit k))
number_texts (AsIs o) k h = record { program = h; rules = refl }
number_texts (Unsigned n) k h = record { program = h; rules = refl }
number_texts (Signed n) k h = record { program = h; rules = refl }

truth_texts : (v : View) (b : Bool) → HaveTexts (constant_at v (X.TruthLit b))
truth_texts (AsIs o) b = record { program = refl; rules = refl }
truth_texts (Unsigned n) b = record { program = refl; rules = refl }
truth_texts (Signed n) b = record { program = refl; rules = refl }

-- Words and numbers in place of one another

as_word_texts : (b : Base) (n : ℕ) (x : Abstracted) → is_width n ≡ true → HaveTexts x → HaveTexts (as_word b n x)
as_word_texts Words n x w h = h
as_word_texts Naturals n x w h = by_one (R.Word (NatKind n)) _ x w (and_from _ _ w h.program) h
as_word_texts Integers n x w h = by_one (R.Word (IntKind n)) _ x w (and_from _ _ w h.program) h

nat_texts : (x : Abstracted) → HaveTexts x → HaveTexts (made R.Unat (X.ToNat x.right) (one x))
nat_texts x h = by_one R.Unat _ x refl h.program h

int_texts : (x : Abstracted) → HaveTexts x → HaveTexts (made R.Sint (X.ToInt x.right) (one x))
int_texts x h = by_one R.Sint _ x refl h.program h

seen_texts : (b : Base) (n : ℕ) (v : View) (x : Abstracted) → is_width n ≡ true → HaveTexts x → HaveTexts (seen_from b n v x)
seen_texts b n (AsIs o) x w h = as_word_texts b n x w h
seen_texts Words n (Unsigned m) x w h = nat_texts x h
seen_texts Integers n (Unsigned m) x w h = nat_texts _ (as_word_texts Integers n x w h)
seen_texts Words n (Signed m) x w h = int_texts x h
seen_texts Naturals n (Signed m) x w h = int_texts _ (as_word_texts Naturals n x w h)
seen_texts _ _ _ _ _ h = h

seen_words : (n : ℕ) (v : View) (x : Abstracted) → HaveTexts x → HaveTexts (seen_from Words n v x)
seen_words n (AsIs o) x h = h
seen_words n (Unsigned m) x h = nat_texts x h
seen_words n (Signed m) x h = int_texts x h

head_texts : (v : View) (a : Exp) (ts : Trees Rule) → is_exp a ≡ true → are_trees ts ≡ true → HaveTexts (by_head v a ts)
head_texts v a ts h k =
    seen_words 0 v (made R.Op a ts) (record {
      program = h;
      rules = and_from _ _ (and_from _ _ (least 0 (count ts) (omega arith)) refl) k;
    })

var_texts : (o : Option Kind) (x : Name) (v : View) → ((k : Kind) → o ≡ Some k → is_kind k ≡ true) → is_name x ≡ true →
    HaveTexts (var_at o x v)
var_texts None x v w h = record { program = h; rules = refl }
var_texts (Some (WordKind n)) x v w h = seen_words n v _ (record { program = h; rules = refl })
var_texts (Some (NatKind n)) x v w h = seen_texts Naturals n v _ (w (NatKind n) refl) (record { program = h; rules = refl })
var_texts (Some (IntKind n)) x v w h = seen_texts Integers n v _ (w (IntKind n) refl) (record { program = h; rules = refl })
var_texts (Some BoolKind) x v w h = record { program = h; rules = refl }

-- Operations

based : (b : Base) (w n i : Abstracted) → HaveTexts w → HaveTexts n → HaveTexts i → HaveTexts (at_base b w n i)
based Words w n i h k l = h
based Naturals w n i h k l = k
based Integers w n i h k l = l

record HaveBothTexts (os : Operands) : Type 0 where
  words_left : HaveTexts os.words.0
  words_right : HaveTexts os.words.1
  naturals_left : HaveTexts os.naturals.0
  naturals_right : HaveTexts os.naturals.1
  integers_left : HaveTexts os.integers.0
  integers_right : HaveTexts os.integers.1

module _ (os : Operands) (h : HaveBothTexts os) where
  words_texts : (op : WordOp) → HaveTexts (words_of op os)
  words_texts op = record {
    program = and_from _ _ h.words_left.program h.words_right.program;
    rules = and_from _ _ refl (and_from _ _ h.words_left.rules (and_from _ _ h.words_right.rules refl));
  }

  natural_texts : (rule : Rule) (o : N.NumberOp) → fits (arity rule) 2 && has_text rule ≡ true → is_of_two o ≡ true →
      HaveTexts (by_rule rule o os.naturals)
  natural_texts rule o f k =
      by_two rule _ os.naturals.0 os.naturals.1 f
      (and_from _ _ k (and_from _ _ h.naturals_left.program h.naturals_right.program)) h.naturals_left h.naturals_right

  integer_texts : (rule : Rule) (o : N.NumberOp) → fits (arity rule) 2 && has_text rule ≡ true → is_of_two o ≡ true →
      HaveTexts (by_rule rule o os.integers)
  integer_texts rule o f k =
      by_two rule _ os.integers.0 os.integers.1 f
      (and_from _ _ k (and_from _ _ h.integers_left.program h.integers_right.program)) h.integers_left h.integers_right

  binary_texts : (op : WordOp) (b : Base) → HaveTexts (binary_at op b os)
  binary_texts Wadd b =
      based b _ _ _ (words_texts Wadd) (natural_texts R.Add N.Add refl refl) (integer_texts R.Add N.Add refl refl)
  binary_texts Wsub b =
      based b _ _ _ (words_texts Wsub) (natural_texts R.Sub N.Sub refl refl) (integer_texts R.Sub N.Sub refl refl)
  binary_texts Wmul b =
      based b _ _ _ (words_texts Wmul) (natural_texts R.Mul N.Mul refl refl) (integer_texts R.Mul N.Mul refl refl)
  binary_texts Wudiv b =
      based b _ _ _ (words_texts Wudiv) (natural_texts R.Udiv N.Div refl refl) (words_texts Wudiv)
  binary_texts Wumod b =
      based b _ _ _ (words_texts Wumod) (natural_texts R.Umod N.Mod refl refl) (words_texts Wumod)
  binary_texts Wsdiv b =
      based b _ _ _ (words_texts Wsdiv) (words_texts Wsdiv) (integer_texts R.Sdiv N.Div refl refl)
  binary_texts Wsmod b =
      based b _ _ _ (words_texts Wsmod) (words_texts Wsmod) (integer_texts R.Smod N.Mod refl refl)
  binary_texts Wand b = words_texts Wand
  binary_texts Wor b = words_texts Wor
  binary_texts Wxor b = words_texts Wxor

op_over_one : (a : Exp) (x : Abstracted) → is_exp a ≡ true → HaveTexts x → HaveTexts (made R.Op a (one x))
op_over_one a x h k = record { program = h; rules = and_from _ _ refl (and_from _ _ k.rules refl) }

op_over_two : (a : Exp) (x y : Abstracted) → is_exp a ≡ true → HaveTexts x → HaveTexts y → HaveTexts (made R.Op a (two x y))
op_over_two a x y h k l = record { program = h; rules = and_from _ _ refl (and_from _ _ k.rules (and_from _ _ l.rules refl)) }

unary_texts : (op : UnaryOp) (b : Base) (word natural integer : Abstracted) → HaveTexts word → HaveTexts natural →
    HaveTexts integer → HaveTexts (unary_at op b word natural integer)
unary_texts Wneg b word natural integer h k l =
    based b _ _ _ (op_over_one _ word h.program h) (by_one R.Neg _ natural refl k.program k)
    (by_one R.Neg _ integer refl l.program l)
unary_texts Wnot b word natural integer h k l = op_over_one _ word h.program h

order_text : (test : WordTest) (a b : Exp) → is_exp a ≡ true → is_exp b ≡ true → is_exp (order test a b) ≡ true
order_text Wult a b h k = and_from _ _ h k
order_text Wule a b h k = and_from _ _ h k
order_text Wslt a b h k = and_from _ _ h k
order_text Wsle a b h k = and_from _ _ h k

-- parts that have texts however they are seen
module _ (f f' : View → Abstracted) (h : (v : View) → HaveTexts (f v)) (h' : (v : View) → HaveTexts (f' v)) where
  both_texts : (v w : View) (n : ℕ) → HaveBothTexts (operands f f' v w n)
  both_texts v w n = record {
    words_left = h v;
    words_right = h' w;
    naturals_left = h (Unsigned n);
    naturals_right = h' (Unsigned n);
    integers_left = h (Signed n);
    integers_right = h' (Signed n);
  }

  compared_texts : (numbers : Bool) (test : WordTest) (v w : View) (n : ℕ) → HaveTexts (compared numbers test f f' v w n)
  compared_texts true test v w n =
      let x = h (view_of_test test n) in
      let y = h' (view_of_test test n) in by_two R.Order _ _ _ refl (order_text test _ _ x.program y.program) x y
  compared_texts false test v w n = op_over_two _ _ _ (and_from _ _ (h v).program (h' w).program) (h v) (h' w)

  equal_texts : (v w : View) (o : Option Kind) → ((k : Kind) → o ≡ Some k → is_kind k ≡ true) → HaveTexts (equal f f' v w o)
  equal_texts v w (Some k) i =
      let x = h (view_for k) in
      let y = h' (view_for k) in by_two (R.Eq k) _ _ _ (i k refl) (and_from _ _ x.program y.program) x y
  equal_texts v w None i = op_over_two _ _ _ (and_from _ _ (h v).program (h' w).program) (h v) (h' w)

zero_texts : (x : Abstracted) → HaveTexts x → HaveTexts (made R.Zext x.right (one x))
zero_texts x h = by_one R.Zext x.right x refl h.program h

extended_texts : (v : View) (m : ℕ) (x : Abstracted) → is_width m ≡ true → HaveTexts x → HaveTexts (extended v m x)
extended_texts (AsIs o) m x w h =
    by_one (R.Word (NatKind m)) _ (made R.Zext x.right (one x)) w (and_from _ _ w h.program) (zero_texts x h)
extended_texts (Unsigned k) m x w h = zero_texts x h
extended_texts (Signed k) m x w h = zero_texts x h

cast_texts : (numbers : Bool) (op : X.CastOp) (m : ℕ) (v : View) (f : View → Abstracted) (w : View) (n : ℕ) → is_width m ≡ true →
    ((u : View) → HaveTexts (f u)) → HaveTexts (cast_at numbers op m v f w n)
cast_texts true X.Zext m v f w n i h = extended_texts v m _ i (h (Unsigned n))
cast_texts true X.Sext m v f w n i h =
    seen_texts Integers m v _ i (by_one R.Sext _ _ refl (h (Signed n)).program (h (Signed n)))
cast_texts true X.Trunc m v f w n i h =
    head_texts v _ _ (and_from _ _ i (h w).program) (and_from _ _ (h w).rules refl)
cast_texts false op m v f w n i h =
    head_texts v _ _ (and_from _ _ i (h w).program) (and_from _ _ (h w).rules refl)

-- Paths

pub record IndicesHaveTexts (path : Path) (i : Indices) : Type 0 where
  pub program : is_path i.path ≡ true
  pub one_step : is_one_step i.path ≡ is_one_step path
  pub rules : are_trees i.trees ≡ true

parted : (g : Scope) (es fs : List Exp) → AreSorted g (es ++ fs) → AreSorted g es × AreSorted g fs
parted g [] fs h = (tt, h)
parted g (e ∷ es) fs h = let p = parted g es fs h.1 in ((h.0, p.0), p.1)

some_is : {a b : Kind} → ◌≡◌ {A = Option Kind} (Some a) (Some b) → a ≡ b
some_is h = cc

kind_of_equality : (o : Option Sort) (b : Base) (k : Kind) → IsWide o → equality_kind o b ≡ Some k → is_kind k ≡ true
kind_of_equality (Some (Of (WordSort n))) Words k w e = subst (λ j. is_kind j ≡ true) (some_is e) w
kind_of_equality (Some (Of (WordSort n))) Naturals k w e = subst (λ j. is_kind j ≡ true) (some_is e) w
kind_of_equality (Some (Of (WordSort n))) Integers k w e = subst (λ j. is_kind j ≡ true) (some_is e) w
kind_of_equality (Some (Of TruthSort)) b k w e = subst (λ j. is_kind j ≡ true) (some_is e) refl
kind_of_equality _ b k w e = absurd cc

-- in a scope whose names are of widths, and with names that have kinds
module _ (same : Exp → Exp → Bool) (numbers : Bool) (g : Scope) (names : List Binder) (lay : IsLayout g.layout)
    (wide : (x : Name) (n : ℕ) → g.names x ≡ Some (WordSort n) → is_width n ≡ true)
    (kinds : (x : Name) (k : Kind) → names_in (λ j. j) names x ≡ Some k → is_kind k ≡ true) where
  abbrev A : Surroundings → Exp → View → Abstracted
  A fs e v = abstracted same numbers g names fs e v

  abbrev I : Surroundings → Path → Trees Rule → Indices
  I fs path ts = indices same numbers g names fs path ts

  word_of_width : (a : Exp) (n : ℕ) → word_width (sort_of g a) ≡ Some n → is_width (or_zero (width_in g a)) ≡ true
  word_of_width a n h =
      ap (λ o. is_width (or_zero o)) h ∙ subst IsWide (width_inv (sort_of g a) n h) (expression_wide g lay wide a)

  first_width : (a b : Exp) (op : WordOp) → IsSorted g (X.WordBinary op a b) →
      is_width (or_zero (width_in g a)) ≡ true
  first_width a b op h =
      let i = words_inv (word_width (sort_of g a)) (word_width (sort_of g b)) word_sort h.0 h.1 in word_of_width a i.0 i.1

  only_width : (a : Exp) (op : UnaryOp) → IsSorted g (X.WordUnary op a) → is_width (or_zero (width_in g a)) ≡ true
  only_width a op h = let i = word_inv (word_width (sort_of g a)) word_sort h.0 h.1 in word_of_width a i.0 i.1

  field_step : (fs : Surroundings) (k : ℕ) (path : Path) (ts : Trees Rule) →
      is_one_step (I fs (X.IntoField k path) ts).path ≡ is_one_step (X.IntoField k path)
  field_step fs k X.Here ts = refl
  field_step _ _ _ _ = refl

  element_step : (fs : Surroundings) (e : Exp) (path : Path) (ts : Trees Rule) →
      is_one_step (I fs (X.IntoElement e path) ts).path ≡ is_one_step (X.IntoElement e path)
  element_step fs e X.Here ts = refl
  element_step _ _ _ _ = refl

  mutual
    pub exp_texts : (fs : Surroundings) (e : Exp) → is_exp e ≡ true → IsSorted g e → (v : View) → HaveTexts (A fs e v)
    exp_texts fs (X.Var x) h s v = var_texts (names_in (λ k. k) names x) x v (kinds x) h
    exp_texts fs (X.WordLit w) h s v = constant_texts v w h
    exp_texts fs (X.NumberLit n) h s v = number_texts v n h
    exp_texts fs (X.TruthLit b) h s v = truth_texts v b
    exp_texts fs (X.WordBinary op a b) h s v =
        let p = and_parts (is_exp a) (is_exp b) h in
        let c = children_sorted g (X.WordBinary op a b) s in
        let n = or_zero (width_in g a) in
        let os = operands (λ w. A fs a w) (λ w. A fs b w) (own g a) (own g b) n in
        let base = binary_base same numbers fs n op os in
        seen_texts base n v (binary_at op base os) (first_width a b op s)
        (binary_texts os
        (both_texts (λ w. A fs a w) (λ w. A fs b w) (λ w. exp_texts fs a p.0 c.0 w) (λ w. exp_texts fs b p.1 c.1.0 w)
        (own g a) (own g b) n) op base)
    exp_texts fs (X.WordShift op a b) h s v =
        let p = and_parts (is_exp a) (is_exp b) h in
        let c = children_sorted g (X.WordShift op a b) s in
        let x = exp_texts fs a p.0 c.0 (own g a) in
        let y = exp_texts fs b p.1 c.1.0 (own g b) in
        head_texts v _ _ (and_from _ _ x.program y.program) (and_from _ _ x.rules (and_from _ _ y.rules refl))
    exp_texts fs (X.WordUnary op a) h s v =
        let c = children_sorted g (X.WordUnary op a) s in
        let n = or_zero (width_in g a) in
        let base = negation_base same numbers fs n op (A fs a (Unsigned n)) (A fs a (Signed n)) in
        seen_texts base n v _ (only_width a op s)
        (unary_texts op base _ _ _ (exp_texts fs a h c.0 (own g a)) (exp_texts fs a h c.0 (Unsigned n))
        (exp_texts fs a h c.0 (Signed n)))
    exp_texts fs (X.WordCompare test a b) h s v =
        let p = and_parts (is_exp a) (is_exp b) h in
        let c = children_sorted g (X.WordCompare test a b) s in
        compared_texts (λ w. A fs a w) (λ w. A fs b w) (λ w. exp_texts fs a p.0 c.0 w) (λ w. exp_texts fs b p.1 c.1.0 w)
        numbers test (own g a) (own g b) (or_zero (width_in g a))
    exp_texts fs (X.Cast op m a) h s v =
        let p = and_parts (is_width m) (is_exp a) h in
        let c = children_sorted g (X.Cast op m a) s in
        cast_texts numbers op m v (λ w. A fs a w) (own g a) (or_zero (width_in g a)) p.0 (λ w. exp_texts fs a p.1 c.0 w)
    exp_texts fs (X.ToNat a) h s v =
        let x = exp_texts fs a h (children_sorted g (X.ToNat a) s).0 (Unsigned (or_zero (width_in g a))) in
        by_one R.Nat _ _ refl x.program x
    exp_texts fs (X.ToInt a) h s v =
        let x = exp_texts fs a h (children_sorted g (X.ToInt a) s).0 (Signed (or_zero (width_in g a))) in
        by_one R.Int _ _ refl x.program x
    exp_texts fs (X.Lt a b) h s v =
        let p = and_parts (is_exp a) (is_exp b) h in
        let c = children_sorted g (X.Lt a b) s in
        let x = exp_texts fs a p.0 c.0 (own g a) in
        let y = exp_texts fs b p.1 c.1.0 (own g b) in
        head_texts v _ _ (and_from _ _ x.program y.program) (and_from _ _ x.rules (and_from _ _ y.rules refl))
    exp_texts fs (X.Le a b) h s v =
        let p = and_parts (is_exp a) (is_exp b) h in
        let c = children_sorted g (X.Le a b) s in
        let x = exp_texts fs a p.0 c.0 (own g a) in
        let y = exp_texts fs b p.1 c.1.0 (own g b) in
        head_texts v _ _ (and_from _ _ x.program y.program) (and_from _ _ x.rules (and_from _ _ y.rules refl))
    exp_texts fs (X.ToWord m a) h s v =
        let p = and_parts (is_width m) (is_exp a) h in
        let x = exp_texts fs a p.1 (children_sorted g (X.ToWord m a) s).0 (own g a) in
        head_texts v _ _ (and_from _ _ p.0 x.program) (and_from _ _ x.rules refl)
    exp_texts fs (X.Arith op a b) h s v =
        let q = and_parts (is_of_two op) (is_exp a && is_exp b) h in
        let p = and_parts (is_exp a) (is_exp b) q.1 in
        let c = children_sorted g (X.Arith op a b) s in
        let x = exp_texts fs a p.0 c.0 (own g a) in
        let y = exp_texts fs b p.1 c.1.0 (own g b) in
        head_texts v _ _ (and_from _ _ q.0 (and_from _ _ x.program y.program))
        (and_from _ _ x.rules (and_from _ _ y.rules refl))
    exp_texts fs (X.Negate a) h s v =
        let x = exp_texts fs a h (children_sorted g (X.Negate a) s).0 (own g a) in
        head_texts v _ _ x.program (and_from _ _ x.rules refl)
    exp_texts fs (X.Between from a to) h s v =
        let q = and_parts (is_number from) (is_exp a && is_number to) h in
        let p = and_parts (is_exp a) (is_number to) q.1 in
        let x = exp_texts fs a p.0 (children_sorted g (X.Between from a to) s).0 (own g a) in
        head_texts v _ _ (and_from _ _ q.0 (and_from _ _ x.program p.1)) (and_from _ _ x.rules refl)
    exp_texts fs (X.Eq a b) h s v =
        let p = and_parts (is_exp a) (is_exp b) h in
        let c = children_sorted g (X.Eq a b) s in
        let base = first_base (base_of same numbers g names fs a) (base_of same numbers g names fs b) in
        equal_texts (λ w. A fs a w) (λ w. A fs b w) (λ w. exp_texts fs a p.0 c.0 w) (λ w. exp_texts fs b p.1 c.1.0 w)
        (own g a) (own g b) (equality_kind (sort_of g a) base)
        (λ k e. kind_of_equality (sort_of g a) base k (expression_wide g lay wide a) e)
    exp_texts fs (X.And a b) h s v =
        let p = and_parts (is_exp a) (is_exp b) h in
        let c = children_sorted g (X.And a b) s in
        let x = exp_texts fs a p.0 c.0 truth in
        let y = exp_texts (under (Whole (A fs a truth).right) fs) b p.1 c.1.0 truth in
        by_two R.Logic _ _ _ refl (and_from _ _ x.program y.program) x y
    exp_texts fs (X.Or a b) h s v =
        let p = and_parts (is_exp a) (is_exp b) h in
        let c = children_sorted g (X.Or a b) s in
        let x = exp_texts fs a p.0 c.0 truth in
        let y = exp_texts (under (NotTrue (A fs a truth).right) fs) b p.1 c.1.0 truth in
        by_two R.Logic _ _ _ refl (and_from _ _ x.program y.program) x y
    exp_texts fs (X.Imp a b) h s v =
        let p = and_parts (is_exp a) (is_exp b) h in
        let c = children_sorted g (X.Imp a b) s in
        let x = exp_texts fs a p.0 c.0 truth in
        let y = exp_texts (under (Whole (A fs a truth).right) fs) b p.1 c.1.0 truth in
        by_two R.Logic _ _ _ refl (and_from _ _ x.program y.program) x y
    exp_texts fs (X.Not a) h s v =
        let x = exp_texts fs a h (children_sorted g (X.Not a) s).0 truth in by_one R.Logic _ _ refl x.program x
    exp_texts fs (X.If c a b) h s v =
        let q = and_parts (is_exp c) (is_exp a && is_exp b) h in
        let p = and_parts (is_exp a) (is_exp b) q.1 in
        let i = children_sorted g (X.If c a b) s in
        let t = A fs c truth in
        let z = exp_texts fs c q.0 i.0 truth in
        let x = exp_texts (under (Whole t.right) fs) a p.0 i.1.0 v in
        let y = exp_texts (under (NotTrue t.right) fs) b p.1 i.1.1.0 v in
        record {
          program = and_from _ _ z.program (and_from _ _ x.program y.program);
          rules = and_from _ _ z.rules (and_from _ _ x.rules (and_from _ _ y.rules refl));
        }
    exp_texts fs (X.Padd t a b) h s v =
        let q = and_parts (is_type t) (is_exp a && is_exp b) h in
        let p = and_parts (is_exp a) (is_exp b) q.1 in
        let c = children_sorted g (X.Padd t a b) s in
        let x = exp_texts fs a p.0 c.0 (own g a) in
        let y = exp_texts fs b p.1 c.1.0 (own g b) in
        head_texts v _ _ (and_from _ _ q.0 (and_from _ _ x.program y.program))
        (and_from _ _ x.rules (and_from _ _ y.rules refl))
    exp_texts fs (X.At t a path) h s v =
        let q = and_parts (is_type t) (is_exp a && is_path path) h in
        let p = and_parts (is_exp a) (is_path path) q.1 in
        let c = children_sorted g (X.At t a path) s in
        let x = exp_texts fs a p.0 c.0 (own g a) in
        let y = path_texts fs path p.1 c.1 no_trees refl in
        head_texts v _ _ (and_from _ _ q.0 (and_from _ _ x.program y.program)) (and_from _ _ x.rules y.rules)
    exp_texts fs (X.Load t a path) h s v =
        let q = and_parts (is_type t) (is_exp a && is_path path) h in
        let p = and_parts (is_exp a) (is_path path) q.1 in
        let c = children_sorted g (X.Load t a path) s in
        let x = exp_texts fs a p.0 c.0 (own g a) in
        let y = path_texts fs path p.1 c.1 no_trees refl in
        head_texts v _ _ (and_from _ _ q.0 (and_from _ _ x.program y.program)) (and_from _ _ x.rules y.rules)
    exp_texts fs (X.Read t a path) h s v =
        let q = and_parts (is_type t) (is_exp a && is_path path) h in
        let p = and_parts (is_exp a) (is_path path) q.1 in
        let c = children_sorted g (X.Read t a path) s in
        let x = exp_texts fs a p.0 c.0 (own g a) in
        let y = path_texts fs path p.1 c.1 no_trees refl in
        head_texts v _ _ (and_from _ _ q.0 (and_from _ _ x.program y.program)) (and_from _ _ x.rules y.rules)
    exp_texts fs (X.Tagged t a) h s v =
        let p = and_parts (is_type t) (is_exp a) h in
        let x = exp_texts fs a p.1 (children_sorted g (X.Tagged t a) s).0 (own g a) in
        head_texts v _ _ (and_from _ _ p.0 x.program) (and_from _ _ x.rules refl)
    exp_texts fs (X.PtrOk t a) h s v =
        let p = and_parts (is_type t) (is_exp a) h in
        let x = exp_texts fs a p.1 (children_sorted g (X.PtrOk t a) s).0 (own g a) in
        head_texts v _ _ (and_from _ _ p.0 x.program) (and_from _ _ x.rules refl)
    exp_texts fs (X.Global x path) h s v =
        let p = and_parts (is_name x) (is_path path) h in
        let y = path_texts fs path p.1 (children_sorted g (X.Global x path) s) no_trees refl in
        head_texts v _ _ (and_from _ _ p.0 y.program) y.rules
    exp_texts fs (X.Sel a path) h s v =
        let q = and_parts (is_exp a) (is_one_step path && is_path path) h in
        let p = and_parts (is_one_step path) (is_path path) q.1 in
        let c = children_sorted g (X.Sel a path) s in
        let x = exp_texts fs a q.0 c.0 (own g a) in
        let y = path_texts fs path p.1 c.1 no_trees refl in
        head_texts v _ _ (and_from _ _ x.program (and_from _ _ (y.one_step ∙ p.0) y.program)) (and_from _ _ x.rules y.rules)
    exp_texts fs (X.Upd a path b) h s v =
        let q = and_parts (is_exp a) (is_path path && is_exp b) h in
        let p = and_parts (is_path path) (is_exp b) q.1 in
        let c = children_sorted g (X.Upd a path b) s in
        let d = parted g (path_children path) (b ∷ []) c.1 in
        let x = exp_texts fs a q.0 c.0 (own g a) in
        let z = exp_texts fs b p.1 d.1.0 (own g b) in
        let y = path_texts fs path p.0 d.0 (one (A fs b (own g b))) (and_from _ _ z.rules refl) in
        head_texts v _ _ (and_from _ _ x.program (and_from _ _ y.program z.program)) (and_from _ _ x.rules y.rules)

    pub path_texts : (fs : Surroundings) (path : Path) → is_path path ≡ true → AreSorted g (path_children path) →
        (ts : Trees Rule) → are_trees ts ≡ true → IndicesHaveTexts path (I fs path ts)
    path_texts fs X.Here h s ts k = record { program = refl; one_step = refl; rules = k }
    path_texts fs (X.IntoField j path) h s ts k =
        let p = and_parts (nat_lt j (2 ^ 32)) (is_path path) h in
        let y = path_texts fs path p.1 s ts k in
        record { program = and_from _ _ p.0 y.program; one_step = field_step fs j path ts; rules = y.rules }
    path_texts fs (X.IntoElement e path) h s ts k =
        let p = and_parts (is_exp e) (is_path path) h in
        let x = exp_texts fs e p.0 s.0 (own g e) in
        let y = path_texts fs path p.1 s.1 ts k in
        record {
          program = and_from _ _ x.program y.program;
          one_step = element_step fs e path ts;
          rules = and_from _ _ x.rules y.rules;
        }
