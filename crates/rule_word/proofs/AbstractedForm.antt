-- What a ready expression is abstracted to has no operation on words that numbers have, and looks at the heap as its left side does.
use Rattle.std.proofs.Common.{◌≡◌, ℕ, Bool, true, false, ◌&&◌, ◌||◌, List, Option, Some, None, refl, ◌∙◌}
use Rattle.std.proofs.lemmas.Bool.{and_parts, or_parts}
use Rattle.c_values.specs.Name.{Name}
use Rattle.c_values.specs.Types.{CType}
use Rattle.c_values.specs.Number as N
use Rattle.c_values.specs.Word.{Word, WordOp, Wadd, Wsub, Wmul, Wand, Wor, Wxor, Wudiv, Wumod, Wsdiv, Wsmod, UnaryOp, Wneg, Wnot, WordTest, Wult, Wule, Wslt, Wsle, unsigned, signed}
use Rattle.expression_lang.specs.Expression as X
use Rattle.expression_lang.specs.Expression.{Exp, Path}
use Rattle.expression_lang.specs.Form.{has, path_has, is_word_arithmetic, is_arithmetic, is_negation}
use Rattle.expression_lang.specs.Sort.{Kind, WordKind, NatKind, IntKind, BoolKind, Scope, sort_of}
use Rattle.expression_lang.specs.Signature.{Binder}
use Rattle.ac_expr.specs.Fact.{Whole, NotTrue}
use Rattle.rule_trees.specs.RuleTree.{Trees, no_trees, tree}
use Rattle.rule_word.specs.Rule as R
use Rattle.rule_word.specs.Rule.{View, AsIs, Unsigned, Signed}
use Rattle.rule_word.specs.Scopes.{names_in, own, width_in, view_for}
use Rattle.rule_word.specs.Table.{truth}
use Rattle.rule_word.specs.Bases.{Surroundings, under, Base, Words, Naturals, Integers, first_base, where_numbers, signed_base_in, signed_or_words, oldest_range, integer_range}
use Rattle.rule_word.specs.WordsAbstracted.{Abstracted, made, one, two, as_word, seen_from, by_head, or_zero, Operands, words_of, binary_base, binary_at, negation_base, unary_at, order, view_of_test, equality_kind, constant_at, var_at, Indices, operands, compared, cast_at, equal, abstracted, indices, base_of}
use Rattle.rule_word.specs.Ready.{is_exact, is_no_word, ready, path_ready}

pub neither : (a b : Bool) → a ≡ false → b ≡ false → a || b ≡ false
neither true b h k = absurd cc
neither false b h k = k

no_integers : (b : Bool) → where_numbers b Naturals ≡ Integers → ⊥
no_integers true h = cc
no_integers false h = cc

no_naturals : (b : Bool) → where_numbers b Integers ≡ Naturals → ⊥
no_naturals true h = cc
no_naturals false h = cc

no_signed_naturals : (same : Exp → Exp → Bool) (fs : Surroundings) (n : ℕ) (r : Exp) (b : Bool) → signed_base_in same b fs n r ≡ Naturals → ⊥
no_signed_naturals same fs n r false h = cc
no_signed_naturals same fs n r true h = by_found (oldest_range same fs.conditions (integer_range n r) (integer_range n r) fs.facts) h
  where
    by_found : (o : Option Base) → signed_or_words o ≡ Naturals → ⊥
    by_found None h = cc
    by_found (Some c) h = cc

-- it looks at the heap
abbrev pub looks_at_heap : Exp → Bool
looks_at_heap (X.Load t p path) = true
looks_at_heap (X.Read t p path) = true
looks_at_heap _ = false

module _ (test : Exp → Bool) (elsewhere : (e : Exp) → looks_at_heap e ≡ false → test e ≡ false)
    (loads : (t u : CType) (p q : Exp) (path way : Path) → test (X.Load t p path) ≡ false → test (X.Load u q way) ≡ false)
    (reads : (t u : CType) (p q : Exp) (path way : Path) → test (X.Read t p path) ≡ false → test (X.Read u q way) ≡ false)
    (numbers : Bool) where
  -- no part passes the test, and where words are numbers none is an operation that numbers have
  pub record Clean (a : Exp) : Type 0 where
    pub arithmetic : numbers ≡ true → has is_word_arithmetic a ≡ false
    pub heap : has test a ≡ false

  pub record CleanPath (p : Path) : Type 0 where
    pub arithmetic : numbers ≡ true → path_has is_word_arithmetic p ≡ false
    pub heap : path_has test p ≡ false

  leaf_clean : (e : Exp) → (numbers ≡ true → has is_word_arithmetic e ≡ false) → has test e ≡ test e → looks_at_heap e ≡ false → Clean e
  leaf_clean e h k l = record { arithmetic = h; heap = k ∙ elsewhere e l }

  -- a head over one part, and over two
  over_one : (e a : Exp) → Clean a → ((numbers ≡ true → has is_word_arithmetic a ≡ false) → numbers ≡ true → has is_word_arithmetic e ≡ false) → has test e ≡ test e || has test a → looks_at_heap e ≡ false → Clean e
  over_one e a c h k l = record { arithmetic = h c.arithmetic; heap = k ∙ neither (test e) (has test a) (elsewhere e l) c.heap }

  over_two : (e a b : Exp) → Clean a → Clean b → (has is_word_arithmetic a ≡ false → has is_word_arithmetic b ≡ false → numbers ≡ true → has is_word_arithmetic e ≡ false) → has test e ≡ test e || has test a || has test b → looks_at_heap e ≡ false → Clean e
  over_two e a b c d h k l = record {
    arithmetic = λ n. h (c.arithmetic n) (d.arithmetic n) n;
    heap = k ∙ neither (test e || has test a) (has test b) (neither (test e) (has test a) (elsewhere e l) c.heap) d.heap;
  }

  word_clean : (n : ℕ) (a : Exp) → Clean a → Clean (X.ToWord n a)
  word_clean n a c = over_one (X.ToWord n a) a c (λ x. x) refl refl

  nat_clean : (a : Exp) → Clean a → Clean (X.ToNat a)
  nat_clean a c = over_one (X.ToNat a) a c (λ x. x) refl refl

  int_clean : (a : Exp) → Clean a → Clean (X.ToInt a)
  int_clean a c = over_one (X.ToInt a) a c (λ x. x) refl refl

  as_word_clean : (b : Base) (n : ℕ) (x : Abstracted) → Clean x.right → Clean (as_word b n x).right
  as_word_clean Words n x c = c
  as_word_clean Naturals n x c = word_clean n x.right c
  as_word_clean Integers n x c = word_clean n x.right c

  seen_clean : (b : Base) (n : ℕ) (v : View) (x : Abstracted) → Clean x.right → Clean (seen_from b n v x).right
  seen_clean Naturals n (Unsigned m) x c = c
  seen_clean Integers n (Signed m) x c = c
  seen_clean b n (AsIs o) x c = as_word_clean b n x c
  seen_clean Words n (Unsigned m) x c = nat_clean x.right c
  seen_clean Integers n (Unsigned m) x c = nat_clean (X.ToWord n x.right) (word_clean n x.right c)
  seen_clean Words n (Signed m) x c = int_clean x.right c
  seen_clean Naturals n (Signed m) x c = int_clean (X.ToWord n x.right) (word_clean n x.right c)

  var_clean : (o : Option Kind) (x : Name) (v : View) → Clean (var_at o x v).right
  var_clean None x v = leaf_clean (X.Var x) (λ n. refl) refl refl
  var_clean (Some (WordKind n)) x v = seen_clean Words n v (made R.Var (X.Var x) no_trees) (leaf_clean (X.Var x) (λ n. refl) refl refl)
  var_clean (Some (NatKind n)) x v = seen_clean Naturals n v (made R.Var (X.Var x) no_trees) (leaf_clean (X.Var x) (λ n. refl) refl refl)
  var_clean (Some (IntKind n)) x v = seen_clean Integers n v (made R.Var (X.Var x) no_trees) (leaf_clean (X.Var x) (λ n. refl) refl refl)
  var_clean (Some BoolKind) x v = leaf_clean (X.Var x) (λ n. refl) refl refl

  literal_clean : (v : View) (w : Word) → Clean (constant_at v (X.WordLit w)).right
  literal_clean (AsIs o) w = leaf_clean (X.WordLit w) (λ n. refl) refl refl
  literal_clean (Unsigned n) w = leaf_clean (X.NumberLit (unsigned w)) (λ n. refl) refl refl
  literal_clean (Signed n) w = leaf_clean (X.NumberLit (signed w)) (λ n. refl) refl refl

  number_clean : (v : View) (k : _) → Clean (constant_at v (X.NumberLit k)).right
  number_clean (AsIs o) k = leaf_clean (X.NumberLit k) (λ n. refl) refl refl
  number_clean (Unsigned n) k = leaf_clean (X.NumberLit k) (λ n. refl) refl refl
  number_clean (Signed n) k = leaf_clean (X.NumberLit k) (λ n. refl) refl refl

  truth_clean : (v : View) (b : Bool) → Clean (constant_at v (X.TruthLit b)).right
  truth_clean (AsIs o) b = leaf_clean (X.TruthLit b) (λ n. refl) refl refl
  truth_clean (Unsigned n) b = leaf_clean (X.TruthLit b) (λ n. refl) refl refl
  truth_clean (Signed n) b = leaf_clean (X.TruthLit b) (λ n. refl) refl refl

  -- an operation at its base
  record BothClean (os : Operands) : Type 0 where
    words_a : Clean os.words.0.right
    words_b : Clean os.words.1.right
    naturals_a : Clean os.naturals.0.right
    naturals_b : Clean os.naturals.1.right
    integers_a : Clean os.integers.0.right
    integers_b : Clean os.integers.1.right

  exact_inv : (m b : Bool) (base : Base) → is_exact m b base ≡ true → m ≡ true → b ≡ true → is_no_word base ≡ true
  exact_inv true true base h k l = h
  exact_inv _ _ base h k l = absurd cc

  arith_clean : (o : N.NumberOp) (x y : Exp) → Clean x → Clean y → Clean (X.Arith o x y)
  arith_clean o x y c d = over_two (X.Arith o x y) x y c d (λ h k n. neither (has is_word_arithmetic x) (has is_word_arithmetic y) h k) refl refl

  module _ (os : Operands) (c : BothClean os) where
    words_clean : (op : WordOp) → (numbers ≡ true → is_arithmetic op ≡ false) → Clean (words_of op os).right
    words_clean op i = over_two (X.WordBinary op os.words.0.right os.words.1.right) os.words.0.right os.words.1.right c.words_a c.words_b
        (λ h k n. neither (is_arithmetic op || has is_word_arithmetic os.words.0.right) (has is_word_arithmetic os.words.1.right) (neither (is_arithmetic op) (has is_word_arithmetic os.words.0.right) (i n) h) k) refl refl

    at_words : (op : WordOp) → is_arithmetic op ≡ true → is_exact numbers (is_arithmetic op) Words ≡ true → Clean (words_of op os).right
    at_words op j h = words_clean op (λ n. absurd (no_words (exact_inv numbers (is_arithmetic op) Words h n j)))
      where
        no_words : false ≡ true → ⊥
        no_words h = cc

    naturals : (o : N.NumberOp) → Clean (X.Arith o os.naturals.0.right os.naturals.1.right)
    naturals o = arith_clean o os.naturals.0.right os.naturals.1.right c.naturals_a c.naturals_b

    integers : (o : N.NumberOp) → Clean (X.Arith o os.integers.0.right os.integers.1.right)
    integers o = arith_clean o os.integers.0.right os.integers.1.right c.integers_a c.integers_b

    binary_clean : (same : Exp → Exp → Bool) (fs : Surroundings) (n : ℕ) (op : WordOp) (base : Base) → binary_base same numbers fs n op os ≡ base → is_exact numbers (is_arithmetic op) base ≡ true → Clean (binary_at op base os).right
    binary_clean same fs n Wadd Words e h = at_words Wadd refl h
    binary_clean same fs n Wadd Naturals e h = naturals N.Add
    binary_clean same fs n Wadd Integers e h = integers N.Add
    binary_clean same fs n Wsub Words e h = at_words Wsub refl h
    binary_clean same fs n Wsub Naturals e h = naturals N.Sub
    binary_clean same fs n Wsub Integers e h = integers N.Sub
    binary_clean same fs n Wmul Words e h = at_words Wmul refl h
    binary_clean same fs n Wmul Naturals e h = naturals N.Mul
    binary_clean same fs n Wmul Integers e h = integers N.Mul
    binary_clean same fs n Wudiv Words e h = at_words Wudiv refl h
    binary_clean same fs n Wudiv Naturals e h = naturals N.Div
    binary_clean same fs n Wumod Words e h = at_words Wumod refl h
    binary_clean same fs n Wumod Naturals e h = naturals N.Mod
    binary_clean same fs n Wsdiv Words e h = at_words Wsdiv refl h
    binary_clean same fs n Wsdiv Naturals e h = absurd (no_signed_naturals same fs n (X.Arith N.Div os.integers.0.right os.integers.1.right) numbers e)
    binary_clean same fs n Wsdiv Integers e h = integers N.Div
    binary_clean same fs n Wsmod Words e h = at_words Wsmod refl h
    binary_clean same fs n Wsmod Naturals e h = absurd (no_naturals numbers e)
    binary_clean same fs n Wsmod Integers e h = integers N.Mod
    binary_clean same fs n Wand base e h = words_clean Wand (λ n. refl)
    binary_clean same fs n Wor base e h = words_clean Wor (λ n. refl)
    binary_clean same fs n Wxor base e h = words_clean Wxor (λ n. refl)
    binary_clean _ _ _ _ _ e _ = absurd (no_integers numbers e)

  unary_clean : (op : UnaryOp) (base : Base) (word natural integer : Abstracted) → is_exact numbers (is_negation op) base ≡ true → Clean word.right → Clean natural.right → Clean integer.right → Clean (unary_at op base word natural integer).right
  unary_clean Wneg Words word natural integer h x y z =
      over_one (X.WordUnary Wneg word.right) word.right x (λ k n. absurd (no_words (exact_inv numbers true Words h n refl))) refl refl
    where
      no_words : false ≡ true → ⊥
      no_words h = cc
  unary_clean Wneg Naturals word natural integer h x y z = over_one (X.Negate natural.right) natural.right y (λ k. k) refl refl
  unary_clean Wneg Integers word natural integer h x y z = over_one (X.Negate integer.right) integer.right z (λ k. k) refl refl
  unary_clean Wnot base word natural integer h x y z = over_one (X.WordUnary Wnot word.right) word.right x (λ k. k) refl refl

  -- a path over a root
  over_path : (e a : Exp) (path : Path) → Clean a → CleanPath path → (has is_word_arithmetic a ≡ false → path_has is_word_arithmetic path ≡ false → numbers ≡ true → has is_word_arithmetic e ≡ false) → has test e ≡ test e || has test a || path_has test path → test e ≡ false → Clean e
  over_path e a path c d h k t = record {
    arithmetic = λ n. h (c.arithmetic n) (d.arithmetic n) n;
    heap = k ∙ neither (test e || has test a) (path_has test path) (neither (test e) (has test a) t c.heap) d.heap;
  }

  order_clean : (t : WordTest) (x y : Exp) → Clean x → Clean y → Clean (order t x y)
  order_clean Wult x y c d = over_two (X.Lt x y) x y c d (λ h k n. neither (has is_word_arithmetic x) (has is_word_arithmetic y) h k) refl refl
  order_clean Wule x y c d = over_two (X.Le x y) x y c d (λ h k n. neither (has is_word_arithmetic x) (has is_word_arithmetic y) h k) refl refl
  order_clean Wslt x y c d = over_two (X.Lt x y) x y c d (λ h k n. neither (has is_word_arithmetic x) (has is_word_arithmetic y) h k) refl refl
  order_clean Wsle x y c d = over_two (X.Le x y) x y c d (λ h k n. neither (has is_word_arithmetic x) (has is_word_arithmetic y) h k) refl refl

  compared_clean : (c : Bool) → c ≡ numbers → (t : WordTest) (f h : View → Abstracted) (v w : View) (n : ℕ) → ((u : View) → Clean (f u).right) → ((u : View) → Clean (h u).right) → Clean (compared c t f h v w n).right
  compared_clean true e t f h v w n x y = order_clean t (f (view_of_test t n)).right (h (view_of_test t n)).right (x (view_of_test t n)) (y (view_of_test t n))
  compared_clean false e t f h v w n x y = over_two (X.WordCompare t (f v).right (h w).right) (f v).right (h w).right (x v) (y w) (λ i k m. absurd (no_level (e ∙ m))) refl refl
    where
      no_level : false ≡ true → ⊥
      no_level h = cc

  head_clean : (v : View) (a : Exp) (ts : Trees R.Rule) → Clean a → Clean (by_head v a ts).right
  head_clean v a ts c = seen_clean Words 0 v (made R.Op a ts) c

  cast_clean : (c : Bool) (op : X.CastOp) (m : ℕ) (v : View) (f : View → Abstracted) (w : View) (n : ℕ) → ((u : View) → Clean (f u).right) → Clean (cast_at c op m v f w n).right
  cast_clean true X.Zext m (AsIs o) f w n x = word_clean m (f (Unsigned n)).right (x (Unsigned n))
  cast_clean true X.Zext m (Unsigned k) f w n x = x (Unsigned n)
  cast_clean true X.Zext m (Signed k) f w n x = x (Unsigned n)
  cast_clean true X.Sext m v f w n x = seen_clean Integers m v (made R.Sext (f (Signed n)).right (one (f (Signed n)))) (x (Signed n))
  cast_clean true X.Trunc m v f w n x = head_clean v (X.Cast X.Trunc m (f w).right) (one (f w)) (over_one (X.Cast X.Trunc m (f w).right) (f w).right (x w) (λ k. k) refl refl)
  cast_clean false X.Zext m v f w n x = head_clean v (X.Cast X.Zext m (f w).right) (one (f w)) (over_one (X.Cast X.Zext m (f w).right) (f w).right (x w) (λ k. k) refl refl)
  cast_clean false X.Sext m v f w n x = head_clean v (X.Cast X.Sext m (f w).right) (one (f w)) (over_one (X.Cast X.Sext m (f w).right) (f w).right (x w) (λ k. k) refl refl)
  cast_clean false X.Trunc m v f w n x = head_clean v (X.Cast X.Trunc m (f w).right) (one (f w)) (over_one (X.Cast X.Trunc m (f w).right) (f w).right (x w) (λ k. k) refl refl)

  pub two_clean : (e a b : Exp) → Clean a → Clean b → has is_word_arithmetic e ≡ has is_word_arithmetic a || has is_word_arithmetic b → has test e ≡ test e || has test a || has test b → looks_at_heap e ≡ false → Clean e
  two_clean e a b c d h = over_two e a b c d (λ i k n. h ∙ neither (has is_word_arithmetic a) (has is_word_arithmetic b) i k)

  equal_clean : (f h : View → Abstracted) (v w : View) (o : Option Kind) → ((u : View) → Clean (f u).right) → ((u : View) → Clean (h u).right) → Clean (equal f h v w o).right
  equal_clean f h v w (Some k) x y = two_clean (X.Eq (f (view_for k)).right (h (view_for k)).right) (f (view_for k)).right (h (view_for k)).right (x (view_for k)) (y (view_for k)) refl refl refl
  equal_clean f h v w None x y = two_clean (X.Eq (f v).right (h w).right) (f v).right (h w).right (x v) (y w) refl refl refl

  module _ (same : Exp → Exp → Bool) (g : Scope) (names : List Binder) where
    abbrev A : Surroundings → Exp → View → Abstracted
    A fs e v = abstracted same numbers g names fs e v

    abbrev I : Surroundings → Path → Trees R.Rule → Indices
    I fs path ts = indices same numbers g names fs path ts

    abbrev Ready : Surroundings → Exp → Bool
    Ready fs e = ready same numbers g names fs e

    abbrev PathReady : Surroundings → Path → Bool
    PathReady fs path = path_ready same numbers g names fs path

    mutual
      pub clean : (fs : Surroundings) (e : Exp) → ready same numbers g names fs e ≡ true → has test e ≡ false → (v : View) → Clean (abstracted same numbers g names fs e v).right
      clean fs (X.Var x) r h v = var_clean (names_in (λ k. k) names x) x v
      clean fs (X.WordLit x) r h v = literal_clean v x
      clean fs (X.NumberLit n) r h v = number_clean v n
      clean fs (X.TruthLit b) r h v = truth_clean v b
      clean fs (X.WordBinary op a b) r h v =
          let n = or_zero (width_in g a) in
          let os = operands (λ w. A fs a w) (λ w. A fs b w) (own g a) (own g b) n in
          let base = binary_base same numbers fs n op os in
          let x = and_parts (is_exact numbers (is_arithmetic op) base && Ready fs a) (Ready fs b) r in
          let y = and_parts (is_exact numbers (is_arithmetic op) base) (Ready fs a) x.0 in
          let p = or_parts (test (X.WordBinary op a b) || has test a) (has test b) h in
          let q = or_parts (test (X.WordBinary op a b)) (has test a) p.0 in
          seen_clean base n v (binary_at op base os) (binary_clean os (record {
            words_a = clean fs a y.1 q.1 (own g a);
            words_b = clean fs b x.1 p.1 (own g b);
            naturals_a = clean fs a y.1 q.1 (Unsigned n);
            naturals_b = clean fs b x.1 p.1 (Unsigned n);
            integers_a = clean fs a y.1 q.1 (Signed n);
            integers_b = clean fs b x.1 p.1 (Signed n);
          }) same fs n op base refl y.0)
      clean fs (X.WordUnary op a) r h v =
          let n = or_zero (width_in g a) in
          let base = negation_base same numbers fs n op (A fs a (Unsigned n)) (A fs a (Signed n)) in
          let x = and_parts (is_exact numbers (is_negation op) base) (Ready fs a) r in
          let q = or_parts (test (X.WordUnary op a)) (has test a) h in
          seen_clean base n v (unary_at op base (A fs a (own g a)) (A fs a (Unsigned n)) (A fs a (Signed n)))
          (unary_clean op base (A fs a (own g a)) (A fs a (Unsigned n)) (A fs a (Signed n)) x.0 (clean fs a x.1 q.1 (own g a)) (clean fs a x.1 q.1 (Unsigned n)) (clean fs a x.1 q.1 (Signed n)))
      clean fs (X.WordCompare t a b) r h v =
          let x = and_parts (Ready fs a) (Ready fs b) r in
          let p = or_parts (test (X.WordCompare t a b) || has test a) (has test b) h in
          let q = or_parts (test (X.WordCompare t a b)) (has test a) p.0 in
          compared_clean numbers refl t (λ w. A fs a w) (λ w. A fs b w) (own g a) (own g b) (or_zero (width_in g a)) (λ u. clean fs a x.0 q.1 u) (λ u. clean fs b x.1 p.1 u)
      clean fs (X.Cast op m a) r h v =
          let q = or_parts (test (X.Cast op m a)) (has test a) h in cast_clean numbers op m v (λ w. A fs a w) (own g a) (or_zero (width_in g a)) (λ u. clean fs a r q.1 u)
      clean fs (X.ToNat a) r h v = let q = or_parts (test (X.ToNat a)) (has test a) h in clean fs a r q.1 (Unsigned (or_zero (width_in g a)))
      clean fs (X.ToInt a) r h v = let q = or_parts (test (X.ToInt a)) (has test a) h in clean fs a r q.1 (Signed (or_zero (width_in g a)))
      clean fs (X.Eq a b) r h v =
          let x = and_parts (Ready fs a) (Ready fs b) r in
          let p = or_parts (test (X.Eq a b) || has test a) (has test b) h in
          let q = or_parts (test (X.Eq a b)) (has test a) p.0 in
          equal_clean (λ w. A fs a w) (λ w. A fs b w) (own g a) (own g b) (equality_kind (sort_of g a) (first_base (base_of same numbers g names fs a) (base_of same numbers g names fs b))) (λ u. clean fs a x.0 q.1 u) (λ u. clean fs b x.1 p.1 u)
      clean fs (X.ToWord m a) r h v =
          let q = or_parts (test (X.ToWord m a)) (has test a) h in
          head_clean v (X.ToWord m (A fs a (own g a)).right) (one (A fs a (own g a))) (over_one (X.ToWord m (A fs a (own g a)).right) (A fs a (own g a)).right (clean fs a r q.1 (own g a)) (λ k. k) refl refl)
      clean fs (X.Negate a) r h v =
          let q = or_parts (test (X.Negate a)) (has test a) h in
          head_clean v (X.Negate (A fs a (own g a)).right) (one (A fs a (own g a))) (over_one (X.Negate (A fs a (own g a)).right) (A fs a (own g a)).right (clean fs a r q.1 (own g a)) (λ k. k) refl refl)
      clean fs (X.Between low a high) r h v =
          let q = or_parts (test (X.Between low a high)) (has test a) h in
          head_clean v (X.Between low (A fs a (own g a)).right high) (one (A fs a (own g a))) (over_one (X.Between low (A fs a (own g a)).right high) (A fs a (own g a)).right (clean fs a r q.1 (own g a)) (λ k. k) refl refl)
      clean fs (X.Tagged t a) r h v =
          let q = or_parts (test (X.Tagged t a)) (has test a) h in
          head_clean v (X.Tagged t (A fs a (own g a)).right) (one (A fs a (own g a))) (over_one (X.Tagged t (A fs a (own g a)).right) (A fs a (own g a)).right (clean fs a r q.1 (own g a)) (λ k. k) refl refl)
      clean fs (X.PtrOk t a) r h v =
          let q = or_parts (test (X.PtrOk t a)) (has test a) h in
          head_clean v (X.PtrOk t (A fs a (own g a)).right) (one (A fs a (own g a))) (over_one (X.PtrOk t (A fs a (own g a)).right) (A fs a (own g a)).right (clean fs a r q.1 (own g a)) (λ k. k) refl refl)
      clean fs (X.WordShift op a b) r h v =
          let x = and_parts (Ready fs a) (Ready fs b) r in
          let p = or_parts (test (X.WordShift op a b) || has test a) (has test b) h in
          let q = or_parts (test (X.WordShift op a b)) (has test a) p.0 in
          head_clean v (X.WordShift op (A fs a (own g a)).right (A fs b (own g b)).right) (two (A fs a (own g a)) (A fs b (own g b)))
          (two_clean (X.WordShift op (A fs a (own g a)).right (A fs b (own g b)).right) (A fs a (own g a)).right (A fs b (own g b)).right (clean fs a x.0 q.1 (own g a)) (clean fs b x.1 p.1 (own g b)) refl refl refl)
      clean fs (X.Arith op a b) r h v =
          let x = and_parts (Ready fs a) (Ready fs b) r in
          let p = or_parts (test (X.Arith op a b) || has test a) (has test b) h in
          let q = or_parts (test (X.Arith op a b)) (has test a) p.0 in
          head_clean v (X.Arith op (A fs a (own g a)).right (A fs b (own g b)).right) (two (A fs a (own g a)) (A fs b (own g b)))
          (two_clean (X.Arith op (A fs a (own g a)).right (A fs b (own g b)).right) (A fs a (own g a)).right (A fs b (own g b)).right (clean fs a x.0 q.1 (own g a)) (clean fs b x.1 p.1 (own g b)) refl refl refl)
      clean fs (X.Lt a b) r h v =
          let x = and_parts (Ready fs a) (Ready fs b) r in
          let p = or_parts (test (X.Lt a b) || has test a) (has test b) h in
          let q = or_parts (test (X.Lt a b)) (has test a) p.0 in
          head_clean v (X.Lt (A fs a (own g a)).right (A fs b (own g b)).right) (two (A fs a (own g a)) (A fs b (own g b)))
          (two_clean (X.Lt (A fs a (own g a)).right (A fs b (own g b)).right) (A fs a (own g a)).right (A fs b (own g b)).right (clean fs a x.0 q.1 (own g a)) (clean fs b x.1 p.1 (own g b)) refl refl refl)
      clean fs (X.Le a b) r h v =
          let x = and_parts (Ready fs a) (Ready fs b) r in
          let p = or_parts (test (X.Le a b) || has test a) (has test b) h in
          let q = or_parts (test (X.Le a b)) (has test a) p.0 in
          head_clean v (X.Le (A fs a (own g a)).right (A fs b (own g b)).right) (two (A fs a (own g a)) (A fs b (own g b)))
          (two_clean (X.Le (A fs a (own g a)).right (A fs b (own g b)).right) (A fs a (own g a)).right (A fs b (own g b)).right (clean fs a x.0 q.1 (own g a)) (clean fs b x.1 p.1 (own g b)) refl refl refl)
      clean fs (X.Padd t a b) r h v =
          let x = and_parts (Ready fs a) (Ready fs b) r in
          let p = or_parts (test (X.Padd t a b) || has test a) (has test b) h in
          let q = or_parts (test (X.Padd t a b)) (has test a) p.0 in
          head_clean v (X.Padd t (A fs a (own g a)).right (A fs b (own g b)).right) (two (A fs a (own g a)) (A fs b (own g b)))
          (two_clean (X.Padd t (A fs a (own g a)).right (A fs b (own g b)).right) (A fs a (own g a)).right (A fs b (own g b)).right (clean fs a x.0 q.1 (own g a)) (clean fs b x.1 p.1 (own g b)) refl refl refl)
      clean fs (X.And a b) r h v =
          let t = A fs a truth in
          let x = and_parts (Ready fs a) (Ready (under (Whole t.right) fs) b) r in
          let p = or_parts (test (X.And a b) || has test a) (has test b) h in
          let q = or_parts (test (X.And a b)) (has test a) p.0 in
          two_clean (X.And t.right (A (under (Whole t.right) fs) b truth).right) t.right (A (under (Whole t.right) fs) b truth).right (clean fs a x.0 q.1 truth) (clean (under (Whole t.right) fs) b x.1 p.1 truth) refl refl refl
      clean fs (X.Or a b) r h v =
          let t = A fs a truth in
          let x = and_parts (Ready fs a) (Ready (under (NotTrue t.right) fs) b) r in
          let p = or_parts (test (X.Or a b) || has test a) (has test b) h in
          let q = or_parts (test (X.Or a b)) (has test a) p.0 in
          two_clean (X.Or t.right (A (under (NotTrue t.right) fs) b truth).right) t.right (A (under (NotTrue t.right) fs) b truth).right (clean fs a x.0 q.1 truth) (clean (under (NotTrue t.right) fs) b x.1 p.1 truth) refl refl refl
      clean fs (X.Imp a b) r h v =
          let t = A fs a truth in
          let x = and_parts (Ready fs a) (Ready (under (Whole t.right) fs) b) r in
          let p = or_parts (test (X.Imp a b) || has test a) (has test b) h in
          let q = or_parts (test (X.Imp a b)) (has test a) p.0 in
          two_clean (X.Imp t.right (A (under (Whole t.right) fs) b truth).right) t.right (A (under (Whole t.right) fs) b truth).right (clean fs a x.0 q.1 truth) (clean (under (Whole t.right) fs) b x.1 p.1 truth) refl refl refl
      clean fs (X.Not a) r h v =
          let q = or_parts (test (X.Not a)) (has test a) h in over_one (X.Not (A fs a truth).right) (A fs a truth).right (clean fs a r q.1 truth) (λ k. k) refl refl
      clean fs (X.If c a b) r h v =
          let t = A fs c truth in
          let x = A (under (Whole t.right) fs) a v in
          let y = A (under (NotTrue t.right) fs) b v in
          let i = and_parts (Ready fs c && Ready (under (Whole t.right) fs) a) (Ready (under (NotTrue t.right) fs) b) r in
          let j = and_parts (Ready fs c) (Ready (under (Whole t.right) fs) a) i.0 in
          let p = or_parts (test (X.If c a b) || has test c || has test a) (has test b) h in
          let q = or_parts (test (X.If c a b) || has test c) (has test a) p.0 in
          let s = or_parts (test (X.If c a b)) (has test c) q.0 in
          let k = clean fs c j.0 s.1 truth in
          let m = clean (under (Whole t.right) fs) a j.1 q.1 v in
          let n = clean (under (NotTrue t.right) fs) b i.1 p.1 v in
          record {
            arithmetic = λ l. neither (has is_word_arithmetic t.right || has is_word_arithmetic x.right) (has is_word_arithmetic y.right) (neither (has is_word_arithmetic t.right) (has is_word_arithmetic x.right) (k.arithmetic l) (m.arithmetic l)) (n.arithmetic l);
            heap = neither (test (X.If t.right x.right y.right) || has test t.right || has test x.right) (has test y.right)
                (neither (test (X.If t.right x.right y.right) || has test t.right) (has test x.right) (neither (test (X.If t.right x.right y.right)) (has test t.right) (elsewhere (X.If t.right x.right y.right) refl) k.heap) m.heap) n.heap;
          }
      clean fs (X.At t p path) r h v =
          let x = A fs p (own g p) in
          let i = I fs path no_trees in
          let k = and_parts (Ready fs p) (PathReady fs path) r in
          let q = or_parts (test (X.At t p path) || has test p) (path_has test path) h in
          let s = or_parts (test (X.At t p path)) (has test p) q.0 in
          head_clean v (X.At t x.right i.path) (tree x.tree i.trees)
          (over_path (X.At t x.right i.path) x.right i.path (clean fs p k.0 s.1 (own g p)) (clean_path fs path k.1 q.1 no_trees) (λ c d n. neither (has is_word_arithmetic x.right) (path_has is_word_arithmetic i.path) c d) refl (elsewhere (X.At t x.right i.path) refl))
      clean fs (X.Load t p path) r h v =
          let x = A fs p (own g p) in
          let i = I fs path no_trees in
          let k = and_parts (Ready fs p) (PathReady fs path) r in
          let q = or_parts (test (X.Load t p path) || has test p) (path_has test path) h in
          let s = or_parts (test (X.Load t p path)) (has test p) q.0 in
          head_clean v (X.Load t x.right i.path) (tree x.tree i.trees)
          (over_path (X.Load t x.right i.path) x.right i.path (clean fs p k.0 s.1 (own g p)) (clean_path fs path k.1 q.1 no_trees) (λ c d n. neither (has is_word_arithmetic x.right) (path_has is_word_arithmetic i.path) c d) refl (loads t t p x.right path i.path s.0))
      clean fs (X.Read t p path) r h v =
          let x = A fs p (own g p) in
          let i = I fs path no_trees in
          let k = and_parts (Ready fs p) (PathReady fs path) r in
          let q = or_parts (test (X.Read t p path) || has test p) (path_has test path) h in
          let s = or_parts (test (X.Read t p path)) (has test p) q.0 in
          head_clean v (X.Read t x.right i.path) (tree x.tree i.trees)
          (over_path (X.Read t x.right i.path) x.right i.path (clean fs p k.0 s.1 (own g p)) (clean_path fs path k.1 q.1 no_trees) (λ c d n. neither (has is_word_arithmetic x.right) (path_has is_word_arithmetic i.path) c d) refl (reads t t p x.right path i.path s.0))
      clean fs (X.Global y path) r h v =
          let i = I fs path no_trees in
          let q = or_parts (test (X.Global y path)) (path_has test path) h in
          let c = clean_path fs path r q.1 no_trees in
          head_clean v (X.Global y i.path) i.trees (record { arithmetic = c.arithmetic; heap = neither (test (X.Global y i.path)) (path_has test i.path) (elsewhere (X.Global y i.path) refl) c.heap })
      clean fs (X.Sel p path) r h v =
          let x = A fs p (own g p) in
          let i = I fs path no_trees in
          let k = and_parts (Ready fs p) (PathReady fs path) r in
          let q = or_parts (test (X.Sel p path) || has test p) (path_has test path) h in
          let s = or_parts (test (X.Sel p path)) (has test p) q.0 in
          head_clean v (X.Sel x.right i.path) (tree x.tree i.trees)
          (over_path (X.Sel x.right i.path) x.right i.path (clean fs p k.0 s.1 (own g p)) (clean_path fs path k.1 q.1 no_trees) (λ c d n. neither (has is_word_arithmetic x.right) (path_has is_word_arithmetic i.path) c d) refl (elsewhere (X.Sel x.right i.path) refl))
      clean fs (X.Upd p path u) r h v =
          let x = A fs p (own g p) in
          let y = A fs u (own g u) in
          let i = I fs path (one y) in
          let j = and_parts (Ready fs p && PathReady fs path) (Ready fs u) r in
          let k = and_parts (Ready fs p) (PathReady fs path) j.0 in
          let q = or_parts (test (X.Upd p path u) || has test p || path_has test path) (has test u) h in
          let s = or_parts (test (X.Upd p path u) || has test p) (path_has test path) q.0 in
          let z = or_parts (test (X.Upd p path u)) (has test p) s.0 in
          let c = clean fs p k.0 z.1 (own g p) in
          let d = clean_path fs path k.1 s.1 (one y) in
          let e = clean fs u j.1 q.1 (own g u) in
          head_clean v (X.Upd x.right i.path y.right) (tree x.tree i.trees) (record {
            arithmetic = λ l. neither (has is_word_arithmetic x.right || path_has is_word_arithmetic i.path) (has is_word_arithmetic y.right) (neither (has is_word_arithmetic x.right) (path_has is_word_arithmetic i.path) (c.arithmetic l) (d.arithmetic l)) (e.arithmetic l);
            heap = neither (test (X.Upd x.right i.path y.right) || has test x.right || path_has test i.path) (has test y.right)
                (neither (test (X.Upd x.right i.path y.right) || has test x.right) (path_has test i.path) (neither (test (X.Upd x.right i.path y.right)) (has test x.right) (elsewhere (X.Upd x.right i.path y.right) refl) c.heap) d.heap) e.heap;
          })

      pub clean_path : (fs : Surroundings) (path : Path) → path_ready same numbers g names fs path ≡ true → path_has test path ≡ false → (ts : Trees R.Rule) → CleanPath (indices same numbers g names fs path ts).path
      clean_path fs X.Here r h ts = record { arithmetic = λ n. refl; heap = refl }
      clean_path fs (X.IntoField k path) r h ts = let c = clean_path fs path r h ts in record { arithmetic = c.arithmetic; heap = c.heap }
      clean_path fs (X.IntoElement e path) r h ts =
          let x = and_parts (Ready fs e) (PathReady fs path) r in
          let q = or_parts (has test e) (path_has test path) h in
          let c = clean fs e x.0 q.0 (own g e) in
          let d = clean_path fs path x.1 q.1 ts in
          record {
            arithmetic = λ n. neither (has is_word_arithmetic (A fs e (own g e)).right) (path_has is_word_arithmetic (I fs path ts).path) (c.arithmetic n) (d.arithmetic n);
            heap = neither (has test (A fs e (own g e)).right) (path_has test (I fs path ts).path) c.heap d.heap;
          }
