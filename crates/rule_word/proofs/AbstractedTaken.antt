-- The rules take each well-sorted expression to what it is abstracted to.
use Rattle.std.proofs.Common.{◌≡◌, ℕ, Bool, true, false, cond, not, ◌&&◌, List, [], ◌∷◌, ◌++◌, Option, Some, None, refl, sym, subst, ap, ◌∙◌}
use Rattle.std.proofs.lemmas.Bool.{and_parts}
use Rattle.c_values.specs.Name.{Name, same_name}
use Rattle.c_values.specs.Types.{address_width}
use Rattle.c_values.specs.Layout.{Shape, Record, Row as Elements, shape_of, is_object}
use Rattle.c_values.specs.Path.{member_spot, Spot}
use Rattle.c_values.specs.Word.{WordOp, Wadd, Wsub, Wmul, Wand, Wor, Wxor, Wudiv, Wumod, Wsdiv, Wsmod, UnaryOp, Wneg, Wnot, WordTest, Wult, Wule, Wslt, Wsle}
use Rattle.c_values.specs.Number as N
use Rattle.expression_lang.specs.Expression as X
use Rattle.expression_lang.specs.Expression.{Exp, Path}
use Rattle.expression_lang.specs.Sort.{Kind, WordKind, NatKind, IntKind, BoolKind, Sort, Of, PartsSort, WordSort, NumberSort, TruthSort, Scope, sort_of, shape_along, shape_in, word_sort, number_sort, truth_sort, word_width, is_number, is_truth, is_word_of, are_same, word_sort_of, where_holds, of_word, of_shape, parts_shape, sort_at, scalar_sort, is_width, cast_fits, is_unary, is_one_step}
use Rattle.expression_lang.specs.Signature.{Binder}
use Rattle.expression_lang.proofs.Inversion.{where_inv, words_inv, word_inv, width_inv, number_inv, truth_inv, word_of_inv, same_inv, shape_inv, type_inv, parts_inv}
use Rattle.ac_expr.specs.Fact.{Whole, NotTrue}
use Rattle.ac_expr.specs.Heads.{head, children, path_children, path_head, hole}
use Rattle.rule_trees.specs.RuleTree.{Trees, no_trees, tree, Accepts, AcceptsAll}
use Rattle.rule_word.specs.Rule as R
use Rattle.rule_word.specs.Rule.{Rule, Context, Point, View, AsIs, Unsigned, Signed, Claim, expression}
use Rattle.rule_word.specs.Scopes.{names_in, words, sort_seen, view_for, own, width_in}
use Rattle.rule_word.specs.Table.{truth, each, owns, is_operator, table, of_width}
use Rattle.rule_word.specs.Bases.{Surroundings, under, known_there, Base, Words, Naturals, Integers, view_at_base, kind_at_base, integer_range, signed_base_in, where_numbers, first_base, oldest_range, signed_or_words}
use Rattle.rule_word.specs.WordsAbstracted.{Abstracted, made, one, two, as_word, seen_from, by_head, or_zero, Operands, words_of, binary_base, binary_at, negation_base, unary_at, view_of_test, equality_kind, constant_at, var_at, Indices, extended, extended_signed, operands, compared, cast_at, equal, abstracted, indices, base_of}
use Rattle.rule_word.proofs.BasesKnown.{base_known, signed_known}

same_width : (m n : ℕ) → word_sort m ≡ word_sort n → m ≡ n
same_width m n h = cc

-- what all names have, by their kinds
abbrev there : {A : Type 0} → (Kind → A) → Option Kind → Option A
there f None = None
there f (Some k) = Some (f k)

pub by_names : {A : Type 0} (f : Kind → A) (b : Bool) (k : Kind) (o : Option A) (q : Option Kind) → o ≡ there f q → cond b (Some (f k)) o ≡ there f (cond b (Some k) q)
by_names f true k o q h = refl
by_names f false k o q h = h

pub names_there : {A : Type 0} (f : Kind → A) (bs : List Binder) (x : Name) → names_in f bs x ≡ there f (names_in (λ k. k) bs x)
names_there f [] x = refl
names_there f (b ∷ bs) x = by_names f (same_name b.name x) b.kind (names_in f bs x) (names_in (λ k. k) bs x) (names_there f bs x)

module _ (ctx : Context) (names : List Binder) (same : Exp → Exp → Bool) (is_same : (a b : Exp) → same a b ≡ true → a ≡ b) (numbers : Bool) where
  abbrev g : Scope
  g = (words ctx names).scope

  abbrev point : Surroundings → Point
  point fs = record { facts = known_there fs; names = names }

  abbrev Taken : Surroundings → Exp → View → Abstracted → Type 0
  Taken fs e v x = Accepts (table ctx) x.tree (expression (point fs) e v x.right)

  abbrev A : Surroundings → Exp → View → Abstracted
  A fs e v = abstracted same numbers (words ctx names).scope names fs e v

  -- a word that is taken at a base is taken at each view
  as_word_taken : (fs : Surroundings) (base : Base) (n : ℕ) (e : Exp) (x : Abstracted) → sort_of g e ≡ word_sort n → Taken fs e (view_at_base base n) x → Taken fs e (AsIs (word_sort n)) (as_word base n x)
  as_word_taken fs Words n e x q h = h
  as_word_taken fs Naturals n e x q h = ((q, (refl, refl)), (h, tt))
  as_word_taken fs Integers n e x q h = ((q, (refl, refl)), (h, tt))

  as_is_taken : (fs : Surroundings) (o p : Option Sort) (e : Exp) (x : Abstracted) → p ≡ o → Taken fs e (AsIs o) x → Taken fs e (AsIs p) x
  as_is_taken fs o p e x h t = subst (λ z. Taken fs e (AsIs z) x) (sym h) t

  seen_taken : (fs : Surroundings) (base : Base) (n : ℕ) (e : Exp) (x : Abstracted) → sort_of g e ≡ word_sort n → Taken fs e (view_at_base base n) x → (v : View) → sort_seen v ≡ word_sort n → Taken fs e v (seen_from base n v x)
  seen_taken fs Naturals n e x q h (Unsigned m) k = subst (λ i. Taken fs e (Unsigned i) x) (sym (same_width m n k)) h
  seen_taken fs Integers n e x q h (Signed m) k = subst (λ i. Taken fs e (Signed i) x) (sym (same_width m n k)) h
  seen_taken fs Words n e x q h (AsIs o) k = as_is_taken fs (word_sort n) o e x k h
  seen_taken fs Naturals n e x q h (AsIs o) k = as_is_taken fs (word_sort n) o e (as_word Naturals n x) k (as_word_taken fs Naturals n e x q h)
  seen_taken fs Integers n e x q h (AsIs o) k = as_is_taken fs (word_sort n) o e (as_word Integers n x) k (as_word_taken fs Integers n e x q h)
  seen_taken fs Words n e x q h (Unsigned m) k = ((q ∙ sym k, tt), (as_is_taken fs (word_sort n) (word_sort m) e x k h, tt))
  seen_taken fs Integers n e x q h (Unsigned m) k = ((q ∙ sym k, tt), (as_is_taken fs (word_sort n) (word_sort m) e (as_word Integers n x) k (as_word_taken fs Integers n e x q h), tt))
  seen_taken fs Words n e x q h (Signed m) k = ((q ∙ sym k, tt), (as_is_taken fs (word_sort n) (word_sort m) e x k h, tt))
  seen_taken fs Naturals n e x q h (Signed m) k = ((q ∙ sym k, tt), (as_is_taken fs (word_sort n) (word_sort m) e (as_word Naturals n x) k (as_word_taken fs Naturals n e x q h), tt))

  -- a head that no other rule is for
  abbrev HeadTaken : Surroundings → Exp → Exp → Trees Rule → Type 0
  HeadTaken fs e a ts = AcceptsAll (table ctx) ts (each (point fs) (children e) (owns g (children e)) (children a))

  op_taken : (fs : Surroundings) (e a : Exp) (ts : Trees Rule) (o : Option Sort) → sort_of g e ≡ o → is_operator e ≡ true → head a ≡ head e → HeadTaken fs e a ts → Taken fs e (AsIs o) (made R.Op a ts)
  op_taken fs e a ts o q i h k = ((q, (i, h)), k)

  by_head_taken : (fs : Surroundings) (e a : Exp) (ts : Trees Rule) (s : Sort) → sort_of g e ≡ Some s → is_operator e ≡ true → head a ≡ head e → HeadTaken fs e a ts → (v : View) → sort_seen v ≡ Some s → Taken fs e v (by_head v a ts)
  by_head_taken fs e a ts s q i h k (AsIs o) w = op_taken fs e a ts o (q ∙ sym w) i h k
  by_head_taken fs e a ts s q i h k (Unsigned m) w = ((q ∙ sym w, tt), (op_taken fs e a ts (word_sort m) (q ∙ sym w) i h k, tt))
  by_head_taken fs e a ts s q i h k (Signed m) w = ((q ∙ sym w, tt), (op_taken fs e a ts (word_sort m) (q ∙ sym w) i h k, tt))

  -- a view of what is no word
  not_word : (P : View → Type 0) (v : View) (s : Sort) → sort_seen v ≡ Some s → word_width (Some s) ≡ None → P (AsIs (Some s)) → P v
  not_word P (AsIs o) s h k p = subst (λ z. P (AsIs z)) (sym h) p
  not_word P (Unsigned m) s h k p = absurd (no_width m (ap word_width h ∙ k))
    where
      no_width : (m : ℕ) → ◌≡◌ {A = Option ℕ} (Some m) None → ⊥
      no_width m h = cc
  not_word P (Signed m) s h k p = absurd (no_width m (ap word_width h ∙ k))
    where
      no_width : (m : ℕ) → ◌≡◌ {A = Option ℕ} (Some m) None → ⊥
      no_width m h = cc

  -- the width of an operand
  width_there : (a : Exp) (n : ℕ) → word_width (sort_of g a) ≡ Some n → sort_of g a ≡ word_sort (or_zero (width_in g a))
  width_there a n h = width_inv (sort_of g a) n h ∙ ap (λ o. word_sort (or_zero o)) (sym h)

  width_of_both : (a : Exp) (n : ℕ) → word_width (sort_of g a) ≡ Some n → n ≡ or_zero (width_in g a)
  width_of_both a n h = ap or_zero (sym h)

  var_taken : (fs : Surroundings) (x : Name) (o : Option Kind) → names_in (λ k. k) names x ≡ o → (s : Sort) → sort_of g (X.Var x) ≡ Some s → (v : View) → sort_seen v ≡ Some s → Taken fs (X.Var x) v (var_at o x v)
  var_taken fs x o e s q v w = by_kind o (names_there word_sort_of names x ∙ ap (there word_sort_of) e) (names_there view_for names x ∙ ap (there view_for) e)
    where
      kind_sorted : (k : Kind) → names_in word_sort_of names x ≡ Some (word_sort_of k) → sort_of g (X.Var x) ≡ Some (Of (word_sort_of k))
      kind_sorted k a = ap scalar_sort a

      by_kind : (o : Option Kind) → names_in word_sort_of names x ≡ there word_sort_of o → names_in view_for names x ≡ there view_for o → Taken fs (X.Var x) v (var_at o x v)
      by_kind None a b = absurd (no_sort (ap scalar_sort a) q)
        where
          no_sort : {o : Option Sort} → o ≡ None → o ≡ Some s → ⊥
          no_sort h k = cc
      by_kind (Some (WordKind n)) a b = seen_taken fs Words n (X.Var x) (made R.Var (X.Var x) no_trees) (kind_sorted (WordKind n) a) ((kind_sorted (WordKind n) a, (refl, b)), tt) v (w ∙ sym q ∙ kind_sorted (WordKind n) a)
      by_kind (Some (NatKind n)) a b = seen_taken fs Naturals n (X.Var x) (made R.Var (X.Var x) no_trees) (kind_sorted (NatKind n) a) ((kind_sorted (NatKind n) a, (refl, b)), tt) v (w ∙ sym q ∙ kind_sorted (NatKind n) a)
      by_kind (Some (IntKind n)) a b = seen_taken fs Integers n (X.Var x) (made R.Var (X.Var x) no_trees) (kind_sorted (IntKind n) a) ((kind_sorted (IntKind n) a, (refl, b)), tt) v (w ∙ sym q ∙ kind_sorted (IntKind n) a)
      by_kind (Some BoolKind) a b = not_word (λ u. Taken fs (X.Var x) u (var_at (Some BoolKind) x u)) v (Of TruthSort) (w ∙ sym q ∙ kind_sorted BoolKind a) refl ((kind_sorted BoolKind a, (refl, b)), tt)

  literal_taken : (fs : Surroundings) (w : _) (s : Sort) → sort_of g (X.WordLit w) ≡ Some s → (v : View) → sort_seen v ≡ Some s → Taken fs (X.WordLit w) v (constant_at v (X.WordLit w))
  literal_taken fs w s q (AsIs o) h = ((q ∙ sym h, refl), tt)
  literal_taken fs w s q (Unsigned n) h = ((q ∙ sym h, refl), tt)
  literal_taken fs w s q (Signed n) h = ((q ∙ sym h, refl), tt)

  no_integers : (b : Bool) → where_numbers b Naturals ≡ Integers → ⊥
  no_integers true h = cc
  no_integers false h = cc

  no_naturals : (b : Bool) → where_numbers b Integers ≡ Naturals → ⊥
  no_naturals true h = cc
  no_naturals false h = cc

  no_signed_naturals : (fs : Surroundings) (n : ℕ) (r : Exp) (b : Bool) → signed_base_in same b fs n r ≡ Naturals → ⊥
  no_signed_naturals fs n r false h = cc
  no_signed_naturals fs n r true h = by_found (oldest_range same fs.conditions (integer_range n r) (integer_range n r) fs.facts) h
    where
      by_found : (o : Option Base) → signed_or_words o ≡ Naturals → ⊥
      by_found None h = cc
      by_found (Some c) h = cc

  -- both operands are taken, at each base
  record BothTaken (fs : Surroundings) (n : ℕ) (a b : Exp) (os : Operands) : Type 0 where
    words_a : Accepts (table ctx) os.words.0.tree (expression (record { facts = known_there fs; names = names }) a (own (words ctx names).scope a) os.words.0.right)
    words_b : Accepts (table ctx) os.words.1.tree (expression (record { facts = known_there fs; names = names }) b (own (words ctx names).scope b) os.words.1.right)
    naturals_a : Accepts (table ctx) os.naturals.0.tree (expression (record { facts = known_there fs; names = names }) a (Unsigned n) os.naturals.0.right)
    naturals_b : Accepts (table ctx) os.naturals.1.tree (expression (record { facts = known_there fs; names = names }) b (Unsigned n) os.naturals.1.right)
    integers_a : Accepts (table ctx) os.integers.0.tree (expression (record { facts = known_there fs; names = names }) a (Signed n) os.integers.0.right)
    integers_b : Accepts (table ctx) os.integers.1.tree (expression (record { facts = known_there fs; names = names }) b (Signed n) os.integers.1.right)

  module _ (fs : Surroundings) (n : ℕ) (a b : Exp) (os : Operands) (t : BothTaken fs n a b os) where
    words_taken : (op : WordOp) → sort_of g (X.WordBinary op a b) ≡ word_sort n → Taken fs (X.WordBinary op a b) (AsIs (word_sort n)) (words_of op os)
    words_taken op q = op_taken fs (X.WordBinary op a b) (X.WordBinary op os.words.0.right os.words.1.right) (two os.words.0 os.words.1) (word_sort n) q refl refl (t.words_a, (t.words_b, tt))

    binary_taken : (op : WordOp) (base : Base) → sort_of g (X.WordBinary op a b) ≡ word_sort n → binary_base same numbers fs n op os ≡ base → Taken fs (X.WordBinary op a b) (view_at_base base n) (binary_at op base os)
    binary_taken Wadd Words q h = words_taken Wadd q
    binary_taken Wadd Naturals q h = ((q, base_known same is_same numbers fs n (X.Arith N.Add os.naturals.0.right os.naturals.1.right) (X.Arith N.Add os.integers.0.right os.integers.1.right) Naturals h), (t.naturals_a, (t.naturals_b, tt)))
    binary_taken Wadd Integers q h = ((q, base_known same is_same numbers fs n (X.Arith N.Add os.naturals.0.right os.naturals.1.right) (X.Arith N.Add os.integers.0.right os.integers.1.right) Integers h), (t.integers_a, (t.integers_b, tt)))
    binary_taken Wsub Words q h = words_taken Wsub q
    binary_taken Wsub Naturals q h = ((q, base_known same is_same numbers fs n (X.Arith N.Sub os.naturals.0.right os.naturals.1.right) (X.Arith N.Sub os.integers.0.right os.integers.1.right) Naturals h), (t.naturals_a, (t.naturals_b, tt)))
    binary_taken Wsub Integers q h = ((q, base_known same is_same numbers fs n (X.Arith N.Sub os.naturals.0.right os.naturals.1.right) (X.Arith N.Sub os.integers.0.right os.integers.1.right) Integers h), (t.integers_a, (t.integers_b, tt)))
    binary_taken Wmul Words q h = words_taken Wmul q
    binary_taken Wmul Naturals q h = ((q, base_known same is_same numbers fs n (X.Arith N.Mul os.naturals.0.right os.naturals.1.right) (X.Arith N.Mul os.integers.0.right os.integers.1.right) Naturals h), (t.naturals_a, (t.naturals_b, tt)))
    binary_taken Wmul Integers q h = ((q, base_known same is_same numbers fs n (X.Arith N.Mul os.naturals.0.right os.naturals.1.right) (X.Arith N.Mul os.integers.0.right os.integers.1.right) Integers h), (t.integers_a, (t.integers_b, tt)))
    binary_taken Wudiv Words q h = words_taken Wudiv q
    binary_taken Wudiv Naturals q h = ((q, tt), (t.naturals_a, (t.naturals_b, tt)))
    binary_taken Wudiv Integers q h = absurd (no_integers numbers h)
    binary_taken Wumod Words q h = words_taken Wumod q
    binary_taken Wumod Naturals q h = ((q, tt), (t.naturals_a, (t.naturals_b, tt)))
    binary_taken Wumod Integers q h = absurd (no_integers numbers h)
    binary_taken Wsdiv Words q h = words_taken Wsdiv q
    binary_taken Wsdiv Naturals q h = absurd (no_signed_naturals fs n (X.Arith N.Div os.integers.0.right os.integers.1.right) numbers h)
    binary_taken Wsdiv Integers q h = ((q, signed_known same is_same numbers fs n (X.Arith N.Div os.integers.0.right os.integers.1.right) h), (t.integers_a, (t.integers_b, tt)))
    binary_taken Wsmod Words q h = words_taken Wsmod q
    binary_taken Wsmod Naturals q h = absurd (no_naturals numbers h)
    binary_taken Wsmod Integers q h = ((q, tt), (t.integers_a, (t.integers_b, tt)))
    binary_taken Wand Words q h = words_taken Wand q
    binary_taken Wor Words q h = words_taken Wor q
    binary_taken Wxor Words q h = words_taken Wxor q
    binary_taken _ _ q h = absurd cc

  unary_taken : (fs : Surroundings) (n : ℕ) (a : Exp) (op : UnaryOp) (word natural integer : Abstracted) (base : Base) → sort_of g (X.WordUnary op a) ≡ word_sort n →
      Taken fs a (own g a) word → Taken fs a (Unsigned n) natural → Taken fs a (Signed n) integer → negation_base same numbers fs n op natural integer ≡ base → Taken fs (X.WordUnary op a) (view_at_base base n) (unary_at op base word natural integer)
  unary_taken fs n a Wneg word natural integer Words q w x y h = op_taken fs (X.WordUnary Wneg a) (X.WordUnary Wneg word.right) (one word) (word_sort n) q refl refl (w, tt)
  unary_taken fs n a Wneg word natural integer Naturals q w x y h = ((q, base_known same is_same numbers fs n (X.Negate natural.right) (X.Negate integer.right) Naturals h), (x, tt))
  unary_taken fs n a Wneg word natural integer Integers q w x y h = ((q, base_known same is_same numbers fs n (X.Negate natural.right) (X.Negate integer.right) Integers h), (y, tt))
  unary_taken fs n a Wnot word natural integer Words q w x y h = op_taken fs (X.WordUnary Wnot a) (X.WordUnary Wnot word.right) (one word) (word_sort n) q refl refl (w, tt)
  unary_taken fs n a _ word natural integer _ q w x y h = absurd cc

  -- what is seen of an operand whose width is that of its sort
  width_row : (o : Option ℕ) (n : ℕ) (f : ℕ → List Claim) (ts : Trees Rule) → o ≡ Some n → AcceptsAll (table ctx) ts (f n) → (of_width o f).holds × AcceptsAll (table ctx) ts (of_width o f).parts
  width_row o n f ts h k = subst (λ z. (of_width z f).holds × AcceptsAll (table ctx) ts (of_width z f).parts) (sym h) (tt, k)

  width_some : (a : Exp) (n : ℕ) → sort_of g a ≡ word_sort n → width_in g a ≡ Some n
  width_some a n h = ap word_width h

  -- an extended word
  zext_taken : (fs : Surroundings) (m n : ℕ) (a : Exp) (x : Abstracted) → sort_of g (X.Cast X.Zext m a) ≡ word_sort m → sort_of g a ≡ word_sort n → Taken fs a (Unsigned n) x → (v : View) → sort_seen v ≡ word_sort m → Taken fs (X.Cast X.Zext m a) v (extended v m x)
  zext_taken fs m n a x q p h (Unsigned k) w = let r = width_row (width_in g a) n (λ j. expression (point fs) a (Unsigned j) x.right ∷ []) (one x) (width_some a n p) (h, tt) in ((q ∙ sym w, r.0), r.1)
  zext_taken fs m n a x q p h (Signed k) w = let r = width_row (width_in g a) n (λ j. expression (point fs) a (Unsigned j) x.right ∷ []) (one x) (width_some a n p) (h, tt) in ((q ∙ sym w, r.0), r.1)
  zext_taken fs m n a x q p h (AsIs o) w =
      let r = width_row (width_in g a) n (λ j. expression (point fs) a (Unsigned j) x.right ∷ []) (one x) (width_some a n p) (h, tt) in ((q ∙ sym w, (refl, w)), (((q, r.0), r.1), tt))

  sext_taken : (fs : Surroundings) (m n : ℕ) (a : Exp) (x : Abstracted) → sort_of g (X.Cast X.Sext m a) ≡ word_sort m → sort_of g a ≡ word_sort n → Taken fs a (Signed n) x → (v : View) → sort_seen v ≡ word_sort m → Taken fs (X.Cast X.Sext m a) v (extended_signed v m x)
  sext_taken fs m n a x q p h v w =
      let r = width_row (width_in g a) n (λ j. expression (point fs) a (Signed j) x.right ∷ []) (one x) (width_some a n p) (h, tt) in
      seen_taken fs Integers m (X.Cast X.Sext m a) (made R.Sext x.right (one x)) q ((q, r.0), r.1) v w

  -- tests
  compared_taken : (fs : Surroundings) (test : WordTest) (a b : Exp) (f h : View → Abstracted) (n : ℕ) → sort_of g (X.WordCompare test a b) ≡ truth_sort → sort_of g a ≡ word_sort n → sort_of g b ≡ word_sort n →
      Taken fs a (own g a) (f (own g a)) → Taken fs b (own g b) (h (own g b)) → Taken fs a (view_of_test test n) (f (view_of_test test n)) → Taken fs b (view_of_test test n) (h (view_of_test test n)) → (c : Bool) →
      Taken fs (X.WordCompare test a b) truth (compared c test f h (own g a) (own g b) n)
  compared_taken fs test a b f h n q p r w x y z false = op_taken fs (X.WordCompare test a b) (X.WordCompare test (f (own g a)).right (h (own g b)).right) (two (f (own g a)) (h (own g b))) truth_sort q refl refl (w, (x, tt))
  compared_taken fs Wult a b f h n q p r w x y z true =
      let k = width_row (width_in g a) n (λ j. expression (point fs) a (Unsigned j) (f (Unsigned n)).right ∷ expression (point fs) b (Unsigned j) (h (Unsigned n)).right ∷ []) (two (f (Unsigned n)) (h (Unsigned n))) (width_some a n p) (y, (z, tt)) in ((q, k.0), k.1)
  compared_taken fs Wule a b f h n q p r w x y z true =
      let k = width_row (width_in g a) n (λ j. expression (point fs) a (Unsigned j) (f (Unsigned n)).right ∷ expression (point fs) b (Unsigned j) (h (Unsigned n)).right ∷ []) (two (f (Unsigned n)) (h (Unsigned n))) (width_some a n p) (y, (z, tt)) in ((q, k.0), k.1)
  compared_taken fs Wslt a b f h n q p r w x y z true =
      let k = width_row (width_in g a) n (λ j. expression (point fs) a (Signed j) (f (Signed n)).right ∷ expression (point fs) b (Signed j) (h (Signed n)).right ∷ []) (two (f (Signed n)) (h (Signed n))) (width_some a n p) (y, (z, tt)) in ((q, k.0), k.1)
  compared_taken fs Wsle a b f h n q p r w x y z true =
      let k = width_row (width_in g a) n (λ j. expression (point fs) a (Signed j) (f (Signed n)).right ∷ expression (point fs) b (Signed j) (h (Signed n)).right ∷ []) (two (f (Signed n)) (h (Signed n))) (width_some a n p) (y, (z, tt)) in ((q, k.0), k.1)

  cast_taken : (fs : Surroundings) (op : X.CastOp) (m n : ℕ) (a : Exp) (f : View → Abstracted) → sort_of g (X.Cast op m a) ≡ word_sort m → sort_of g a ≡ word_sort n → Taken fs a (own g a) (f (own g a)) → Taken fs a (Unsigned n) (f (Unsigned n)) → Taken fs a (Signed n) (f (Signed n)) →
      (v : View) → sort_seen v ≡ word_sort m → (c : Bool) → Taken fs (X.Cast op m a) v (cast_at c op m v f (own g a) n)
  cast_taken fs X.Zext m n a f q p w x y v h true = zext_taken fs m n a (f (Unsigned n)) q p x v h
  cast_taken fs X.Sext m n a f q p w x y v h true = sext_taken fs m n a (f (Signed n)) q p y v h
  cast_taken fs X.Trunc m n a f q p w x y v h true = by_head_taken fs (X.Cast X.Trunc m a) (X.Cast X.Trunc m (f (own g a)).right) (one (f (own g a))) (Of (WordSort m)) q refl refl (w, tt) v h
  cast_taken fs X.Zext m n a f q p w x y v h false = by_head_taken fs (X.Cast X.Zext m a) (X.Cast X.Zext m (f (own g a)).right) (one (f (own g a))) (Of (WordSort m)) q refl refl (w, tt) v h
  cast_taken fs X.Sext m n a f q p w x y v h false = by_head_taken fs (X.Cast X.Sext m a) (X.Cast X.Sext m (f (own g a)).right) (one (f (own g a))) (Of (WordSort m)) q refl refl (w, tt) v h
  cast_taken fs X.Trunc m n a f q p w x y v h false = by_head_taken fs (X.Cast X.Trunc m a) (X.Cast X.Trunc m (f (own g a)).right) (one (f (own g a))) (Of (WordSort m)) q refl refl (w, tt) v h

  base_sort : (b : Base) (n : ℕ) → sort_seen (view_for (kind_at_base b n)) ≡ word_sort n
  base_sort Words n = refl
  base_sort _ _ = refl

  equal_taken : (fs : Surroundings) (a b : Exp) (f h : View → Abstracted) (base : Base) (s : Sort) → sort_of g (X.Eq a b) ≡ truth_sort → sort_of g a ≡ Some s → sort_of g b ≡ Some s →
      ((v : View) → sort_seen v ≡ Some s → Taken fs a v (f v)) → ((v : View) → sort_seen v ≡ Some s → Taken fs b v (h v)) → Taken fs (X.Eq a b) truth (equal f h (own g a) (own g b) (equality_kind (Some s) base))
  equal_taken fs a b f h base (Of (WordSort n)) q p r x y = ((q, tt), (x (view_for (kind_at_base base n)) (base_sort base n), (y (view_for (kind_at_base base n)) (base_sort base n), tt)))
  equal_taken fs a b f h base (Of TruthSort) q p r x y = ((q, tt), (x truth refl, (y truth refl, tt)))
  equal_taken fs a b f h base (Of NumberSort) q p r x y = op_taken fs (X.Eq a b) (X.Eq (f (own g a)).right (h (own g b)).right) (two (f (own g a)) (h (own g b))) truth_sort q refl refl (x (own g a) p, (y (own g b) r, tt))
  equal_taken fs a b f h base (PartsSort t) q p r x y = op_taken fs (X.Eq a b) (X.Eq (f (own g a)).right (h (own g b)).right) (two (f (own g a)) (h (own g b))) truth_sort q refl refl (x (own g a) p, (y (own g b) r, tt))

  test_sort : (test : WordTest) (n : ℕ) → sort_seen (view_of_test test n) ≡ word_sort n
  test_sort Wult n = refl
  test_sort _ _ = refl

  -- the indices of a path are numbers
  abbrev pub AllNumbers : Path → Type 0
  AllNumbers X.Here = Unit {0}
  AllNumbers (X.IntoField k path) = AllNumbers path
  AllNumbers (X.IntoElement e path) = (sort_of g e ≡ number_sort) × AllNumbers path

  pub all_numbers : (path : Path) (s q : Shape) → shape_along g path s ≡ Some q → AllNumbers path
  all_numbers X.Here s q h = tt
  all_numbers (X.IntoField k path) (Record y n align ms) q h = by_member (member_spot ms k) h (λ r. all_numbers path r q)
    where
      by_member : (o : Option Spot) → shape_in o (λ s. shape_along g path s) ≡ Some q → ((r : Shape) → shape_along g path r ≡ Some q → AllNumbers path) → AllNumbers path
      by_member None h rest = absurd cc
      by_member (Some r) h rest = rest r.shape h
  all_numbers (X.IntoElement e path) (Elements r n) q h = by_index (is_number (sort_of g e)) refl h (λ k. all_numbers path r q k)
    where
      by_index : (b : Bool) → is_number (sort_of g e) ≡ b → cond b (shape_along g path r) None ≡ Some q → (shape_along g path r ≡ Some q → AllNumbers path) → AllNumbers (X.IntoElement e path)
      by_index true i h rest = (number_inv (sort_of g e) i, rest h)
      by_index false i h rest = absurd cc
  all_numbers _ _ q h = absurd cc

  pub path_head_kept : (fs : Surroundings) (path : Path) (ts : Trees Rule) → path_head (indices same numbers g names fs path ts).path ≡ path_head path
  path_head_kept fs X.Here ts = refl
  path_head_kept fs (X.IntoField k path) ts = ap (λ p. X.IntoField k p) (path_head_kept fs path ts)
  path_head_kept fs (X.IntoElement e path) ts = ap (λ p. X.IntoElement hole p) (path_head_kept fs path ts)

  abbrev I : Surroundings → Path → Trees Rule → Indices
  I fs path ts = indices same numbers (words ctx names).scope names fs path ts

  mutual
    pub taken : (fs : Surroundings) (e : Exp) (s : Sort) → sort_of g e ≡ Some s → (v : View) → sort_seen v ≡ Some s → Taken fs e v (A fs e v)
    taken fs (X.Var x) s q v w = var_taken fs x (names_in (λ k. k) names x) refl s q v w
    taken fs (X.WordLit x) s q v w = literal_taken fs x s q v w
    taken fs (X.NumberLit n) s q v w = not_word (λ u. Taken fs (X.NumberLit n) u (constant_at u (X.NumberLit n))) v (Of NumberSort) (w ∙ sym q) refl ((refl, refl), tt)
    taken fs (X.TruthLit b) s q v w = not_word (λ u. Taken fs (X.TruthLit b) u (constant_at u (X.TruthLit b))) v (Of TruthSort) (w ∙ sym q) refl ((refl, refl), tt)
    taken fs (X.WordBinary op a b) s q v w =
        let i = words_inv (word_width (sort_of g a)) (word_width (sort_of g b)) word_sort s q in
        let n = or_zero (width_in g a) in
        let e = width_of_both a i.0 i.1 in
        let pa = width_there a i.0 i.1 in
        let pb : sort_of g b ≡ word_sort (or_zero (width_in g a)) = width_inv (sort_of g b) i.0 i.2 ∙ ap word_sort e in
        let qe : sort_of g (X.WordBinary op a b) ≡ word_sort (or_zero (width_in g a)) = q ∙ sym i.3 ∙ ap word_sort e in
        let os = operands (λ u. A fs a u) (λ u. A fs b u) (own g a) (own g b) n in
        let base = binary_base same numbers fs n op os in
        seen_taken fs base n (X.WordBinary op a b) (binary_at op base os) qe
        (binary_taken fs n a b os (record {
          words_a = taken fs a (Of (WordSort n)) pa (own g a) pa;
          words_b = taken fs b (Of (WordSort n)) pb (own g b) pb;
          naturals_a = taken fs a (Of (WordSort n)) pa (Unsigned n) refl;
          naturals_b = taken fs b (Of (WordSort n)) pb (Unsigned n) refl;
          integers_a = taken fs a (Of (WordSort n)) pa (Signed n) refl;
          integers_b = taken fs b (Of (WordSort n)) pb (Signed n) refl;
        }) op base qe refl) v (w ∙ sym q ∙ qe)
    taken fs (X.WordShift op a k) s q v w =
        let r = where_inv (is_number (sort_of g k)) (of_word (word_width (sort_of g a)) word_sort) s q in
        let i = word_inv (word_width (sort_of g a)) word_sort s r.1 in
        let pa = width_inv (sort_of g a) i.0 i.1 in
        let pk = number_inv (sort_of g k) r.0 in
        by_head_taken fs (X.WordShift op a k) (X.WordShift op (A fs a (own g a)).right (A fs k (own g k)).right) (two (A fs a (own g a)) (A fs k (own g k))) s q refl refl
        (taken fs a (Of (WordSort i.0)) pa (own g a) pa, (taken fs k (Of NumberSort) pk (own g k) pk, tt)) v w
    taken fs (X.WordUnary op a) s q v w =
        let i = word_inv (word_width (sort_of g a)) word_sort s q in
        let n = or_zero (width_in g a) in
        let e = width_of_both a i.0 i.1 in
        let pa = width_there a i.0 i.1 in
        let qe : sort_of g (X.WordUnary op a) ≡ word_sort (or_zero (width_in g a)) = q ∙ sym i.2 ∙ ap word_sort e in
        let base = negation_base same numbers fs n op (A fs a (Unsigned n)) (A fs a (Signed n)) in
        seen_taken fs base n (X.WordUnary op a) (unary_at op base (A fs a (own g a)) (A fs a (Unsigned n)) (A fs a (Signed n))) qe
        (unary_taken fs n a op (A fs a (own g a)) (A fs a (Unsigned n)) (A fs a (Signed n)) base qe
        (taken fs a (Of (WordSort n)) pa (own g a) pa) (taken fs a (Of (WordSort n)) pa (Unsigned n) refl) (taken fs a (Of (WordSort n)) pa (Signed n) refl) refl) v (w ∙ sym q ∙ qe)
    taken fs (X.WordCompare test a b) s q v w =
        let i = words_inv (word_width (sort_of g a)) (word_width (sort_of g b)) (λ n. truth_sort) s q in
        let n = or_zero (width_in g a) in
        let e = width_of_both a i.0 i.1 in
        let pa = width_there a i.0 i.1 in
        let pb : sort_of g b ≡ word_sort (or_zero (width_in g a)) = width_inv (sort_of g b) i.0 i.2 ∙ ap word_sort e in
        not_word (λ u. Taken fs (X.WordCompare test a b) u (A fs (X.WordCompare test a b) u)) v (Of TruthSort) (w ∙ sym i.3) refl
        (compared_taken fs test a b (λ u. A fs a u) (λ u. A fs b u) n (q ∙ sym i.3) pa pb
        (taken fs a (Of (WordSort n)) pa (own g a) pa) (taken fs b (Of (WordSort n)) pb (own g b) pb)
        (taken fs a (Of (WordSort n)) pa (view_of_test test n) (test_sort test n)) (taken fs b (Of (WordSort n)) pb (view_of_test test n) (test_sort test n)) numbers)
    taken fs (X.Cast op m a) s q v w =
        let i = word_inv (word_width (sort_of g a)) (λ from. where_holds (is_width m && cast_fits op from m) (word_sort m)) s q in
        let r = where_inv (is_width m && cast_fits op i.0 m) (word_sort m) s i.2 in
        let n = or_zero (width_in g a) in
        let pa = width_there a i.0 i.1 in
        cast_taken fs op m n a (λ u. A fs a u) (q ∙ sym r.1) pa (taken fs a (Of (WordSort n)) pa (own g a) pa) (taken fs a (Of (WordSort n)) pa (Unsigned n) refl) (taken fs a (Of (WordSort n)) pa (Signed n) refl) v (w ∙ sym r.1) numbers
    taken fs (X.ToNat a) s q v w =
        let i = word_inv (word_width (sort_of g a)) (λ n. number_sort) s q in
        let n = or_zero (width_in g a) in
        let pa = width_there a i.0 i.1 in
        let x = A fs a (Unsigned n) in
        let r = width_row (width_in g a) n (λ j. expression (point fs) a (Unsigned j) x.right ∷ []) (one x) (width_some a n pa) (taken fs a (Of (WordSort n)) pa (Unsigned n) refl, tt) in
        not_word (λ u. Taken fs (X.ToNat a) u (A fs (X.ToNat a) u)) v (Of NumberSort) (w ∙ sym i.2) refl ((q ∙ sym i.2, r.0), r.1)
    taken fs (X.ToInt a) s q v w =
        let i = word_inv (word_width (sort_of g a)) (λ n. number_sort) s q in
        let n = or_zero (width_in g a) in
        let pa = width_there a i.0 i.1 in
        let x = A fs a (Signed n) in
        let r = width_row (width_in g a) n (λ j. expression (point fs) a (Signed j) x.right ∷ []) (one x) (width_some a n pa) (taken fs a (Of (WordSort n)) pa (Signed n) refl, tt) in
        not_word (λ u. Taken fs (X.ToInt a) u (A fs (X.ToInt a) u)) v (Of NumberSort) (w ∙ sym i.2) refl ((q ∙ sym i.2, r.0), r.1)
    taken fs (X.ToWord m a) s q v w =
        let r = where_inv (is_width m && is_number (sort_of g a)) (word_sort m) s q in
        let pa = number_inv (sort_of g a) (and_parts (is_width m) (is_number (sort_of g a)) r.0).1 in
        by_head_taken fs (X.ToWord m a) (X.ToWord m (A fs a (own g a)).right) (one (A fs a (own g a))) s q refl refl (taken fs a (Of NumberSort) pa (own g a) pa, tt) v w
    taken fs (X.Arith op a b) s q v w =
        let r = where_inv (not (is_unary op) && is_number (sort_of g a) && is_number (sort_of g b)) number_sort s q in
        let d = and_parts (not (is_unary op) && is_number (sort_of g a)) (is_number (sort_of g b)) r.0 in
        let pa = number_inv (sort_of g a) (and_parts (not (is_unary op)) (is_number (sort_of g a)) d.0).1 in
        let pb = number_inv (sort_of g b) d.1 in
        by_head_taken fs (X.Arith op a b) (X.Arith op (A fs a (own g a)).right (A fs b (own g b)).right) (two (A fs a (own g a)) (A fs b (own g b))) s q refl refl
        (taken fs a (Of NumberSort) pa (own g a) pa, (taken fs b (Of NumberSort) pb (own g b) pb, tt)) v w
    taken fs (X.Negate a) s q v w =
        let pa = number_inv (sort_of g a) (where_inv (is_number (sort_of g a)) number_sort s q).0 in
        by_head_taken fs (X.Negate a) (X.Negate (A fs a (own g a)).right) (one (A fs a (own g a))) s q refl refl (taken fs a (Of NumberSort) pa (own g a) pa, tt) v w
    taken fs (X.Lt a b) s q v w =
        let d = and_parts (is_number (sort_of g a)) (is_number (sort_of g b)) (where_inv (is_number (sort_of g a) && is_number (sort_of g b)) truth_sort s q).0 in
        let pa = number_inv (sort_of g a) d.0 in
        let pb = number_inv (sort_of g b) d.1 in
        by_head_taken fs (X.Lt a b) (X.Lt (A fs a (own g a)).right (A fs b (own g b)).right) (two (A fs a (own g a)) (A fs b (own g b))) s q refl refl
        (taken fs a (Of NumberSort) pa (own g a) pa, (taken fs b (Of NumberSort) pb (own g b) pb, tt)) v w
    taken fs (X.Le a b) s q v w =
        let d = and_parts (is_number (sort_of g a)) (is_number (sort_of g b)) (where_inv (is_number (sort_of g a) && is_number (sort_of g b)) truth_sort s q).0 in
        let pa = number_inv (sort_of g a) d.0 in
        let pb = number_inv (sort_of g b) d.1 in
        by_head_taken fs (X.Le a b) (X.Le (A fs a (own g a)).right (A fs b (own g b)).right) (two (A fs a (own g a)) (A fs b (own g b))) s q refl refl
        (taken fs a (Of NumberSort) pa (own g a) pa, (taken fs b (Of NumberSort) pb (own g b) pb, tt)) v w
    taken fs (X.Between low a high) s q v w =
        let pa = number_inv (sort_of g a) (where_inv (is_number (sort_of g a)) truth_sort s q).0 in
        by_head_taken fs (X.Between low a high) (X.Between low (A fs a (own g a)).right high) (one (A fs a (own g a))) s q refl refl (taken fs a (Of NumberSort) pa (own g a) pa, tt) v w
    taken fs (X.Eq a b) s q v w =
        let r = where_inv (are_same (sort_of g a) (sort_of g b)) truth_sort s q in
        let i = same_inv (sort_of g a) (sort_of g b) r.0 in
        let base = first_base (base_of same numbers g names fs a) (base_of same numbers g names fs b) in
        not_word (λ u. Taken fs (X.Eq a b) u (A fs (X.Eq a b) u)) v (Of TruthSort) (w ∙ sym r.1) refl
        (subst (λ o. Taken fs (X.Eq a b) truth (equal (λ u. A fs a u) (λ u. A fs b u) (own g a) (own g b) (equality_kind o base))) (sym i.1)
        (equal_taken fs a b (λ u. A fs a u) (λ u. A fs b u) base i.0 (q ∙ sym r.1) i.1 i.2 (λ u h. taken fs a i.0 i.1 u h) (λ u h. taken fs b i.0 i.2 u h)))
    taken fs (X.And a b) s q v w =
        let r = where_inv (is_truth (sort_of g a) && is_truth (sort_of g b)) truth_sort s q in
        let d = and_parts (is_truth (sort_of g a)) (is_truth (sort_of g b)) r.0 in
        not_word (λ u. Taken fs (X.And a b) u (A fs (X.And a b) u)) v (Of TruthSort) (w ∙ sym r.1) refl
        ((q ∙ sym r.1, tt), (taken fs a (Of TruthSort) (truth_inv (sort_of g a) d.0) truth refl, (taken (under (Whole (A fs a truth).right) fs) b (Of TruthSort) (truth_inv (sort_of g b) d.1) truth refl, tt)))
    taken fs (X.Or a b) s q v w =
        let r = where_inv (is_truth (sort_of g a) && is_truth (sort_of g b)) truth_sort s q in
        let d = and_parts (is_truth (sort_of g a)) (is_truth (sort_of g b)) r.0 in
        not_word (λ u. Taken fs (X.Or a b) u (A fs (X.Or a b) u)) v (Of TruthSort) (w ∙ sym r.1) refl
        ((q ∙ sym r.1, tt), (taken fs a (Of TruthSort) (truth_inv (sort_of g a) d.0) truth refl, (taken (under (NotTrue (A fs a truth).right) fs) b (Of TruthSort) (truth_inv (sort_of g b) d.1) truth refl, tt)))
    taken fs (X.Imp a b) s q v w =
        let r = where_inv (is_truth (sort_of g a) && is_truth (sort_of g b)) truth_sort s q in
        let d = and_parts (is_truth (sort_of g a)) (is_truth (sort_of g b)) r.0 in
        not_word (λ u. Taken fs (X.Imp a b) u (A fs (X.Imp a b) u)) v (Of TruthSort) (w ∙ sym r.1) refl
        ((q ∙ sym r.1, tt), (taken fs a (Of TruthSort) (truth_inv (sort_of g a) d.0) truth refl, (taken (under (Whole (A fs a truth).right) fs) b (Of TruthSort) (truth_inv (sort_of g b) d.1) truth refl, tt)))
    taken fs (X.Not a) s q v w =
        let r = where_inv (is_truth (sort_of g a)) truth_sort s q in
        not_word (λ u. Taken fs (X.Not a) u (A fs (X.Not a) u)) v (Of TruthSort) (w ∙ sym r.1) refl
        ((q ∙ sym r.1, tt), (taken fs a (Of TruthSort) (truth_inv (sort_of g a) r.0) truth refl, tt))
    taken fs (X.If c a b) s q v w =
        let r = where_inv (is_truth (sort_of g c) && are_same (sort_of g a) (sort_of g b)) (sort_of g a) s q in
        let d = and_parts (is_truth (sort_of g c)) (are_same (sort_of g a) (sort_of g b)) r.0 in
        let i = same_inv (sort_of g a) (sort_of g b) d.1 in (
          (q ∙ sym w, tt),
          (
            taken fs c (Of TruthSort) (truth_inv (sort_of g c) d.0) truth refl,
            (taken (under (Whole (A fs c truth).right) fs) a s r.1 v w, (taken (under (NotTrue (A fs c truth).right) fs) b s (i.2 ∙ sym i.1 ∙ r.1) v w, tt)),
          ),
        )
    taken fs (X.Padd t p k) s q v w =
        let r = where_inv (is_object ctx.layout t && is_word_of (address_width ctx.layout.target) (sort_of g p) && is_number (sort_of g k)) (word_sort (address_width ctx.layout.target)) s q in
        let d = and_parts (is_object ctx.layout t && is_word_of (address_width ctx.layout.target) (sort_of g p)) (is_number (sort_of g k)) r.0 in
        let pp = word_of_inv (address_width ctx.layout.target) (sort_of g p) (and_parts (is_object ctx.layout t) (is_word_of (address_width ctx.layout.target) (sort_of g p)) d.0).1 in
        let pk = number_inv (sort_of g k) d.1 in
        by_head_taken fs (X.Padd t p k) (X.Padd t (A fs p (own g p)).right (A fs k (own g k)).right) (two (A fs p (own g p)) (A fs k (own g k))) s q refl refl
        (taken fs p (Of (WordSort (address_width ctx.layout.target))) pp (own g p) pp, (taken fs k (Of NumberSort) pk (own g k) pk, tt)) v w
    taken fs (X.At t p path) s q v w =
        let r = where_inv (is_object ctx.layout t && is_word_of (address_width ctx.layout.target) (sort_of g p)) (of_shape (shape_along g path (shape_of ctx.layout t)) (λ z. word_sort (address_width ctx.layout.target))) s q in
        let pp = word_of_inv (address_width ctx.layout.target) (sort_of g p) (and_parts (is_object ctx.layout t) (is_word_of (address_width ctx.layout.target) (sort_of g p)) r.0).1 in
        let i = shape_inv (shape_along g path (shape_of ctx.layout t)) (λ z. word_sort (address_width ctx.layout.target)) s r.1 in
        by_head_taken fs (X.At t p path) (X.At t (A fs p (own g p)).right (I fs path no_trees).path) (tree (A fs p (own g p)).tree (I fs path no_trees).trees) s q refl (ap (λ z. X.At t hole z) (path_head_kept fs path no_trees))
        (taken fs p (Of (WordSort (address_width ctx.layout.target))) pp (own g p) pp, indices_taken fs path (all_numbers path (shape_of ctx.layout t) i.0 i.1)) v w
    taken fs (X.Load t p path) s q v w =
        let r = where_inv (is_object ctx.layout t && is_word_of (address_width ctx.layout.target) (sort_of g p)) (of_shape (shape_along g path (shape_of ctx.layout t)) sort_at) s q in
        let pp = word_of_inv (address_width ctx.layout.target) (sort_of g p) (and_parts (is_object ctx.layout t) (is_word_of (address_width ctx.layout.target) (sort_of g p)) r.0).1 in
        let i = shape_inv (shape_along g path (shape_of ctx.layout t)) sort_at s r.1 in
        by_head_taken fs (X.Load t p path) (X.Load t (A fs p (own g p)).right (I fs path no_trees).path) (tree (A fs p (own g p)).tree (I fs path no_trees).trees) s q refl (ap (λ z. X.Load t hole z) (path_head_kept fs path no_trees))
        (taken fs p (Of (WordSort (address_width ctx.layout.target))) pp (own g p) pp, indices_taken fs path (all_numbers path (shape_of ctx.layout t) i.0 i.1)) v w
    taken fs (X.Read t p path) s q v w =
        let r = where_inv (is_object ctx.layout t && is_word_of (address_width ctx.layout.target) (sort_of g p)) (of_shape (shape_along g path (shape_of ctx.layout t)) sort_at) s q in
        let pp = word_of_inv (address_width ctx.layout.target) (sort_of g p) (and_parts (is_object ctx.layout t) (is_word_of (address_width ctx.layout.target) (sort_of g p)) r.0).1 in
        let i = shape_inv (shape_along g path (shape_of ctx.layout t)) sort_at s r.1 in
        by_head_taken fs (X.Read t p path) (X.Read t (A fs p (own g p)).right (I fs path no_trees).path) (tree (A fs p (own g p)).tree (I fs path no_trees).trees) s q refl (ap (λ z. X.Read t hole z) (path_head_kept fs path no_trees))
        (taken fs p (Of (WordSort (address_width ctx.layout.target))) pp (own g p) pp, indices_taken fs path (all_numbers path (shape_of ctx.layout t) i.0 i.1)) v w
    taken fs (X.Tagged t p) s q v w =
        let r = where_inv (is_object ctx.layout t && is_word_of (address_width ctx.layout.target) (sort_of g p)) truth_sort s q in
        let pp = word_of_inv (address_width ctx.layout.target) (sort_of g p) (and_parts (is_object ctx.layout t) (is_word_of (address_width ctx.layout.target) (sort_of g p)) r.0).1 in
        by_head_taken fs (X.Tagged t p) (X.Tagged t (A fs p (own g p)).right) (one (A fs p (own g p))) s q refl refl (taken fs p (Of (WordSort (address_width ctx.layout.target))) pp (own g p) pp, tt) v w
    taken fs (X.PtrOk t p) s q v w =
        let r = where_inv (is_object ctx.layout t && is_word_of (address_width ctx.layout.target) (sort_of g p)) truth_sort s q in
        let pp = word_of_inv (address_width ctx.layout.target) (sort_of g p) (and_parts (is_object ctx.layout t) (is_word_of (address_width ctx.layout.target) (sort_of g p)) r.0).1 in
        by_head_taken fs (X.PtrOk t p) (X.PtrOk t (A fs p (own g p)).right) (one (A fs p (own g p))) s q refl refl (taken fs p (Of (WordSort (address_width ctx.layout.target))) pp (own g p) pp, tt) v w
    taken fs (X.Global x path) s q v w =
        let a = type_inv (g.globals x) (λ t. where_holds (is_object ctx.layout t) (of_shape (shape_along g path (shape_of ctx.layout t)) sort_at)) s q in
        let r = where_inv (is_object ctx.layout a.0) (of_shape (shape_along g path (shape_of ctx.layout a.0)) sort_at) s a.2 in
        let i = shape_inv (shape_along g path (shape_of ctx.layout a.0)) sort_at s r.1 in
        by_head_taken fs (X.Global x path) (X.Global x (I fs path no_trees).path) (I fs path no_trees).trees s q refl (ap (λ z. X.Global x z) (path_head_kept fs path no_trees))
        (indices_taken fs path (all_numbers path (shape_of ctx.layout a.0) i.0 i.1)) v w
    taken fs (X.Sel e path) s q v w =
        let r = where_inv (is_one_step path) (of_shape (parts_shape ctx.layout (sort_of g e)) (λ s'. of_shape (shape_along g path s') sort_at)) s q in
        let a = shape_inv (parts_shape ctx.layout (sort_of g e)) (λ s'. of_shape (shape_along g path s') sort_at) s r.1 in
        let b = parts_inv ctx.layout (sort_of g e) a.0 a.1 in
        let c = shape_inv (shape_along g path a.0) sort_at s a.2 in
        by_head_taken fs (X.Sel e path) (X.Sel (A fs e (own g e)).right (I fs path no_trees).path) (tree (A fs e (own g e)).tree (I fs path no_trees).trees) s q refl (ap (λ z. X.Sel hole z) (path_head_kept fs path no_trees))
        (taken fs e (PartsSort b.0) b.1 (own g e) b.1, indices_taken fs path (all_numbers path a.0 c.0 c.1)) v w
    taken fs (X.Upd e path x) s q v w =
        let a = shape_inv (parts_shape ctx.layout (sort_of g e)) (λ s'. of_shape (shape_along g path s') (λ p. where_holds (are_same (sort_at p) (sort_of g x)) (sort_of g e))) s q in
        let b = parts_inv ctx.layout (sort_of g e) a.0 a.1 in
        let c = shape_inv (shape_along g path a.0) (λ p. where_holds (are_same (sort_at p) (sort_of g x)) (sort_of g e)) s a.2 in
        let d = where_inv (are_same (sort_at c.0) (sort_of g x)) (sort_of g e) s c.2 in
        let r = same_inv (sort_at c.0) (sort_of g x) d.0 in
        let y = A fs x (own g x) in
        by_head_taken fs (X.Upd e path x) (X.Upd (A fs e (own g e)).right (I fs path (one y)).path y.right) (tree (A fs e (own g e)).tree (I fs path (one y)).trees) s q refl (ap (λ z. X.Upd hole z hole) (path_head_kept fs path (one y)))
        (taken fs e (PartsSort b.0) b.1 (own g e) b.1, indices_before fs path (all_numbers path a.0 c.0 c.1) (x ∷ []) (y.right ∷ []) (one y) (taken fs x r.0 r.2 (own g x) r.2, tt)) v w

    pub indices_before : (fs : Surroundings) (path : Path) → AllNumbers path → (es as' : List Exp) (ts : Trees Rule) → AcceptsAll (table ctx) ts (each (point fs) es (owns g es) as') →
        AcceptsAll (table ctx) (I fs path ts).trees (each (point fs) (path_children path ++ es) (owns g (path_children path ++ es)) (path_children (I fs path ts).path ++ as'))
    indices_before fs X.Here h es as' ts k = k
    indices_before fs (X.IntoField n path) h es as' ts k = indices_before fs path h es as' ts k
    indices_before fs (X.IntoElement e path) h es as' ts k = (taken fs e (Of NumberSort) h.0 (own g e) h.0, indices_before fs path h.1 es as' ts k)

    pub indices_taken : (fs : Surroundings) (path : Path) → AllNumbers path → AcceptsAll (table ctx) (I fs path no_trees).trees (each (point fs) (path_children path) (owns g (path_children path)) (path_children (I fs path no_trees).path))
    indices_taken fs X.Here h = tt
    indices_taken fs (X.IntoField k path) h = indices_taken fs path h
    indices_taken fs (X.IntoElement e path) h = (taken fs e (Of NumberSort) h.0 (own g e) h.0, indices_taken fs path h.1)
