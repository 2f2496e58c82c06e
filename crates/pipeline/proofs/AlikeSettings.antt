-- An expression becomes the same, and is ready alike, in scopes that agree on its names, and by facts that give the same ranges.
use Rattle.std.proofs.Common.{◌≡◌, ℕ, Bool, true, ◌||◌, List, ◌∷◌, Option, refl, ap, ap₂, ◌∙◌}
use Rattle.std.proofs.Math.Path.{fun_ext}
use Rattle.c_values.specs.Name.{Name}
use Rattle.c_values.specs.Types.{CType}
use Rattle.c_values.specs.Layout.{Layout}
use Rattle.c_values.specs.Word.{WordOp, Wadd, Wsub, Wmul, Wsdiv, UnaryOp, Wneg, Wnot}
use Rattle.c_values.specs.Number as N
use Rattle.expression_lang.specs.Expression as X
use Rattle.expression_lang.specs.Expression.{Exp, Path}
use Rattle.expression_lang.specs.Mentions.{names as names_it}
use Rattle.expression_lang.specs.Sort.{Scalar, Sort, Scope, sort_of, word_width}
use Rattle.expression_lang.specs.Signature.{Binder}
use Rattle.simpl_lang.specs.Names.{path_names}
use Rattle.ac_expr.specs.Fact.{Fact, Whole, NotTrue}
use Rattle.rule_trees.specs.RuleTree.{Trees, no_trees, tree}
use Rattle.monad_lang.specs.Agree.{AgreeOn}
use Rattle.monad_lang.proofs.Agreeing.{agree_left, agree_right}
use Rattle.monad_lang.proofs.AgreeingSorts.{in_scope, sort_agrees}
use Rattle.rule_word.specs.Rule as R
use Rattle.rule_word.specs.Rule.{View, AsIs, Unsigned, Signed}
use Rattle.rule_word.specs.Scopes.{own}
use Rattle.rule_word.specs.Table.{truth}
use Rattle.rule_word.specs.Bases.{Surroundings, under, Base, natural_range, integer_range, oldest_range, or_words, signed_or_words, base_in, signed_base_in, first_base}
use Rattle.rule_word.specs.WordsAbstracted.{Abstracted, made, one, two, by_head, seen_from, or_zero, Operands, operands, binary_base, binary_at, negation_base, unary_at, compared, cast_at, equal, equality_kind, Indices, abstracted, indices, base_of}

-- facts that give the same ranges, under the same conditions
pub record AreAlike (same : Exp → Exp → Bool) (k k' : Surroundings) : Type 0 where
  pub conditions : k.conditions ≡ k'.conditions
  pub facts : (conditions : List Fact) (natural integer : Exp) →
      oldest_range same conditions natural integer k.facts ≡ oldest_range same conditions natural integer k'.facts

pub itself_alike : (same : Exp → Exp → Bool) (k : Surroundings) → AreAlike same k k
itself_alike same k = record { conditions = refl; facts = λ conditions natural integer. refl }

module _ (same : Exp → Exp → Bool) (k k' : Surroundings) (h : AreAlike same k k') where
  pub under_alike : (f f' : Fact) → f ≡ f' → AreAlike same (under f k) (under f' k')
  under_alike f f' e = record { conditions = ap₂ (λ x xs. x ∷ xs) e h.conditions; facts = h.facts }

  range_alike : (natural integer : Exp) →
      oldest_range same k.conditions natural integer k.facts ≡ oldest_range same k'.conditions natural integer k'.facts
  range_alike natural integer =
      ap (λ cs. oldest_range same cs natural integer k.facts) h.conditions ∙ h.facts k'.conditions natural integer

  base_alike : (n : ℕ) (a b : Exp) → base_in same true k n a b ≡ base_in same true k' n a b
  base_alike n a b = ap or_words (range_alike (natural_range n a) (integer_range n b))

  signed_alike : (n : ℕ) (b : Exp) → signed_base_in same true k n b ≡ signed_base_in same true k' n b
  signed_alike n b = ap signed_or_words (range_alike (integer_range n b) (integer_range n b))

  binary_alike : (n : ℕ) (op : WordOp) (os : Operands) → binary_base same true k n op os ≡ binary_base same true k' n op os
  binary_alike n Wadd os =
      base_alike n (X.Arith N.Add os.naturals.0.right os.naturals.1.right) (X.Arith N.Add os.integers.0.right os.integers.1.right)
  binary_alike n Wsub os =
      base_alike n (X.Arith N.Sub os.naturals.0.right os.naturals.1.right) (X.Arith N.Sub os.integers.0.right os.integers.1.right)
  binary_alike n Wmul os =
      base_alike n (X.Arith N.Mul os.naturals.0.right os.naturals.1.right) (X.Arith N.Mul os.integers.0.right os.integers.1.right)
  binary_alike n Wsdiv os = signed_alike n (X.Arith N.Div os.integers.0.right os.integers.1.right)
  binary_alike _ _ _ = refl

  negation_alike : (n : ℕ) (op : UnaryOp) (a b : Abstracted) →
      negation_base same true k n op a b ≡ negation_base same true k' n op a b
  negation_alike n Wneg a b = base_alike n (X.Negate a.right) (X.Negate b.right)
  negation_alike n Wnot a b = refl

module _ (same : Exp → Exp → Bool) (l : Layout) (gs : Name → Option CType) (ms ns : Name → Option Scalar)
    (names : List Binder) where
  abbrev g : Scope
  g = in_scope l gs ms

  abbrev g' : Scope
  g' = in_scope l gs ns

  abbrev Agree : (Name → Bool) → Type 0
  Agree test = AgreeOn test ms ns

  abbrev OnExp : Exp → Type 0
  OnExp e = Agree (λ y. names_it y e)

  abbrev OnPath : Path → Type 0
  OnPath path = Agree (λ y. path_names y path)

  abbrev A : Surroundings → Exp → View → Abstracted
  A k e v = abstracted same true g names k e v

  abbrev A' : Surroundings → Exp → View → Abstracted
  A' k e v = abstracted same true g' names k e v

  abbrev I : Surroundings → Path → Trees R.Rule → Indices
  I k path ts = indices same true g names k path ts

  abbrev SameAt : Surroundings → Surroundings → Exp → Type 0
  SameAt k k' e = (v : View) → A k e v ≡ A' k' e v

  whole : (k k' : Surroundings) (e : Exp) → SameAt k k' e → ◌≡◌ {A = View → Abstracted} (λ v. A k e v) (λ v. A' k' e v)
  whole k k' e h = fun_ext h

  sorts : (e : Exp) → OnExp e → sort_of g e ≡ sort_of g' e
  sorts e h = sort_agrees l gs ms ns e h

  -- as it is
  at_own : (k k' : Surroundings) (e : Exp) → OnExp e → SameAt k k' e → A k e (own g e) ≡ A' k' e (own g' e)
  at_own k k' e h i = i (own g e) ∙ ap (λ o. A' k' e (AsIs o)) (sorts e h)

  left : (p q : Name → Bool) → Agree (λ y. p y || q y) → Agree p
  left p q h = agree_left p q ms ns h

  right : (p q : Name → Bool) → Agree (λ y. p y || q y) → Agree q
  right p q h = agree_right p q ms ns h

  on_left : (a b : Exp) → Agree (λ y. names_it y a || names_it y b) → OnExp a
  on_left a b h = left (λ y. names_it y a) (λ y. names_it y b) h

  on_right : (a b : Exp) → Agree (λ y. names_it y a || names_it y b) → OnExp b
  on_right a b h = right (λ y. names_it y a) (λ y. names_it y b) h

  on_root : (a : Exp) (path : Path) → Agree (λ y. names_it y a || path_names y path) → OnExp a
  on_root a path h = left (λ y. names_it y a) (λ y. path_names y path) h

  on_path : (a : Exp) (path : Path) → Agree (λ y. names_it y a || path_names y path) → OnPath path
  on_path a path h = right (λ y. names_it y a) (λ y. path_names y path) h

  -- the parts of an operation, by what its operands become and their sorts
  abbrev os_of : (View → Abstracted) → (View → Abstracted) → Option Sort → Option Sort → Operands
  os_of f h o q = operands f h (AsIs o) (AsIs q) (or_zero (word_width o))

  abbrev base_by : WordOp → Surroundings → (View → Abstracted) → (View → Abstracted) → Option Sort → Option Sort → Base
  base_by op k f h o q = binary_base same true k (or_zero (word_width o)) op (os_of f h o q)

  abbrev negation_by : UnaryOp → Surroundings → (View → Abstracted) → Option Sort → Base
  negation_by op k f o =
      negation_base same true k (or_zero (word_width o)) op (f (Unsigned (or_zero (word_width o))))
      (f (Signed (or_zero (word_width o))))

  pub binary_by : (op : WordOp) (a b : Exp) → Agree (λ y. names_it y a || names_it y b) → (k k' : Surroundings) →
      AreAlike same k k' → SameAt k k' a → SameAt k k' b →
      base_by op k (λ v. A k a v) (λ v. A k b v) (sort_of g a) (sort_of g b)
      ≡ base_by op k' (λ v. A' k' a v) (λ v. A' k' b v) (sort_of g' a) (sort_of g' b)
  binary_by op a b h k k' i ia ib =
      ap₂ (λ f j. base_by op k f j (sort_of g a) (sort_of g b)) (whole k k' a ia) (whole k k' b ib)
      ∙ ap₂ (λ o q. base_by op k (λ v. A' k' a v) (λ v. A' k' b v) o q) (sorts a (on_left a b h)) (sorts b (on_right a b h))
      ∙ binary_alike same k k' i _ op _

  pub unary_by : (op : UnaryOp) (a : Exp) → OnExp a → (k k' : Surroundings) → AreAlike same k k' → SameAt k k' a →
      negation_by op k (λ v. A k a v) (sort_of g a) ≡ negation_by op k' (λ v. A' k' a v) (sort_of g' a)
  unary_by op a h k k' i ia =
      ap₂ (λ f o. negation_by op k f o) (whole k k' a ia) (sorts a h) ∙ negation_alike same k k' i _ op _ _

  mutual
    pub alike : (e : Exp) → AgreeOn (λ y. names_it y e) ms ns → (k k' : Surroundings) → AreAlike same k k' → (v : View) →
        abstracted same true (in_scope l gs ms) names k e v ≡ abstracted same true (in_scope l gs ns) names k' e v
    alike (X.WordBinary op a b) h k k' i v =
        let ia : SameAt k k' a = λ w. alike a (on_left a b h) k k' i w in
        let ib : SameAt k k' b = λ w. alike b (on_right a b h) k k' i w in
        ap₂ (λ f j. seen_from (base_by op k (λ w. A k a w) (λ w. A k b w) (sort_of g a) (sort_of g b))
        (or_zero (word_width (sort_of g a))) v (binary_at op
        (base_by op k (λ w. A k a w) (λ w. A k b w) (sort_of g a) (sort_of g b)) (os_of f j (sort_of g a) (sort_of g b))))
        (whole k k' a ia) (whole k k' b ib)
        ∙ ap₂ (λ o q. seen_from (base_by op k (λ w. A k a w) (λ w. A k b w) (sort_of g a) (sort_of g b))
        (or_zero (word_width o)) v (binary_at op (base_by op k (λ w. A k a w) (λ w. A k b w) (sort_of g a) (sort_of g b))
        (os_of (λ w. A' k' a w) (λ w. A' k' b w) o q))) (sorts a (on_left a b h)) (sorts b (on_right a b h))
        ∙ ap (λ c. seen_from c (or_zero (word_width (sort_of g' a))) v
        (binary_at op c (os_of (λ w. A' k' a w) (λ w. A' k' b w) (sort_of g' a) (sort_of g' b))))
        (binary_by op a b h k k' i ia ib)
    alike (X.WordShift op a n) h k k' i v =
        ap₂ (λ x y. by_head v (X.WordShift op x.right y.right) (two x y))
        (at_own k k' a (on_left a n h) (λ w. alike a (on_left a n h) k k' i w))
        (at_own k k' n (on_right a n h) (λ w. alike n (on_right a n h) k k' i w))
    alike (X.WordUnary op a) h k k' i v =
        let ia : SameAt k k' a = λ w. alike a h k k' i w in
        ap₂ (λ f o. seen_from (negation_by op k (λ w. A k a w) (sort_of g a)) (or_zero (word_width o)) v
        (unary_at op (negation_by op k (λ w. A k a w) (sort_of g a)) (f (AsIs o)) (f (Unsigned (or_zero (word_width o))))
        (f (Signed (or_zero (word_width o)))))) (whole k k' a ia) (sorts a h)
        ∙ ap (λ c. seen_from c (or_zero (word_width (sort_of g' a))) v
        (unary_at op c (A' k' a (AsIs (sort_of g' a))) (A' k' a (Unsigned (or_zero (word_width (sort_of g' a)))))
        (A' k' a (Signed (or_zero (word_width (sort_of g' a))))))) (unary_by op a h k k' i ia)
    alike (X.WordCompare test a b) h k k' i v =
        ap₂ (λ f j. compared true test f j (own g a) (own g b) (or_zero (word_width (sort_of g a))))
        (whole k k' a (λ w. alike a (on_left a b h) k k' i w)) (whole k k' b (λ w. alike b (on_right a b h) k k' i w))
        ∙ ap₂ (λ o q. compared true test (λ w. A' k' a w) (λ w. A' k' b w) (AsIs o) (AsIs q) (or_zero (word_width o)))
        (sorts a (on_left a b h)) (sorts b (on_right a b h))
    alike (X.Cast op m a) h k k' i v =
        ap₂ (λ f o. cast_at true op m v f (AsIs o) (or_zero (word_width o))) (whole k k' a (λ w. alike a h k k' i w)) (sorts a h)
    alike (X.ToNat a) h k k' i v =
        ap₂ (λ f o. let x = f (Unsigned (or_zero (word_width o))) in made R.Nat x.right (one x))
        (whole k k' a (λ w. alike a h k k' i w)) (sorts a h)
    alike (X.ToInt a) h k k' i v =
        ap₂ (λ f o. let x = f (Signed (or_zero (word_width o))) in made R.Int x.right (one x))
        (whole k k' a (λ w. alike a h k k' i w)) (sorts a h)
    alike (X.ToWord m a) h k k' i v = ap (λ x. by_head v (X.ToWord m x.right) (one x)) (at_own k k' a h (λ w. alike a h k k' i w))
    alike (X.Arith op a b) h k k' i v =
        ap₂ (λ x y. by_head v (X.Arith op x.right y.right) (two x y))
        (at_own k k' a (on_left a b h) (λ w. alike a (on_left a b h) k k' i w))
        (at_own k k' b (on_right a b h) (λ w. alike b (on_right a b h) k k' i w))
    alike (X.Negate a) h k k' i v = ap (λ x. by_head v (X.Negate x.right) (one x)) (at_own k k' a h (λ w. alike a h k k' i w))
    alike (X.Lt a b) h k k' i v =
        ap₂ (λ x y. by_head v (X.Lt x.right y.right) (two x y))
        (at_own k k' a (on_left a b h) (λ w. alike a (on_left a b h) k k' i w))
        (at_own k k' b (on_right a b h) (λ w. alike b (on_right a b h) k k' i w))
    alike (X.Le a b) h k k' i v =
        ap₂ (λ x y. by_head v (X.Le x.right y.right) (two x y))
        (at_own k k' a (on_left a b h) (λ w. alike a (on_left a b h) k k' i w))
        (at_own k k' b (on_right a b h) (λ w. alike b (on_right a b h) k k' i w))
    alike (X.Between low a high) h k k' i v =
        ap (λ x. by_head v (X.Between low x.right high) (one x)) (at_own k k' a h (λ w. alike a h k k' i w))
    alike (X.Eq a b) h k k' i v =
        let ia : SameAt k k' a = λ w. alike a (on_left a b h) k k' i w in
        let ib : SameAt k k' b = λ w. alike b (on_right a b h) k k' i w in
        let ca = base_of same true g names k a in
        let cb = base_of same true g names k b in
        ap₂ (λ f j. equal f j (own g a) (own g b) (equality_kind (sort_of g a) (first_base ca cb))) (whole k k' a ia)
        (whole k k' b ib)
        ∙ ap₂ (λ o q. equal (λ w. A' k' a w) (λ w. A' k' b w) (AsIs o) (AsIs q) (equality_kind o (first_base ca cb)))
        (sorts a (on_left a b h)) (sorts b (on_right a b h))
        ∙ ap₂ (λ c d. equal (λ w. A' k' a w) (λ w. A' k' b w) (own g' a) (own g' b)
        (equality_kind (sort_of g' a) (first_base c d))) (same_base a (on_left a b h) k k' i)
        (same_base b (on_right a b h) k k' i)
    alike (X.And a b) h k k' i v =
        let ta = alike a (on_left a b h) k k' i truth in
        ap₂ (λ x y. made R.Logic (X.And x.right y.right) (two x y)) ta
        (alike b (on_right a b h) (under (Whole (A k a truth).right) k) (under (Whole (A' k' a truth).right) k')
        (under_alike same k k' i _ _ (ap (λ x. Whole x.right) ta)) truth)
    alike (X.Or a b) h k k' i v =
        let ta = alike a (on_left a b h) k k' i truth in
        ap₂ (λ x y. made R.Logic (X.Or x.right y.right) (two x y)) ta
        (alike b (on_right a b h) (under (NotTrue (A k a truth).right) k) (under (NotTrue (A' k' a truth).right) k')
        (under_alike same k k' i _ _ (ap (λ x. NotTrue x.right) ta)) truth)
    alike (X.Imp a b) h k k' i v =
        let ta = alike a (on_left a b h) k k' i truth in
        ap₂ (λ x y. made R.Logic (X.Imp x.right y.right) (two x y)) ta
        (alike b (on_right a b h) (under (Whole (A k a truth).right) k) (under (Whole (A' k' a truth).right) k')
        (under_alike same k k' i _ _ (ap (λ x. Whole x.right) ta)) truth)
    alike (X.Not a) h k k' i v = ap (λ x. made R.Logic (X.Not x.right) (one x)) (alike a h k k' i truth)
    alike (X.If c a b) h k k' i v =
        let p = left (λ y. names_it y c || names_it y a) (λ y. names_it y b) h in
        let hb = right (λ y. names_it y c || names_it y a) (λ y. names_it y b) h in
        let tc = alike c (on_left c a p) k k' i truth in
        ap₂ (λ q r. made R.Cond (X.If q.right r.0.right r.1.right) (tree q.tree (two r.0 r.1))) tc
        (ap₂ (λ x y. let r : Abstracted × Abstracted = (x, y) in r)
        (alike a (on_right c a p) (under (Whole (A k c truth).right) k) (under (Whole (A' k' c truth).right) k')
        (under_alike same k k' i _ _ (ap (λ x. Whole x.right) tc)) v)
        (alike b hb (under (NotTrue (A k c truth).right) k) (under (NotTrue (A' k' c truth).right) k')
        (under_alike same k k' i _ _ (ap (λ x. NotTrue x.right) tc)) v))
    alike (X.Padd t p n) h k k' i v =
        ap₂ (λ x y. by_head v (X.Padd t x.right y.right) (two x y))
        (at_own k k' p (on_left p n h) (λ w. alike p (on_left p n h) k k' i w))
        (at_own k k' n (on_right p n h) (λ w. alike n (on_right p n h) k k' i w))
    alike (X.At t p path) h k k' i v =
        ap₂ (λ x j. by_head v (X.At t x.right j.path) (tree x.tree j.trees))
        (at_own k k' p (on_root p path h) (λ w. alike p (on_root p path h) k k' i w))
        (path_alike path (on_path p path h) k k' i no_trees)
    alike (X.Load t p path) h k k' i v =
        ap₂ (λ x j. by_head v (X.Load t x.right j.path) (tree x.tree j.trees))
        (at_own k k' p (on_root p path h) (λ w. alike p (on_root p path h) k k' i w))
        (path_alike path (on_path p path h) k k' i no_trees)
    alike (X.Read t p path) h k k' i v =
        ap₂ (λ x j. by_head v (X.Read t x.right j.path) (tree x.tree j.trees))
        (at_own k k' p (on_root p path h) (λ w. alike p (on_root p path h) k k' i w))
        (path_alike path (on_path p path h) k k' i no_trees)
    alike (X.Tagged t p) h k k' i v = ap (λ x. by_head v (X.Tagged t x.right) (one x)) (at_own k k' p h (λ w. alike p h k k' i w))
    alike (X.PtrOk t p) h k k' i v = ap (λ x. by_head v (X.PtrOk t x.right) (one x)) (at_own k k' p h (λ w. alike p h k k' i w))
    alike (X.Global x path) h k k' i v = ap (λ j. by_head v (X.Global x j.path) j.trees) (path_alike path h k k' i no_trees)
    alike (X.Sel e path) h k k' i v =
        ap₂ (λ x j. by_head v (X.Sel x.right j.path) (tree x.tree j.trees))
        (at_own k k' e (on_root e path h) (λ w. alike e (on_root e path h) k k' i w))
        (path_alike path (on_path e path h) k k' i no_trees)
    alike (X.Upd e path d) h k k' i v =
        let p = left (λ y. names_it y e || path_names y path) (λ y. names_it y d) h in
        let hd = right (λ y. names_it y e || path_names y path) (λ y. names_it y d) h in
        ap₂ (λ x y. let q = I k path (one y) in by_head v (X.Upd x.right q.path y.right) (tree x.tree q.trees))
        (at_own k k' e (on_root e path p) (λ w. alike e (on_root e path p) k k' i w))
        (at_own k k' d hd (λ w. alike d hd k k' i w))
        ∙ ap (λ q. let x = A' k' e (own g' e) in
        by_head v (X.Upd x.right q.path (A' k' d (own g' d)).right) (tree x.tree q.trees))
        (path_alike path (on_path e path p) k k' i (one (A' k' d (own g' d))))
    alike _ _ _ _ _ _ = refl

    pub path_alike : (path : Path) → AgreeOn (λ y. path_names y path) ms ns → (k k' : Surroundings) →
        AreAlike same k k' → (ts : Trees R.Rule) →
        indices same true (in_scope l gs ms) names k path ts ≡ indices same true (in_scope l gs ns) names k' path ts
    path_alike X.Here h k k' i ts = refl
    path_alike (X.IntoField n path) h k k' i ts =
        ap (λ j. let q : Indices = record { path = X.IntoField n j.path; trees = j.trees } in q) (path_alike path h k k' i ts)
    path_alike (X.IntoElement e path) h k k' i ts =
        ap₂ (λ x j. let q : Indices = record { path = X.IntoElement x.right j.path; trees = tree x.tree j.trees } in q)
        (at_own k k' e (on_root e path h) (λ w. alike e (on_root e path h) k k' i w))
        (path_alike path (on_path e path h) k k' i ts)

    same_base : (e : Exp) → OnExp e → (k k' : Surroundings) → AreAlike same k k' →
        base_of same true g names k e ≡ base_of same true g' names k' e
    same_base (X.WordBinary op a b) h k k' i =
        binary_by op a b h k k' i (λ w. alike a (on_left a b h) k k' i w) (λ w. alike b (on_right a b h) k k' i w)
    same_base (X.WordUnary op a) h k k' i = unary_by op a h k k' i (λ w. alike a h k k' i w)
    same_base (X.Cast X.Zext m a) h k k' i = refl
    same_base _ _ _ _ _ = refl
