-- A ready expression is abstracted alike where more facts are known: what each of its sums stands for was found among the older facts,
-- by the conditions under which the sum stands. So what a guard says of an operation is said of it where it stands, behind more guards.
use Rattle.std.proofs.Common.{◌≡◌, ℕ, Bool, true, false, cond, ◌&&◌, ◌||◌, List, [], ◌∷◌, ◌++◌, map, Option, Some, None, refl, sym, ap, ap₂, ◌∙◌}
use Rattle.std.proofs.Math.Path.{fun_ext}
use Rattle.std.proofs.lemmas.Bool.{and_parts}
use Rattle.c_values.specs.Word.{WordOp, Wadd, Wsub, Wmul, Wsdiv, UnaryOp, Wneg, Wnot}
use Rattle.c_values.specs.Number as N
use Rattle.expression_lang.specs.Expression as X
use Rattle.expression_lang.specs.Expression.{Exp, Path}
use Rattle.expression_lang.specs.Form.{is_arithmetic, is_negation}
use Rattle.expression_lang.specs.Sort.{Scope, sort_of}
use Rattle.expression_lang.specs.Signature.{Binder}
use Rattle.ac_expr.specs.Fact.{Fact, Whole, NotTrue, stands_for}
use Rattle.rule_trees.specs.RuleTree.{Trees, no_trees, tree}
use Rattle.rule_word.specs.Rule as R
use Rattle.rule_word.specs.Rule.{View, Unsigned, Signed}
use Rattle.rule_word.specs.Scopes.{own, width_in}
use Rattle.rule_word.specs.Table.{truth}
use Rattle.rule_word.specs.Bases.{Surroundings, under, Base, Words, natural_range, integer_range, gives_at_once, some_gives, or_else, range_given, first_range, oldest_range, or_words, signed_or_words, base_in, signed_base_in, first_base}
use Rattle.rule_word.specs.WordsAbstracted.{Abstracted, made, one, two, by_head, seen_from, or_zero, Operands, operands, binary_base, binary_at, negation_base, unary_at, compared, cast_at, equal, equality_kind, Indices, abstracted, indices, base_of}
use Rattle.rule_word.specs.Ready.{is_exact, is_no_word, ready, path_ready}
use Rattle.rule_word.proofs.BasesKnown.{range_stays}

-- where more facts are known after these, under conditions that stand for the same
pub record IsLater (k k' : Surroundings) : Type 0 where
  pub conditions : map stands_for k'.conditions ≡ map stands_for k.conditions
  pub more : List Fact
  pub facts : k'.facts ≡ more ++ k.facts

under_both : (f : Fact) (k k' : Surroundings) → IsLater k k' → IsLater (under f k) (under f k')
under_both f k k' l = record { conditions = ap (λ es. stands_for f ∷ es) l.conditions; more = l.more; facts = l.facts }

-- what conditions give is what they stand for
abbrev pub some_give : (Exp → Exp → Bool) → List Exp → Exp → Bool
some_give same [] e = false
some_give same (x ∷ xs) e = gives_at_once same x e || some_give same xs e

pub given_by : (same : Exp → Exp → Bool) (cs fs : List Fact) (e : Exp) → some_gives same (cs ++ fs) e ≡ some_give same (map stands_for cs ++ map stands_for fs) e
given_by same [] [] e = refl
given_by same [] (f ∷ fs) e = ap (λ b. gives_at_once same (stands_for f) e || b) (given_by same [] fs e)
given_by same (c ∷ cs) fs e = ap (λ b. gives_at_once same (stands_for c) e || b) (given_by same cs fs e)

module _ (same : Exp → Exp → Bool) (natural integer : Exp) where
  pub range_alike : (bs cs : List Fact) → ((e : Exp) → some_gives same bs e ≡ some_gives same cs e) → (fact : Exp) → range_given same bs natural integer fact ≡ range_given same cs natural integer fact
  range_alike bs cs h (X.And a b) = ap₂ or_else (range_alike bs cs h a) (range_alike bs cs h b)
  range_alike bs cs h (X.Imp c d) = ap₂ (λ t o. cond t o None) (h c) (range_alike bs cs h d)
  range_alike bs cs h fact = refl

  pub first_alike : (bs cs : List Fact) → ((e : Exp) → some_gives same bs e ≡ some_gives same cs e) → (fact : Exp) → first_range same bs natural integer fact ≡ first_range same cs natural integer fact
  first_alike bs cs h (X.And a b) = ap₂ or_else (first_alike bs cs h a) (first_alike (Whole a ∷ bs) (Whole a ∷ cs) (λ e. ap (λ t. gives_at_once same a e || t) (h e)) b)
  first_alike bs cs h fact = range_alike bs cs h fact

  pub oldest_alike : (bs cs fs : List Fact) → map stands_for bs ≡ map stands_for cs → oldest_range same bs natural integer fs ≡ oldest_range same cs natural integer fs
  oldest_alike bs cs [] h = refl
  oldest_alike bs cs (f ∷ fs) h =
      ap₂ or_else (oldest_alike bs cs fs h)
      (first_alike (bs ++ fs) (cs ++ fs) (λ e. given_by same bs fs e ∙ ap (λ xs. some_give same (xs ++ map stands_for fs) e) h ∙ sym (given_by same cs fs e)) (stands_for f))

  later_range : (k k' : Surroundings) → IsLater k k' → (b : Base) → oldest_range same k.conditions natural integer k.facts ≡ Some b → oldest_range same k'.conditions natural integer k'.facts ≡ Some b
  later_range k k' l b h =
      ap (λ fs. oldest_range same k'.conditions natural integer fs) l.facts
      ∙ oldest_alike k'.conditions k.conditions (l.more ++ k.facts) l.conditions
      ∙ range_stays same k.conditions natural integer l.more k.facts b h

words_are_none : {P : Type 0} → is_no_word Words ≡ true → P
words_are_none h = cc

module _ (same : Exp → Exp → Bool) where
  -- the base of an operation
  base_stays : (numbers : Bool) (k k' : Surroundings) → IsLater k k' → (n : ℕ) (a b : Exp) → is_exact numbers true (base_in same numbers k n a b) ≡ true → base_in same numbers k' n a b ≡ base_in same numbers k n a b
  base_stays false k k' l n a b h = refl
  base_stays true k k' l n a b h = by_found (oldest_range same k.conditions (natural_range n a) (integer_range n b) k.facts) refl h
    where
      by_found : (o : Option Base) → oldest_range same k.conditions (natural_range n a) (integer_range n b) k.facts ≡ o → is_no_word (or_words o) ≡ true → base_in same true k' n a b ≡ base_in same true k n a b
      by_found None e i = words_are_none i
      by_found (Some c) e i = ap or_words (later_range same (natural_range n a) (integer_range n b) k k' l c e) ∙ ap or_words (sym e)

  signed_stays : (numbers : Bool) (k k' : Surroundings) → IsLater k k' → (n : ℕ) (b : Exp) → is_exact numbers true (signed_base_in same numbers k n b) ≡ true → signed_base_in same numbers k' n b ≡ signed_base_in same numbers k n b
  signed_stays false k k' l n b h = refl
  signed_stays true k k' l n b h = by_found (oldest_range same k.conditions (integer_range n b) (integer_range n b) k.facts) refl h
    where
      by_found : (o : Option Base) → oldest_range same k.conditions (integer_range n b) (integer_range n b) k.facts ≡ o → is_no_word (signed_or_words o) ≡ true → signed_base_in same true k' n b ≡ signed_base_in same true k n b
      by_found None e i = words_are_none i
      by_found (Some c) e i = ap signed_or_words (later_range same (integer_range n b) (integer_range n b) k k' l c e) ∙ ap signed_or_words (sym e)

  binary_stays : (numbers : Bool) (k k' : Surroundings) → IsLater k k' → (n : ℕ) (op : WordOp) (os : Operands) → is_exact numbers (is_arithmetic op) (binary_base same numbers k n op os) ≡ true → binary_base same numbers k' n op os ≡ binary_base same numbers k n op os
  binary_stays numbers k k' l n Wadd os h = base_stays numbers k k' l n (X.Arith N.Add os.naturals.0.right os.naturals.1.right) (X.Arith N.Add os.integers.0.right os.integers.1.right) h
  binary_stays numbers k k' l n Wsub os h = base_stays numbers k k' l n (X.Arith N.Sub os.naturals.0.right os.naturals.1.right) (X.Arith N.Sub os.integers.0.right os.integers.1.right) h
  binary_stays numbers k k' l n Wmul os h = base_stays numbers k k' l n (X.Arith N.Mul os.naturals.0.right os.naturals.1.right) (X.Arith N.Mul os.integers.0.right os.integers.1.right) h
  binary_stays numbers k k' l n Wsdiv os h = signed_stays numbers k k' l n (X.Arith N.Div os.integers.0.right os.integers.1.right) h
  binary_stays _ _ _ _ _ _ _ _ = refl

  negation_stays : (numbers : Bool) (k k' : Surroundings) → IsLater k k' → (n : ℕ) (op : UnaryOp) (a b : Abstracted) → is_exact numbers (is_negation op) (negation_base same numbers k n op a b) ≡ true → negation_base same numbers k' n op a b ≡ negation_base same numbers k n op a b
  negation_stays numbers k k' l n Wneg a b h = base_stays numbers k k' l n (X.Negate a.right) (X.Negate b.right) h
  negation_stays numbers k k' l n Wnot a b h = refl

  module _ (numbers : Bool) (g : Scope) (names : List Binder) where
    abbrev A : Surroundings → Exp → View → Abstracted
    A k e v = abstracted same numbers g names k e v

    abbrev I : Surroundings → Path → Trees R.Rule → Indices
    I k path ts = indices same numbers g names k path ts

    abbrev B : Surroundings → Exp → Base
    B k e = base_of same numbers g names k e

    abbrev Ready : Surroundings → Exp → Bool
    Ready k e = ready same numbers g names k e

    abbrev Same : Surroundings → Surroundings → Exp → Type 0
    Same k k' e = (v : View) → A k' e v ≡ A k e v

    whole : (k k' : Surroundings) (e : Exp) → Same k k' e → ◌≡◌ {A = View → Abstracted} (λ v. A k' e v) (λ v. A k e v)
    whole k k' e h = fun_ext h

    abbrev os_in : Surroundings → Exp → Exp → Operands
    os_in k a b = operands (λ w. A k a w) (λ w. A k b w) (own g a) (own g b) (or_zero (width_in g a))

    same_operands : (k k' : Surroundings) (a b : Exp) → Same k k' a → Same k k' b → os_in k' a b ≡ os_in k a b
    same_operands k k' a b h i = ap₂ (λ f j. operands f j (own g a) (own g b) (or_zero (width_in g a))) (whole k k' a h) (whole k k' b i)

    -- the base of an operation, whose operands stay
    binary_same : (k k' : Surroundings) → IsLater k k' → (op : WordOp) (a b : Exp) → is_exact numbers (is_arithmetic op) (binary_base same numbers k (or_zero (width_in g a)) op (os_in k a b)) ≡ true → Same k k' a → Same k k' b →
        binary_base same numbers k' (or_zero (width_in g a)) op (os_in k' a b) ≡ binary_base same numbers k (or_zero (width_in g a)) op (os_in k a b)
    binary_same k k' l op a b h i j =
        ap (λ os. binary_base same numbers k' (or_zero (width_in g a)) op os) (same_operands k k' a b i j)
        ∙ binary_stays numbers k k' l (or_zero (width_in g a)) op (os_in k a b) h

    negation_same : (k k' : Surroundings) → IsLater k k' → (op : UnaryOp) (a : Exp) →
        is_exact numbers (is_negation op) (negation_base same numbers k (or_zero (width_in g a)) op (A k a (Unsigned (or_zero (width_in g a)))) (A k a (Signed (or_zero (width_in g a))))) ≡ true → Same k k' a →
        negation_base same numbers k' (or_zero (width_in g a)) op (A k' a (Unsigned (or_zero (width_in g a)))) (A k' a (Signed (or_zero (width_in g a))))
        ≡ negation_base same numbers k (or_zero (width_in g a)) op (A k a (Unsigned (or_zero (width_in g a)))) (A k a (Signed (or_zero (width_in g a))))
    negation_same k k' l op a h i =
        let n = or_zero (width_in g a) in
        ap₂ (λ x y. negation_base same numbers k' n op x y) (i (Unsigned n)) (i (Signed n)) ∙ negation_stays numbers k k' l n op (A k a (Unsigned n)) (A k a (Signed n)) h

    mutual
      pub stays : (k k' : Surroundings) → IsLater k k' → (e : Exp) → Ready k e ≡ true → (v : View) → A k' e v ≡ A k e v
      stays k k' l (X.WordBinary op a b) r v =
          let n = or_zero (width_in g a) in
          let i = and_parts (is_exact numbers (is_arithmetic op) (binary_base same numbers k n op (os_in k a b)) && Ready k a) (Ready k b) r in
          let j = and_parts (is_exact numbers (is_arithmetic op) (binary_base same numbers k n op (os_in k a b))) (Ready k a) i.0 in
          ap₂ (λ c os. seen_from c n v (binary_at op c os)) (binary_same k k' l op a b j.0 (λ u. stays k k' l a j.1 u) (λ u. stays k k' l b i.1 u)) (same_operands k k' a b (λ u. stays k k' l a j.1 u) (λ u. stays k k' l b i.1 u))
      stays k k' l (X.WordShift op a n) r v = let i = and_parts (Ready k a) (Ready k n) r in ap₂ (λ x y. by_head v (X.WordShift op x.right y.right) (two x y)) (stays k k' l a i.0 (own g a)) (stays k k' l n i.1 (own g n))
      stays k k' l (X.WordUnary op a) r v =
          let n = or_zero (width_in g a) in
          let j = and_parts (is_exact numbers (is_negation op) (negation_base same numbers k n op (A k a (Unsigned n)) (A k a (Signed n)))) (Ready k a) r in
          ap₂ (λ c f. seen_from c n v (unary_at op c (f (own g a)) (f (Unsigned n)) (f (Signed n)))) (negation_same k k' l op a j.0 (λ u. stays k k' l a j.1 u)) (whole k k' a (λ u. stays k k' l a j.1 u))
      stays k k' l (X.WordCompare test a b) r v =
          let i = and_parts (Ready k a) (Ready k b) r in
          ap₂ (λ f h. compared numbers test f h (own g a) (own g b) (or_zero (width_in g a))) (whole k k' a (λ u. stays k k' l a i.0 u)) (whole k k' b (λ u. stays k k' l b i.1 u))
      stays k k' l (X.Cast op m a) r v = ap (λ f. cast_at numbers op m v f (own g a) (or_zero (width_in g a))) (whole k k' a (λ u. stays k k' l a r u))
      stays k k' l (X.ToNat a) r v = ap (λ x. made R.Nat x.right (one x)) (stays k k' l a r (Unsigned (or_zero (width_in g a))))
      stays k k' l (X.ToInt a) r v = ap (λ x. made R.Int x.right (one x)) (stays k k' l a r (Signed (or_zero (width_in g a))))
      stays k k' l (X.ToWord m a) r v = ap (λ x. by_head v (X.ToWord m x.right) (one x)) (stays k k' l a r (own g a))
      stays k k' l (X.Arith op a b) r v = let i = and_parts (Ready k a) (Ready k b) r in ap₂ (λ x y. by_head v (X.Arith op x.right y.right) (two x y)) (stays k k' l a i.0 (own g a)) (stays k k' l b i.1 (own g b))
      stays k k' l (X.Negate a) r v = ap (λ x. by_head v (X.Negate x.right) (one x)) (stays k k' l a r (own g a))
      stays k k' l (X.Lt a b) r v = let i = and_parts (Ready k a) (Ready k b) r in ap₂ (λ x y. by_head v (X.Lt x.right y.right) (two x y)) (stays k k' l a i.0 (own g a)) (stays k k' l b i.1 (own g b))
      stays k k' l (X.Le a b) r v = let i = and_parts (Ready k a) (Ready k b) r in ap₂ (λ x y. by_head v (X.Le x.right y.right) (two x y)) (stays k k' l a i.0 (own g a)) (stays k k' l b i.1 (own g b))
      stays k k' l (X.Between low a high) r v = ap (λ x. by_head v (X.Between low x.right high) (one x)) (stays k k' l a r (own g a))
      stays k k' l (X.Eq a b) r v =
          let i = and_parts (Ready k a) (Ready k b) r in
          ap₂ (λ f h. equal f h (own g a) (own g b) (equality_kind (sort_of g a) (first_base (B k' a) (B k' b)))) (whole k k' a (λ u. stays k k' l a i.0 u)) (whole k k' b (λ u. stays k k' l b i.1 u))
          ∙ ap₂ (λ c d. equal (λ u. A k a u) (λ u. A k b u) (own g a) (own g b) (equality_kind (sort_of g a) (first_base c d))) (same_base k k' l a i.0) (same_base k k' l b i.1)
      stays k k' l (X.And a b) r v =
          let t = A k a truth in
          let i = and_parts (Ready k a) (Ready (under (Whole t.right) k) b) r in
          ap (λ x. let y = A (under (Whole x.right) k') b truth in made R.Logic (X.And x.right y.right) (two x y)) (stays k k' l a i.0 truth)
          ∙ ap (λ y. made R.Logic (X.And t.right y.right) (two t y)) (stays (under (Whole t.right) k) (under (Whole t.right) k') (under_both (Whole t.right) k k' l) b i.1 truth)
      stays k k' l (X.Or a b) r v =
          let t = A k a truth in
          let i = and_parts (Ready k a) (Ready (under (NotTrue t.right) k) b) r in
          ap (λ x. let y = A (under (NotTrue x.right) k') b truth in made R.Logic (X.Or x.right y.right) (two x y)) (stays k k' l a i.0 truth)
          ∙ ap (λ y. made R.Logic (X.Or t.right y.right) (two t y)) (stays (under (NotTrue t.right) k) (under (NotTrue t.right) k') (under_both (NotTrue t.right) k k' l) b i.1 truth)
      stays k k' l (X.Imp a b) r v =
          let t = A k a truth in
          let i = and_parts (Ready k a) (Ready (under (Whole t.right) k) b) r in
          ap (λ x. let y = A (under (Whole x.right) k') b truth in made R.Logic (X.Imp x.right y.right) (two x y)) (stays k k' l a i.0 truth)
          ∙ ap (λ y. made R.Logic (X.Imp t.right y.right) (two t y)) (stays (under (Whole t.right) k) (under (Whole t.right) k') (under_both (Whole t.right) k k' l) b i.1 truth)
      stays k k' l (X.Not a) r v = ap (λ x. made R.Logic (X.Not x.right) (one x)) (stays k k' l a r truth)
      stays k k' l (X.If c a b) r v =
          let t = A k c truth in
          let i = and_parts (Ready k c && Ready (under (Whole t.right) k) a) (Ready (under (NotTrue t.right) k) b) r in
          let j = and_parts (Ready k c) (Ready (under (Whole t.right) k) a) i.0 in
          ap (λ q. let x = A (under (Whole q.right) k') a v in
          let y = A (under (NotTrue q.right) k') b v in made R.Cond (X.If q.right x.right y.right) (tree q.tree (two x y))) (stays k k' l c j.0 truth)
          ∙ ap₂ (λ x y. made R.Cond (X.If t.right x.right y.right) (tree t.tree (two x y))) (stays (under (Whole t.right) k) (under (Whole t.right) k') (under_both (Whole t.right) k k' l) a j.1 v) (stays (under (NotTrue t.right) k) (under (NotTrue t.right) k') (under_both (NotTrue t.right) k k' l) b i.1 v)
      stays k k' l (X.Padd t p n) r v = let i = and_parts (Ready k p) (Ready k n) r in ap₂ (λ x y. by_head v (X.Padd t x.right y.right) (two x y)) (stays k k' l p i.0 (own g p)) (stays k k' l n i.1 (own g n))
      stays k k' l (X.At t p path) r v = let c = and_parts (Ready k p) (path_ready same numbers g names k path) r in ap₂ (λ x i. by_head v (X.At t x.right i.path) (tree x.tree i.trees)) (stays k k' l p c.0 (own g p)) (path_stays k k' l path c.1 no_trees)
      stays k k' l (X.Load t p path) r v = let c = and_parts (Ready k p) (path_ready same numbers g names k path) r in ap₂ (λ x i. by_head v (X.Load t x.right i.path) (tree x.tree i.trees)) (stays k k' l p c.0 (own g p)) (path_stays k k' l path c.1 no_trees)
      stays k k' l (X.Read t p path) r v = let c = and_parts (Ready k p) (path_ready same numbers g names k path) r in ap₂ (λ x i. by_head v (X.Read t x.right i.path) (tree x.tree i.trees)) (stays k k' l p c.0 (own g p)) (path_stays k k' l path c.1 no_trees)
      stays k k' l (X.Tagged t p) r v = ap (λ x. by_head v (X.Tagged t x.right) (one x)) (stays k k' l p r (own g p))
      stays k k' l (X.PtrOk t p) r v = ap (λ x. by_head v (X.PtrOk t x.right) (one x)) (stays k k' l p r (own g p))
      stays k k' l (X.Global x path) r v = ap (λ i. by_head v (X.Global x i.path) i.trees) (path_stays k k' l path r no_trees)
      stays k k' l (X.Sel e path) r v = let c = and_parts (Ready k e) (path_ready same numbers g names k path) r in ap₂ (λ x i. by_head v (X.Sel x.right i.path) (tree x.tree i.trees)) (stays k k' l e c.0 (own g e)) (path_stays k k' l path c.1 no_trees)
      stays k k' l (X.Upd e path w) r v =
          let i = and_parts (Ready k e && path_ready same numbers g names k path) (Ready k w) r in
          let j = and_parts (Ready k e) (path_ready same numbers g names k path) i.0 in
          ap₂ (λ x y. let q = I k' path (one y) in by_head v (X.Upd x.right q.path y.right) (tree x.tree q.trees)) (stays k k' l e j.0 (own g e)) (stays k k' l w i.1 (own g w))
          ∙ ap (λ q. let x = A k e (own g e) in by_head v (X.Upd x.right q.path (A k w (own g w)).right) (tree x.tree q.trees)) (path_stays k k' l path j.1 (one (A k w (own g w))))
      stays _ _ _ _ _ _ = refl

      pub path_stays : (k k' : Surroundings) → IsLater k k' → (path : Path) → path_ready same numbers g names k path ≡ true → (ts : Trees R.Rule) → I k' path ts ≡ I k path ts
      path_stays k k' l X.Here r ts = refl
      path_stays k k' l (X.IntoField n path) r ts = ap (λ i. let q : Indices = record { path = X.IntoField n i.path; trees = i.trees } in q) (path_stays k k' l path r ts)
      path_stays k k' l (X.IntoElement e path) r ts =
          let i = and_parts (Ready k e) (path_ready same numbers g names k path) r in
          ap₂ (λ x j. let q : Indices = record { path = X.IntoElement x.right j.path; trees = tree x.tree j.trees } in q) (stays k k' l e i.0 (own g e)) (path_stays k k' l path i.1 ts)

      same_base : (k k' : Surroundings) → IsLater k k' → (e : Exp) → Ready k e ≡ true → B k' e ≡ B k e
      same_base k k' l (X.WordBinary op a b) r =
          let i = and_parts (is_exact numbers (is_arithmetic op) (binary_base same numbers k (or_zero (width_in g a)) op (os_in k a b)) && Ready k a) (Ready k b) r in
          let j = and_parts (is_exact numbers (is_arithmetic op) (binary_base same numbers k (or_zero (width_in g a)) op (os_in k a b))) (Ready k a) i.0 in
          binary_same k k' l op a b j.0 (λ u. stays k k' l a j.1 u) (λ u. stays k k' l b i.1 u)
      same_base k k' l (X.WordUnary op a) r =
          let n = or_zero (width_in g a) in
          let j = and_parts (is_exact numbers (is_negation op) (negation_base same numbers k n op (A k a (Unsigned n)) (A k a (Signed n)))) (Ready k a) r in
          negation_same k k' l op a j.0 (λ u. stays k k' l a j.1 u)
      same_base k k' l (X.Cast X.Zext m a) r = refl
      same_base _ _ _ _ _ = refl
