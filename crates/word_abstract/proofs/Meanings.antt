-- What an expression stands for means what it is abstracted to, however it is seen.
use Rattle.std.proofs.Math.Path.{fun_ext}
use Rattle.std.proofs.Common.{◌≡◌, ℕ, Bool, true, false, List, Option, Some, None, refl, ap, ap₂, ◌∙◌}
use Rattle.c_values.specs.Word.{WordTest, Wult}
use Rattle.c_values.specs.Name.{Name}
use Rattle.expression_lang.specs.Expression as X
use Rattle.expression_lang.specs.Expression.{Exp, Path}
use Rattle.expression_lang.specs.Sort.{Kind, WordKind, NatKind, IntKind, Scope, sort_of}
use Rattle.expression_lang.specs.Signature.{Binder}
use Rattle.rule_trees.specs.RuleTree.{Trees, no_trees, tree}
use Rattle.rule_word.specs.Rule as R
use Rattle.rule_word.specs.Rule.{Rule, View, AsIs, Unsigned, Signed}
use Rattle.ac_expr.specs.Fact.{Whole, NotTrue}
use Rattle.rule_word.specs.Scopes.{view_for, own, width_in, names_in}
use Rattle.rule_word.specs.Table.{truth}
use Rattle.rule_word.specs.Bases.{Surroundings, under, Base, Words, Naturals, Integers, first_base}
use Rattle.rule_word.specs.WordsAbstracted.{Abstracted, Indices, made, one, two, seen_from, by_head, or_zero, operands, binary_base, binary_at, negation_base, unary_at, abstracted, indices, base_of, compared, cast_at, equal, equality_kind, var_at, var_base}
use Rattle.word_abstract.specs.CodeMeaning as S
use Rattle.word_abstract.specs.CodeMeaning.{Seen, seen_in, seen_for, Standing, seen_at, meaning, standing, path_standing, path_trees, word_of, base_at, chosen}

seen_is : (b : Base) (n : ℕ) (v : View) (x : Abstracted) → seen_from b n v x ≡ seen_at b n (seen_in v) x
seen_is Words n (AsIs o) x = refl
seen_is Naturals n (AsIs o) x = refl
seen_is Integers n (AsIs o) x = refl
seen_is _ _ _ _ = refl

var_is : (o : Option Kind) (x : Name) (v : View) → var_at o x v ≡ meaning (S.var_standing o x) (seen_in v)
var_is (Some (WordKind n)) x v = seen_is Words n v _
var_is (Some (NatKind n)) x v = seen_is Naturals n v _
var_is (Some (IntKind n)) x v = seen_is Integers n v _
var_is _ _ _ = refl

-- what is made of operands, whichever way they are seen
of_one : {A : Type 0} (F : (View → Abstracted) → A) (f : View → Abstracted) (a : Standing) → ((v : View) → f v ≡ meaning a (seen_in v)) → F f ≡ F (λ v. meaning a (seen_in v))
of_one F f a e = ap F (fun_ext e)

of_two : {A : Type 0} (F : (View → Abstracted) → (View → Abstracted) → A) (f h : View → Abstracted) (a b : Standing) → ((v : View) → f v ≡ meaning a (seen_in v)) → ((v : View) → h v ≡ meaning b (seen_in v)) →
    F f h ≡ F (λ v. meaning a (seen_in v)) (λ v. meaning b (seen_in v))
of_two F f h a b e i = ap₂ F (fun_ext e) (fun_ext i)

pub kind_seen : (k : Kind) → seen_in (view_for k) ≡ seen_for k
kind_seen (WordKind n) = refl
kind_seen _ = refl

module _ (same : Exp → Exp → Bool) (numbers : Bool) (g : Scope) (names : List Binder) where
  abbrev A : Surroundings → Exp → View → Abstracted
  A k e v = abstracted same numbers g names k e v

  abbrev T : Surroundings → Exp → Standing
  T k e = standing same numbers g names k e

  abbrev Is : Surroundings → Exp → Type 0
  Is k e = (v : View) → A k e v ≡ meaning (T k e) (seen_in v)

  abbrev alone : (X.Exp → Exp) → Exp → View → Abstracted → Abstracted
  alone f a v x = by_head v (f x.right) (one x)

  abbrev pair : (Exp → Exp → Exp) → View → Abstracted → Abstracted → Abstracted
  pair f v x y = by_head v (f x.right y.right) (two x y)

  abbrev path_made : (Path → Exp) → View → Indices → Abstracted
  path_made f v i = by_head v (f i.path) i.trees

  abbrev place_made : (Exp → Path → Exp) → View → Abstracted → Indices → Abstracted
  place_made f v x i = by_head v (f x.right i.path) (tree x.tree i.trees)

  abbrev connected : (Exp → Exp → Exp) → Abstracted → Abstracted → Abstracted
  connected f x y = made R.Logic (f x.right y.right) (two x y)

  abbrev I : Surroundings → Path → Trees Rule → Indices
  I k path ts = record { path = path_standing same numbers g names k path; trees = path_trees same numbers g names k path ts }

  op_seen : (v : View) (a : Exp) (ts : Trees Rule) → by_head v a ts ≡ meaning (S.operator a ts) (seen_in v)
  op_seen v a ts = seen_is Words 0 v (made R.Op a ts)

  compared_is : (b : Bool) (test : _) (x y : Standing) (g' : _) (e : Exp) (i : Exp) (n : ℕ) → compared b test (λ w. meaning x (seen_in w)) (λ w. meaning y (seen_in w)) (own g' e) (own g' i) n ≡ meaning (S.compared b test x y) S.AsWord
  compared_is true Wult x y g' e i n = refl
  compared_is _ _ _ _ _ _ _ _ = refl

  fixed_compared : (b : Bool) (test : WordTest) (x y : Standing) (s : Seen) → meaning (S.compared b test x y) S.AsWord ≡ meaning (S.compared b test x y) s
  fixed_compared true test x y s = refl
  fixed_compared false test x y s = refl

  equal_is : (o : Option Kind) (x y : Standing) (e i : Exp) (s : Seen) → equal (λ w. meaning x (seen_in w)) (λ w. meaning y (seen_in w)) (own g e) (own g i) o ≡ meaning (S.equal o x y) s
  equal_is (Some (WordKind n)) x y e i s = refl
  equal_is _ _ _ _ _ _ = refl

  cast_is : (b : Bool) (op : X.CastOp) (m : ℕ) (v : View) (x : Standing) (e : Exp) (n : ℕ) → cast_at b op m v (λ w. meaning x (seen_in w)) (own g e) n ≡ meaning (S.cast_standing b op m x) (seen_in v)
  cast_is true X.Zext m (AsIs o) x e n = refl
  cast_is true X.Sext m v x e n = seen_is Integers m v _
  cast_is true X.Trunc m v x e n = op_seen v _ _
  cast_is false X.Zext m v x e n = op_seen v _ _
  cast_is false X.Sext m v x e n = op_seen v _ _
  cast_is false X.Trunc m v x e n = op_seen v _ _
  cast_is _ _ _ _ _ _ _ = refl

  cast_base : (b : Bool) (op : X.CastOp) (m : ℕ) (x : Standing) (k : Surroundings) (e : Exp) → base_of same b g names k (X.Cast op m e) ≡ base_at (S.cast_standing b op m x)
  cast_base true X.Zext m x k e = refl
  cast_base false X.Zext m x k e = refl
  cast_base _ _ _ _ _ _ = refl

  fixed_base : (b : Bool) (test : WordTest) (x y : Standing) → Words ≡ base_at (S.compared b test x y)
  fixed_base true test x y = refl
  fixed_base false test x y = refl

  equal_base : (o : Option Kind) (x y : Standing) → Words ≡ base_at (S.equal o x y)
  equal_base (Some k) x y = refl
  equal_base None x y = refl

  var_base_is : (o : Option Kind) (x : Name) → var_base o ≡ base_at (S.var_standing o x)
  var_base_is (Some (WordKind n)) x = refl
  var_base_is _ _ = refl

  one_is : (f : Exp → Exp) (k : Surroundings) (a : Exp) (v : View) → Is k a → alone f a v (A k a (own g a)) ≡ meaning (let x = word_of (T k a) in S.operator (f x.right) (one x)) (seen_in v)
  one_is f k a v e = ap (λ x. alone f a v x) (e (own g a)) ∙ op_seen v _ _

  two_is : (f : Exp → Exp → Exp) (k : Surroundings) (a b : Exp) (v : View) → Is k a → Is k b → pair f v (A k a (own g a)) (A k b (own g b)) ≡ meaning (let x = word_of (T k a) in let y = word_of (T k b) in S.operator (f x.right y.right) (two x y)) (seen_in v)
  two_is f k a b v e i = ap₂ (λ x y. pair f v x y) (e (own g a)) (i (own g b)) ∙ op_seen v _ _

  place_is : (f : Exp → Path → Exp) (k : Surroundings) (p : Exp) (path : Path) (v : View) → Is k p → ((ts : Trees Rule) → indices same numbers g names k path ts ≡ I k path ts) →
      place_made f v (A k p (own g p)) (indices same numbers g names k path no_trees) ≡
      meaning (let x = word_of (T k p) in S.operator (f x.right (I k path no_trees).path) (tree x.tree (I k path no_trees).trees)) (seen_in v)
  place_is f k p path v e i = ap₂ (λ x j. place_made f v x j) (e (own g p)) (i no_trees) ∙ op_seen v _ _

  mutual
    pub meaning_is : (k : Surroundings) (e : Exp) (v : View) → abstracted same numbers g names k e v ≡ meaning (standing same numbers g names k e) (seen_in v)
    meaning_is k (X.Var x) v = var_is (names_in (λ j. j) names x) x v
    meaning_is k (X.WordLit w) (AsIs o) = refl
    meaning_is k (X.NumberLit n) (AsIs o) = refl
    meaning_is k (X.TruthLit b) (AsIs o) = refl
    meaning_is k (X.WordBinary op a b) v =
        let n = or_zero (width_in g a) in
        of_two (λ f h. let os = operands f h (own g a) (own g b) n in let base = binary_base same numbers k n op os in seen_from base n v (binary_at op base os))
        (A k a) (A k b) (T k a) (T k b) (meaning_is k a) (meaning_is k b) ∙ seen_is _ n v _
    meaning_is k (X.WordShift op a n) v = two_is (λ x y. X.WordShift op x y) k a n v (meaning_is k a) (meaning_is k n)
    meaning_is k (X.WordUnary op a) v =
        let n = or_zero (width_in g a) in
        of_one (λ f. let base = negation_base same numbers k n op (f (Unsigned n)) (f (Signed n)) in seen_from base n v (unary_at op base (f (own g a)) (f (Unsigned n)) (f (Signed n))))
        (A k a) (T k a) (meaning_is k a) ∙ seen_is _ n v _
    meaning_is k (X.WordCompare test a b) v =
        of_two (λ f h. compared numbers test f h (own g a) (own g b) (or_zero (width_in g a))) (A k a) (A k b) (T k a) (T k b) (meaning_is k a) (meaning_is k b)
        ∙ compared_is numbers test (T k a) (T k b) g a b (or_zero (width_in g a)) ∙ fixed_compared numbers test (T k a) (T k b) (seen_in v)
    meaning_is k (X.Cast op m a) v =
        of_one (λ f. cast_at numbers op m v f (own g a) (or_zero (width_in g a))) (A k a) (T k a) (meaning_is k a) ∙ cast_is numbers op m v (T k a) a (or_zero (width_in g a))
    meaning_is k (X.ToNat a) v = ap (λ (x : Abstracted). made R.Nat x.right (one x)) (meaning_is k a (Unsigned (or_zero (width_in g a))))
    meaning_is k (X.ToInt a) v = ap (λ (x : Abstracted). made R.Int x.right (one x)) (meaning_is k a (Signed (or_zero (width_in g a))))
    meaning_is k (X.ToWord m a) v = one_is (λ x. X.ToWord m x) k a v (meaning_is k a)
    meaning_is k (X.Arith op a b) v = two_is (λ x y. X.Arith op x y) k a b v (meaning_is k a) (meaning_is k b)
    meaning_is k (X.Negate a) v = one_is (λ x. X.Negate x) k a v (meaning_is k a)
    meaning_is k (X.Lt a b) v = two_is (λ x y. X.Lt x y) k a b v (meaning_is k a) (meaning_is k b)
    meaning_is k (X.Le a b) v = two_is (λ x y. X.Le x y) k a b v (meaning_is k a) (meaning_is k b)
    meaning_is k (X.Between low a high) v = one_is (λ x. X.Between low x high) k a v (meaning_is k a)
    meaning_is k (X.Eq a b) v =
        ap (λ z. equal (A k a) (A k b) (own g a) (own g b) (equality_kind (sort_of g a) z)) (ap₂ first_base (base_is k a) (base_is k b))
        ∙ of_two (λ f h. equal f h (own g a) (own g b) (equality_kind (sort_of g a) (first_base (base_at (T k a)) (base_at (T k b))))) (A k a) (A k b) (T k a) (T k b) (meaning_is k a) (meaning_is k b)
        ∙ equal_is (equality_kind (sort_of g a) (first_base (base_at (T k a)) (base_at (T k b)))) (T k a) (T k b) a b (seen_in v)
    meaning_is k (X.And a b) v =
        ap (λ (x : Abstracted). connected (λ y z. X.And y z) x (A (under (Whole x.right) k) b truth)) (meaning_is k a truth)
        ∙ ap (λ y. connected (λ y z. X.And y z) (word_of (T k a)) y) (meaning_is (under (Whole (word_of (T k a)).right) k) b truth)
    meaning_is k (X.Or a b) v =
        ap (λ (x : Abstracted). connected (λ y z. X.Or y z) x (A (under (NotTrue x.right) k) b truth)) (meaning_is k a truth)
        ∙ ap (λ y. connected (λ y z. X.Or y z) (word_of (T k a)) y) (meaning_is (under (NotTrue (word_of (T k a)).right) k) b truth)
    meaning_is k (X.Imp a b) v =
        ap (λ (x : Abstracted). connected (λ y z. X.Imp y z) x (A (under (Whole x.right) k) b truth)) (meaning_is k a truth)
        ∙ ap (λ y. connected (λ y z. X.Imp y z) (word_of (T k a)) y) (meaning_is (under (Whole (word_of (T k a)).right) k) b truth)
    meaning_is k (X.Not a) v = ap (λ (x : Abstracted). made R.Logic (X.Not x.right) (one x)) (meaning_is k a truth)
    meaning_is k (X.If c a b) v =
        ap (λ (t : Abstracted). chosen t (A (under (Whole t.right) k) a v) (A (under (NotTrue t.right) k) b v)) (meaning_is k c truth)
        ∙ ap₂ (λ x y. chosen (word_of (T k c)) x y) (meaning_is (under (Whole (word_of (T k c)).right) k) a v) (meaning_is (under (NotTrue (word_of (T k c)).right) k) b v)
    meaning_is k (X.Padd t p n) v = two_is (λ x y. X.Padd t x y) k p n v (meaning_is k p) (meaning_is k n)
    meaning_is k (X.At t p path) v = place_is (λ x i. X.At t x i) k p path v (meaning_is k p) (indices_is k path)
    meaning_is k (X.Load t p path) v = place_is (λ x i. X.Load t x i) k p path v (meaning_is k p) (indices_is k path)
    meaning_is k (X.Read t p path) v = place_is (λ x i. X.Read t x i) k p path v (meaning_is k p) (indices_is k path)
    meaning_is k (X.Tagged t p) v = one_is (λ x. X.Tagged t x) k p v (meaning_is k p)
    meaning_is k (X.PtrOk t p) v = one_is (λ x. X.PtrOk t x) k p v (meaning_is k p)
    meaning_is k (X.Global x path) v = ap (λ i. path_made (λ p. X.Global x p) v i) (indices_is k path no_trees) ∙ op_seen v _ _
    meaning_is k (X.Sel e path) v = place_is (λ x i. X.Sel x i) k e path v (meaning_is k e) (indices_is k path)
    meaning_is k (X.Upd e path w) v =
        ap₂ (λ (x y : Abstracted). let i = indices same numbers g names k path (one y) in by_head v (X.Upd x.right i.path y.right) (tree x.tree i.trees)) (meaning_is k e (own g e)) (meaning_is k w (own g w))
        ∙ ap (λ (i : Indices). by_head v (X.Upd (word_of (T k e)).right i.path (word_of (T k w)).right) (tree (word_of (T k e)).tree i.trees)) (indices_is k path (one (word_of (T k w))))
        ∙ op_seen v _ _
    meaning_is _ _ _ = refl

    pub indices_is : (k : Surroundings) (path : Path) (ts : Trees Rule) → indices same numbers g names k path ts ≡ record { path = path_standing same numbers g names k path; trees = path_trees same numbers g names k path ts }
    indices_is k X.Here ts = refl
    indices_is k (X.IntoField j path) ts = ap (λ (i : Indices). record { path = X.IntoField j i.path; trees = i.trees }) (indices_is k path ts)
    indices_is k (X.IntoElement e path) ts =
        ap₂ (λ (x : Abstracted) (i : Indices). record { path = X.IntoElement x.right i.path; trees = tree x.tree i.trees }) (meaning_is k e (own g e)) (indices_is k path ts)

    base_is : (k : Surroundings) (e : Exp) → base_of same numbers g names k e ≡ base_at (standing same numbers g names k e)
    base_is k (X.Var x) = var_base_is (names_in (λ j. j) names x) x
    base_is k (X.WordBinary op a b) =
        let n = or_zero (width_in g a) in
        of_two (λ f h. binary_base same numbers k n op (operands f h (own g a) (own g b) n)) (A k a) (A k b) (T k a) (T k b) (meaning_is k a) (meaning_is k b)
    base_is k (X.WordUnary op a) =
        let n = or_zero (width_in g a) in
        of_one (λ f. negation_base same numbers k n op (f (Unsigned n)) (f (Signed n))) (A k a) (T k a) (meaning_is k a)
    base_is k (X.WordCompare test a b) = fixed_base numbers test (T k a) (T k b)
    base_is k (X.Cast op m a) = cast_base numbers op m (T k a) k a
    base_is k (X.Between low a high) = refl
    base_is k (X.Eq a b) = equal_base (equality_kind (sort_of g a) (first_base (base_at (T k a)) (base_at (T k b)))) (T k a) (T k b)
    base_is _ _ = refl
