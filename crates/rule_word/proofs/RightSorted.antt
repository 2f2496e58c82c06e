-- What the rules take a well-sorted expression to is well-sorted, where names have what stands for their words: numbers where the view
-- is of numbers, else the sort that the left side has.
use Rattle.std.proofs.Common.{◌≡◌, ◌==◌, ℕ, true, false, not, ◌&&◌, List, [], ◌∷◌, length, Option, Some, None, refl, sym, subst, ap, ap₂, ◌∙◌}
use Rattle.std.proofs.lemmas.Bool.Decides.{Decides-eqb}
use Rattle.c_values.specs.Name.{Name}
use Rattle.c_values.specs.Layout.{global_type}
use Rattle.c_values.specs.Word.{Wadd, Wsub, Wmul, Wudiv, Wumod, Wsdiv, Wsmod, Wneg, WordTest, Wult, Wule, Wslt, Wsle}
use Rattle.c_values.specs.Number as N
use Rattle.c_values.proofs.Options.{some_is, none_is}
use Rattle.expression_lang.specs.Expression as X
use Rattle.expression_lang.specs.Expression.{Exp}
use Rattle.expression_lang.specs.Sort.{Kind, WordKind, NatKind, IntKind, BoolKind, Sort, Of, Scope, sort_of, sort_of_kind, word_sort_of, word_sort, number_sort, truth_sort, word_width, is_width, is_number, is_truth, is_unary, are_same, where_holds, of_word, of_words, scalar_sort}
use Rattle.ac_expr.specs.Fact.{Fact}
use Rattle.ac_expr.specs.Heads.{children}
use Rattle.ac_expr.proofs.HeadsAgree.{as_many}
use Rattle.rule_trees.specs.RuleTree.{AllHold, Tree, Accepts}
use Rattle.rule_trees.proofs.Induction.{holds as accepted_holds}
use Rattle.rule_word.specs.Rule as R
use Rattle.rule_word.specs.Rule.{Rule, Context, Point, View, AsIs, Unsigned, Signed, Claim, expression, program}
use Rattle.rule_word.specs.Scopes.{names_in, words, numbers, sort_seen, view_for, width_in}
use Rattle.rule_word.specs.Table.{constant, number_width, IsInRange, of_width, each, owns, is_operator, expression_row, table}
use Rattle.rule_word.proofs.HeadSorts.{heads_sorted, sorts_in, IsNoName}
use Rattle.rule_word.proofs.SoundExpressions.{one_less}
use Rattle.rule_word.proofs.AbstractedTaken.{names_there}

-- what the right side has
abbrev pub sort_given : View → Option Sort
sort_given (AsIs o) = o
sort_given (Unsigned n) = number_sort
sort_given (Signed n) = number_sort

-- words of a scope have one of the four widths
abbrev pub HasWidths : Scope → Type 0
HasWidths g = (e : Exp) (n : ℕ) → sort_of g e ≡ word_sort n → is_width n ≡ true

abbrev there : {A : Type 0} → (Kind → A) → Option Kind → Option A
there f None = None
there f (Some k) = Some (f k)

pub given_kind : (k : Kind) → ◌≡◌ {A = Option Sort} (Some (Of (sort_of_kind k))) (sort_given (view_for k))
given_kind (WordKind n) = refl
given_kind _ = refl

same_number : (n : ℕ) (o : Option Sort) → where_holds (n == n) o ≡ o
same_number n o = ap (λ b. where_holds b o) ((Decides-eqb n n).1 refl)

module _ (ctx : Context) where
  abbrev G : Point → Scope
  G at = (words ctx at.names).scope

  abbrev H : Point → Scope
  H at = (numbers ctx at.names).scope

  pub record Sorted (at : Point) (e : Exp) (v : View) (a : Exp) : Type 0 where
    pub left : sort_of (words ctx at.names).scope e ≡ sort_seen v
    pub right : HasWidths (words ctx at.names).scope → sort_of (numbers ctx at.names).scope a ≡ sort_given v

  pub record There (at : Point) (e : Exp) (v : View) (a : Exp) : Type 1 where
    pub there : Sorted at e v a

  abbrev pub SortedThere : Claim → Type 1
  SortedThere (expression at e v a) = There at e v a
  SortedThere (program at m m' ks) = Unit {1}

  module _ (at : Point) (wide : HasWidths (words ctx at.names).scope) where
    abbrev g : Scope
    g = G at

    abbrev h : Scope
    h = H at

    var_sorted : (x : Name) (v : View) (o : Option Kind) → names_in (λ k. k) at.names x ≡ o → names_in view_for at.names x ≡ Some v → sort_of h (X.Var x) ≡ sort_given v
    var_sorted x v None e q = none_is (sym (names_there view_for at.names x ∙ ap (there view_for) e) ∙ q)
    var_sorted x v (Some k) e q =
        ap scalar_sort (names_there sort_of_kind at.names x ∙ ap (there sort_of_kind) e) ∙ given_kind k ∙ ap sort_given (some_is (sym (names_there view_for at.names x ∙ ap (there view_for) e) ∙ q))

    const_sorted : (e : Exp) (v : View) (a : Exp) → sort_of g e ≡ sort_seen v → constant v e ≡ Some a → sort_of h a ≡ sort_given v
    const_sorted (X.WordLit w) (AsIs o) a q k = ap (sort_of h) (sym (some_is k)) ∙ q
    const_sorted (X.NumberLit n) (AsIs o) a q k = ap (sort_of h) (sym (some_is k)) ∙ q
    const_sorted (X.TruthLit b) (AsIs o) a q k = ap (sort_of h) (sym (some_is k)) ∙ q
    const_sorted (X.WordLit w) (Unsigned n) a q k = ap (sort_of h) (sym (some_is k))
    const_sorted (X.WordLit w) (Signed n) a q k = ap (sort_of h) (sym (some_is k))
    const_sorted e (AsIs o) a q k = none_is k
    const_sorted e (Unsigned n) a q k = none_is k
    const_sorted e (Signed n) a q k = none_is k

    of_word_sorted : (s : Scope) (e : Exp) (n : ℕ) → sort_of s e ≡ word_sort n → of_word (word_width (sort_of s e)) (λ m. number_sort) ≡ number_sort
    of_word_sorted s e n q = ap (λ o. of_word (word_width o) (λ m. number_sort)) q

    word_sorted : (k : Kind) (e : Exp) (o : Option Sort) (n : ℕ) (a : Exp) → sort_of g e ≡ o → number_width k ≡ Some n → Sorted at e (view_for k) a → sort_of h (X.ToWord n a) ≡ o
    word_sorted (NatKind j) e o n a q k c =
        subst (λ i. sort_of h (X.ToWord i a) ≡ o) (some_is k) (ap₂ (λ b p. where_holds (b && is_number p) (word_sort j)) (wide e j c.left) (c.right wide) ∙ sym c.left ∙ q)
    word_sorted (IntKind j) e o n a q k c =
        subst (λ i. sort_of h (X.ToWord i a) ≡ o) (some_is k) (ap₂ (λ b p. where_holds (b && is_number p) (word_sort j)) (wide e j c.left) (c.right wide) ∙ sym c.left ∙ q)
    word_sorted (WordKind j) e o n a q k c = none_is k
    word_sorted BoolKind e o n a q k c = none_is k

    arith_sorted : (op : N.NumberOp) (a b : Exp) → is_unary op ≡ false → sort_of h a ≡ number_sort → sort_of h b ≡ number_sort → sort_of h (X.Arith op a b) ≡ number_sort
    arith_sorted op a b u p q = ap (λ z. where_holds (not z && is_number (sort_of h a) && is_number (sort_of h b)) number_sort) u ∙ ap₂ (λ x y. where_holds (is_number x && is_number y) number_sort) p q

    numbers_alike : (v : View) (fs : List Fact) (r : Exp) (o : Option Sort) → IsInRange fs v r → o ≡ sort_given v → o ≡ number_sort
    numbers_alike (AsIs p) fs r o k q = absurd k
    numbers_alike (Unsigned n) fs r o k q = q
    numbers_alike (Signed n) fs r o k q = q

    given_number : (v : View) (fs : List Fact) (r : Exp) → IsInRange fs v r → number_sort ≡ sort_given v
    given_number (AsIs p) fs r k = absurd k
    given_number _ _ _ _ = refl

    op_sorted : (op : N.NumberOp) (a b a' b' : Exp) (v : View) → is_unary op ≡ false → IsInRange at.facts v (X.Arith op a' b') → Sorted at a v a' → Sorted at b v b' → sort_of h (X.Arith op a' b') ≡ sort_given v
    op_sorted op a b a' b' v u k c d =
        arith_sorted op a' b' u (numbers_alike v at.facts (X.Arith op a' b') (sort_of h a') k (c.right wide)) (numbers_alike v at.facts (X.Arith op a' b') (sort_of h b') k (d.right wide)) ∙ given_number v at.facts (X.Arith op a' b') k

    neg_sorted : (a a' : Exp) (v : View) → IsInRange at.facts v (X.Negate a') → Sorted at a v a' → sort_of h (X.Negate a') ≡ sort_given v
    neg_sorted a a' v k c = ap (λ o. where_holds (is_number o) number_sort) (numbers_alike v at.facts (X.Negate a') (sort_of h a') k (c.right wide)) ∙ given_number v at.facts (X.Negate a') k

    order_sorted : (t : WordTest) (a b a' b' : Exp) (o : Option Sort) (n : ℕ) → sort_of g (X.WordCompare t a b) ≡ o → sort_of g a ≡ word_sort n → sort_of g b ≡ word_sort n → sort_of h a' ≡ number_sort → sort_of h b' ≡ number_sort →
        where_holds (is_number (sort_of h a') && is_number (sort_of h b')) truth_sort ≡ o
    order_sorted t a b a' b' o n q p r x y =
        ap₂ (λ i j. where_holds (is_number i && is_number j) truth_sort) x y
        ∙ sym (ap₂ (λ i j. of_words (word_width i) (word_width j) (λ m. truth_sort)) p r ∙ same_number n truth_sort) ∙ q

    equal_sorted : (k : Kind) (a b a' b' : Exp) (o : Option Sort) → sort_of g (X.Eq a b) ≡ o → Sorted at a (view_for k) a' → Sorted at b (view_for k) b' → sort_of h (X.Eq a' b') ≡ o
    equal_sorted (WordKind n) a b a' b' o q c d = ap₂ (λ i j. where_holds (are_same i j) truth_sort) (c.right wide ∙ sym c.left) (d.right wide ∙ sym d.left) ∙ q
    equal_sorted BoolKind a b a' b' o q c d = ap₂ (λ i j. where_holds (are_same i j) truth_sort) (c.right wide ∙ sym c.left) (d.right wide ∙ sym d.left) ∙ q
    equal_sorted (NatKind n) a b a' b' o q c d =
        ap₂ (λ i j. where_holds (are_same i j) truth_sort) (c.right wide) (d.right wide) ∙ sym (ap₂ (λ i j. where_holds (are_same i j) truth_sort) c.left d.left ∙ same_number n truth_sort) ∙ q
    equal_sorted (IntKind n) a b a' b' o q c d =
        ap₂ (λ i j. where_holds (are_same i j) truth_sort) (c.right wide) (d.right wide) ∙ sym (ap₂ (λ i j. where_holds (are_same i j) truth_sort) c.left d.left ∙ same_number n truth_sort) ∙ q

    two_truths : (e e' a b a' b' : Exp) (f : Option Sort → Option Sort → Option Sort) (o : Option Sort) → sort_of g e ≡ f (sort_of g a) (sort_of g b) → sort_of h e' ≡ f (sort_of h a') (sort_of h b') → sort_of g e ≡ o →
        sort_of h a' ≡ sort_of g a → sort_of h b' ≡ sort_of g b → sort_of h e' ≡ o
    two_truths e e' a b a' b' f o p p' q x y = p' ∙ ap₂ f x y ∙ sym p ∙ q

    branches_sorted : (c a b c' a' b' : Exp) (v : View) → sort_of g (X.If c a b) ≡ sort_seen v → sort_of h c' ≡ truth_sort → sort_of g c ≡ truth_sort → sort_of g a ≡ sort_seen v → sort_of g b ≡ sort_seen v → sort_of h a' ≡ sort_given v → sort_of h b' ≡ sort_given v →
        sort_of h (X.If c' a' b') ≡ sort_given v
    branches_sorted c a b c' a' b' (AsIs o) q x y p r s t =
        ap₂ (λ i j. where_holds (is_truth i && are_same j (sort_of h b')) j) (x ∙ sym y) (s ∙ sym p) ∙ ap (λ k. where_holds (is_truth (sort_of g c) && are_same (sort_of g a) k) (sort_of g a)) (t ∙ sym r) ∙ q
    branches_sorted c a b c' a' b' (Unsigned n) q x y p r s t = ap₂ (λ i j. where_holds (is_truth i && are_same j (sort_of h b')) j) x s ∙ ap (λ k. where_holds (are_same number_sort k) number_sort) t
    branches_sorted c a b c' a' b' (Signed n) q x y p r s t = ap₂ (λ i j. where_holds (is_truth i && are_same j (sort_of h b')) j) x s ∙ ap (λ k. where_holds (are_same number_sort k) number_sort) t

    no_name : (e : Exp) → is_operator e ≡ true → IsNoName ctx.layout (global_type ctx.globals) (names_in word_sort_of at.names) (names_in sort_of_kind at.names) e
    no_name (X.Var x) i = absurd cc
    no_name e i = tt

    owned : (es as' : List Exp) → length as' ≡ length es → AllHold SortedThere (each at es (owns g es) as') → sorts_in ctx.layout (global_type ctx.globals) (names_in word_sort_of at.names) (names_in sort_of_kind at.names) h as' ≡ sorts_in ctx.layout (global_type ctx.globals) (names_in word_sort_of at.names) (names_in sort_of_kind at.names) g es
    owned [] [] n k = refl
    owned (e ∷ es) (a ∷ as') n k = ap₂ (λ o os. o ∷ os) (k.0.there.right wide) (owned es as' (one_less (length as') (length es) n) k.1)
    owned [] (a ∷ as') n k = absurd cc
    owned (e ∷ es) [] n k = absurd cc

    of_its_width : (o : Option ℕ) (f : ℕ → List Claim) (Q : Type 0) → (of_width o f).holds → AllHold SortedThere (of_width o f).parts → ((n : ℕ) → AllHold SortedThere (f n) → Q) → Q
    of_its_width None f Q i k r = absurd i
    of_its_width (Some n) f Q i k r = r n k

    row_sorted : (rule : Rule) (e : Exp) (v : View) (a : Exp) → sort_of g e ≡ sort_seen v → (expression_row g at rule e v a).holds → AllHold SortedThere (expression_row g at rule e v a).parts → sort_of h a ≡ sort_given v
    row_sorted R.Var (X.Var x) v (X.Var y) q k s = subst (λ z. sort_of h (X.Var z) ≡ sort_given v) (sym k.0) (var_sorted x v (names_in (λ k. k) at.names x) refl k.1)
    row_sorted R.Const e v a q k s = const_sorted e v a q k
    row_sorted R.Nat (X.ToNat e) (AsIs o) a q k s = of_its_width (width_in g e) (λ n. expression at e (Unsigned n) a ∷ []) (sort_of h a ≡ o) k s (λ n c. c.0.there.right wide ∙ sym (of_word_sorted g e n c.0.there.left) ∙ q)
    row_sorted R.Int (X.ToInt e) (AsIs o) a q k s = of_its_width (width_in g e) (λ n. expression at e (Signed n) a ∷ []) (sort_of h a ≡ o) k s (λ n c. c.0.there.right wide ∙ sym (of_word_sorted g e n c.0.there.left) ∙ q)
    row_sorted (R.Word k') e (AsIs o) (X.ToWord n a) q k s = word_sorted k' e o n a q k.0 s.0.there
    row_sorted R.Unat e (Unsigned n) (X.ToNat a) q k s = of_word_sorted h a n (s.0.there.right wide)
    row_sorted R.Sint e (Signed n) (X.ToInt a) q k s = of_word_sorted h a n (s.0.there.right wide)
    row_sorted R.Add (X.WordBinary Wadd a b) v (X.Arith N.Add a' b') q k s = op_sorted N.Add a b a' b' v refl k s.0.there s.1.0.there
    row_sorted R.Sub (X.WordBinary Wsub a b) v (X.Arith N.Sub a' b') q k s = op_sorted N.Sub a b a' b' v refl k s.0.there s.1.0.there
    row_sorted R.Mul (X.WordBinary Wmul a b) v (X.Arith N.Mul a' b') q k s = op_sorted N.Mul a b a' b' v refl k s.0.there s.1.0.there
    row_sorted R.Neg (X.WordUnary Wneg a) v (X.Negate a') q k s = neg_sorted a a' v k s.0.there
    row_sorted R.Udiv (X.WordBinary Wudiv a b) (Unsigned n) (X.Arith N.Div a' b') q k s = arith_sorted N.Div a' b' refl (s.0.there.right wide) (s.1.0.there.right wide)
    row_sorted R.Umod (X.WordBinary Wumod a b) (Unsigned n) (X.Arith N.Mod a' b') q k s = arith_sorted N.Mod a' b' refl (s.0.there.right wide) (s.1.0.there.right wide)
    row_sorted R.Sdiv (X.WordBinary Wsdiv a b) (Signed n) (X.Arith N.Div a' b') q k s = arith_sorted N.Div a' b' refl (s.0.there.right wide) (s.1.0.there.right wide)
    row_sorted R.Smod (X.WordBinary Wsmod a b) (Signed n) (X.Arith N.Mod a' b') q k s = arith_sorted N.Mod a' b' refl (s.0.there.right wide) (s.1.0.there.right wide)
    row_sorted R.Order (X.WordCompare Wult a b) (AsIs o) (X.Lt a' b') q k s = of_its_width (width_in g a) (λ n. expression at a (Unsigned n) a' ∷ expression at b (Unsigned n) b' ∷ []) (sort_of h (X.Lt a' b') ≡ o) k s (λ n c. order_sorted Wult a b a' b' o n q c.0.there.left c.1.0.there.left (c.0.there.right wide) (c.1.0.there.right wide))
    row_sorted R.Order (X.WordCompare Wule a b) (AsIs o) (X.Le a' b') q k s = of_its_width (width_in g a) (λ n. expression at a (Unsigned n) a' ∷ expression at b (Unsigned n) b' ∷ []) (sort_of h (X.Le a' b') ≡ o) k s (λ n c. order_sorted Wule a b a' b' o n q c.0.there.left c.1.0.there.left (c.0.there.right wide) (c.1.0.there.right wide))
    row_sorted R.Order (X.WordCompare Wslt a b) (AsIs o) (X.Lt a' b') q k s = of_its_width (width_in g a) (λ n. expression at a (Signed n) a' ∷ expression at b (Signed n) b' ∷ []) (sort_of h (X.Lt a' b') ≡ o) k s (λ n c. order_sorted Wslt a b a' b' o n q c.0.there.left c.1.0.there.left (c.0.there.right wide) (c.1.0.there.right wide))
    row_sorted R.Order (X.WordCompare Wsle a b) (AsIs o) (X.Le a' b') q k s = of_its_width (width_in g a) (λ n. expression at a (Signed n) a' ∷ expression at b (Signed n) b' ∷ []) (sort_of h (X.Le a' b') ≡ o) k s (λ n c. order_sorted Wsle a b a' b' o n q c.0.there.left c.1.0.there.left (c.0.there.right wide) (c.1.0.there.right wide))
    row_sorted (R.Eq k') (X.Eq a b) (AsIs o) (X.Eq a' b') q k s = equal_sorted k' a b a' b' o q s.0.there s.1.0.there
    row_sorted R.Zext (X.Cast X.Zext m e) (Unsigned j) a q k s = of_its_width (width_in g e) (λ n. expression at e (Unsigned n) a ∷ []) (sort_of h a ≡ number_sort) k s (λ n c. c.0.there.right wide)
    row_sorted R.Zext (X.Cast X.Zext m e) (Signed j) a q k s = of_its_width (width_in g e) (λ n. expression at e (Unsigned n) a ∷ []) (sort_of h a ≡ number_sort) k s (λ n c. c.0.there.right wide)
    row_sorted R.Sext (X.Cast X.Sext m e) (Signed j) a q k s = of_its_width (width_in g e) (λ n. expression at e (Signed n) a ∷ []) (sort_of h a ≡ number_sort) k s (λ n c. c.0.there.right wide)
    row_sorted R.Logic (X.And a b) (AsIs o) (X.And a' b') q k s =
        two_truths (X.And a b) (X.And a' b') a b a' b' (λ i j. where_holds (is_truth i && is_truth j) truth_sort) o refl refl q (s.0.there.right wide ∙ sym s.0.there.left) (s.1.0.there.right wide ∙ sym s.1.0.there.left)
    row_sorted R.Logic (X.Or a b) (AsIs o) (X.Or a' b') q k s =
        two_truths (X.Or a b) (X.Or a' b') a b a' b' (λ i j. where_holds (is_truth i && is_truth j) truth_sort) o refl refl q (s.0.there.right wide ∙ sym s.0.there.left) (s.1.0.there.right wide ∙ sym s.1.0.there.left)
    row_sorted R.Logic (X.Imp a b) (AsIs o) (X.Imp a' b') q k s =
        two_truths (X.Imp a b) (X.Imp a' b') a b a' b' (λ i j. where_holds (is_truth i && is_truth j) truth_sort) o refl refl q (s.0.there.right wide ∙ sym s.0.there.left) (s.1.0.there.right wide ∙ sym s.1.0.there.left)
    row_sorted R.Logic (X.Not a) (AsIs o) (X.Not a') q k s = ap (λ i. where_holds (is_truth i) truth_sort) (s.0.there.right wide ∙ sym s.0.there.left) ∙ q
    row_sorted R.Cond (X.If c a b) v (X.If c' a' b') q k s =
        branches_sorted c a b c' a' b' v q (s.0.there.right wide) s.0.there.left s.1.0.there.left s.1.1.0.there.left (s.1.0.there.right wide) (s.1.1.0.there.right wide)
    row_sorted R.Op e (AsIs o) a q k s =
        heads_sorted ctx.layout (global_type ctx.globals) (names_in word_sort_of at.names) (names_in sort_of_kind at.names) e a (no_name e k.0) k.1 (owned (children e) (children a) (as_many e a k.1) s) ∙ q
    row_sorted _ e v a q k s = absurd k

  pub claim_sorted : (rule : Rule) (c : Claim) → (table ctx rule c).holds → AllHold SortedThere (table ctx rule c).parts → SortedThere c
  claim_sorted rule (expression at e v a) k s = record { there = record { left = k.0; right = λ wide. row_sorted at wide rule e v a k.0 k.1 s } }
  claim_sorted rule (program at m m' ks) k s = tt

  pub expression_sorted : (at : Point) (t : Tree Rule) (e : Exp) (v : View) (a : Exp) → HasWidths (words ctx at.names).scope → Accepts (table ctx) t (expression at e v a) → sort_of (numbers ctx at.names).scope a ≡ sort_given v
  expression_sorted at t e v a wide k = (accepted_holds (table ctx) SortedThere claim_sorted t (expression at e v a) k).there.right wide
