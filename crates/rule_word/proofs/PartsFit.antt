-- What a checker needn't look at again: where a node's left side is well-sorted and of the sort that is seen, so is each part's. Only the
-- kind of an equality, of a value that is returned and of one that a loop starts from may not be of the sort that its side has; and what
-- comes after the first part of a bind is known to be well-sorted once that part is taken.
use Rattle.std.proofs.Common.{◌≡◌, ℕ, ◌&&◌, List, [], ◌∷◌, Option, Some, None, refl, sym, ap, ◌∙◌}
use Rattle.std.proofs.lemmas.Bool.{and_parts}
use Rattle.c_values.specs.Word.{Wadd, Wsub, Wmul, Wudiv, Wumod, Wsdiv, Wsmod, Wneg, WordOp, WordTest, Wult, Wule, Wslt, Wsle}
use Rattle.c_values.specs.Number as N
use Rattle.c_values.proofs.Options.{some_is}
use Rattle.expression_lang.specs.Expression as X
use Rattle.expression_lang.specs.Expression.{Exp}
use Rattle.expression_lang.specs.Sort.{Sort, Of, WordSort, TruthSort, Kind, NatKind, IntKind, Scope, sort_of, word_sort, truth_sort, word_width, is_truth, are_same, where_holds}
use Rattle.expression_lang.proofs.Inversion.{where_inv, words_inv, word_inv, width_inv, truth_inv, same_inv}
use Rattle.ac_expr.specs.Heads.{children}
use Rattle.rule_word.specs.Rule as R
use Rattle.rule_word.specs.Rule.{Rule, Context, Point, View, AsIs, Unsigned, Signed, Claim, expression}
use Rattle.rule_word.specs.Scopes.{words, sort_seen, view_for, width_in}
use Rattle.rule_word.specs.Table.{number_width, of_width, each, owns, expression_row}
use Rattle.rule_word.specs.CodeFits as fits
use Rattle.rule_word.proofs.ChildrenSorted.{AreSorted, children_sorted}

module _ (ctx : Context) where
  -- well-sorted, of the sort that is seen
  abbrev pub Fits : Point → Exp → View → Type 0
  Fits at e v = fits.Fits (words ctx at.names).scope e v

  abbrev pub ClaimFits : Claim → Type 0
  ClaimFits c = fits.ClaimFits ctx c

  abbrev pub AllFit : List Claim → Type 0
  AllFit cs = fits.AllFit ctx cs

  -- each, where those before it are taken
  abbrev pub FitInTurn : List Claim → Type 0
  FitInTurn cs = fits.FitInTurn ctx cs

  pub all_in_turn : (cs : List Claim) → AllFit cs → FitInTurn cs
  all_in_turn [] h = tt
  all_in_turn (c ∷ cs) h = (h.0, λ t k. all_in_turn cs h.1)

  -- the parts that are to be looked at: the first side of an equality
  abbrev pub looked_at : Rule → List Claim → List Claim
  looked_at (R.Eq k) (c ∷ cs) = c ∷ []
  looked_at rule cs = []

  module _ (at : Point) where
    abbrev g : Scope
    g = (words ctx at.names).scope

    pub owns_fit : (es as' : List Exp) → AreSorted g es → AllFit (each at es (owns g es) as')
    owns_fit [] as' h = tt
    owns_fit (e ∷ es) [] h = tt
    owns_fit (e ∷ es) (a ∷ as') h = ((h.0.0, h.0.1, h.0.1), owns_fit es as' h.1)

    seen_word : (v : View) (n : ℕ) (s : Sort) → sort_seen v ≡ Some s → word_sort n ≡ Some s → sort_seen v ≡ word_sort n
    seen_word v n s w i = w ∙ sym i

    -- the operands of an operation on words have its width
    both_fit : (op : WordOp) (a b : Exp) (v : View) → Fits at (X.WordBinary op a b) v → Fits at a v × Fits at b v
    both_fit op a b v f =
        let i = words_inv (word_width (sort_of g a)) (word_width (sort_of g b)) word_sort f.0 f.1 in
        let s : Of (WordSort i.0) ≡ f.0 = some_is i.3 in (
          (f.0, width_inv (sort_of g a) i.0 i.1 ∙ i.3, f.2),
          (f.0, width_inv (sort_of g b) i.0 i.2 ∙ i.3, f.2),
        )

    pair_fits : (op : WordOp) (a b a' b' : Exp) (v : View) → Fits at (X.WordBinary op a b) v → AllFit (expression at a v a' ∷ expression at b v b' ∷ [])
    pair_fits op a b a' b' v f = let r = both_fit op a b v f in (r.0, (r.1, tt))

    one_fits : (a a' : Exp) (v : View) → Fits at (X.WordUnary Wneg a) v → AllFit (expression at a v a' ∷ [])
    one_fits a a' v f = let i = word_inv (word_width (sort_of g a)) word_sort f.0 f.1 in ((f.0, width_inv (sort_of g a) i.0 i.1 ∙ i.2, f.2), tt)

    -- a word seen at its own width
    of_its_width : (e : Exp) (o : Option ℕ) (f : ℕ → List Claim) → width_in g e ≡ o → (of_width o f).holds → ((n : ℕ) → width_in g e ≡ Some n → AllFit (f n)) → AllFit (of_width o f).parts
    of_its_width e None f q h k = absurd h
    of_its_width e (Some n) f q h k = k n q

    a_word : (e : Exp) (n : ℕ) (v : View) → sort_seen v ≡ word_sort n → width_in g e ≡ Some n → Fits at e v
    a_word e n v i q = (Of (WordSort n), width_inv (sort_of g e) n q, i)

    tests_fit : (test : WordTest) (a b a' b' : Exp) (o : Option Sort) (n : ℕ) (v : View) → sort_seen v ≡ word_sort n → Fits at (X.WordCompare test a b) (AsIs o) → width_in g a ≡ Some n → AllFit (expression at a v a' ∷ expression at b v b' ∷ [])
    tests_fit test a b a' b' o n v k f q =
        let i = words_inv (word_width (sort_of g a)) (word_width (sort_of g b)) (λ m. truth_sort) f.0 f.1 in
        (a_word a n v k q, (a_word b n v k (i.2 ∙ sym i.1 ∙ q), tt))

    truths_fit : (a b : Exp) (s : Sort) → where_holds (is_truth (sort_of g a) && is_truth (sort_of g b)) truth_sort ≡ Some s → (sort_of g a ≡ truth_sort) × (sort_of g b ≡ truth_sort)
    truths_fit a b s q =
        let r = and_parts (is_truth (sort_of g a)) (is_truth (sort_of g b)) (where_inv (is_truth (sort_of g a) && is_truth (sort_of g b)) truth_sort s q).0 in
        (truth_inv (sort_of g a) r.0, truth_inv (sort_of g b) r.1)

    at_kind : (k : Kind) (n : ℕ) → number_width k ≡ Some n → sort_seen (view_for k) ≡ word_sort n
    at_kind (NatKind m) n h = ap word_sort (some_is h)
    at_kind (IntKind m) n h = ap word_sort (some_is h)
    at_kind _ n h = absurd cc

    pub children_fit : (rule : Rule) (e : Exp) (v : View) (a : Exp) → Fits at e v → (expression_row g at rule e v a).holds → AllFit (looked_at rule (expression_row g at rule e v a).parts) → AllFit (expression_row g at rule e v a).parts
    children_fit R.Var (X.Var x) v (X.Var y) f h k = tt
    children_fit R.Const e v a f h k = tt
    children_fit R.Nat (X.ToNat e) (AsIs o) a f h k = of_its_width e (width_in g e) (λ n. expression at e (Unsigned n) a ∷ []) refl h (λ n q. (a_word e n (Unsigned n) refl q, tt))
    children_fit R.Int (X.ToInt e) (AsIs o) a f h k = of_its_width e (width_in g e) (λ n. expression at e (Signed n) a ∷ []) refl h (λ n q. (a_word e n (Signed n) refl q, tt))
    children_fit (R.Word j) e (AsIs o) (X.ToWord n a) f h k = ((f.0, f.1, at_kind j n h.0 ∙ sym h.1 ∙ f.2), tt)
    children_fit R.Unat e (Unsigned n) (X.ToNat a) f h k = (f, tt)
    children_fit R.Sint e (Signed n) (X.ToInt a) f h k = (f, tt)
    children_fit R.Add (X.WordBinary Wadd a b) v (X.Arith N.Add a' b') f h k = pair_fits Wadd a b a' b' v f
    children_fit R.Sub (X.WordBinary Wsub a b) v (X.Arith N.Sub a' b') f h k = pair_fits Wsub a b a' b' v f
    children_fit R.Mul (X.WordBinary Wmul a b) v (X.Arith N.Mul a' b') f h k = pair_fits Wmul a b a' b' v f
    children_fit R.Neg (X.WordUnary Wneg a) v (X.Negate a') f h k = one_fits a a' v f
    children_fit R.Udiv (X.WordBinary Wudiv a b) (Unsigned n) (X.Arith N.Div a' b') f h k = pair_fits Wudiv a b a' b' (Unsigned n) f
    children_fit R.Umod (X.WordBinary Wumod a b) (Unsigned n) (X.Arith N.Mod a' b') f h k = pair_fits Wumod a b a' b' (Unsigned n) f
    children_fit R.Sdiv (X.WordBinary Wsdiv a b) (Signed n) (X.Arith N.Div a' b') f h k = pair_fits Wsdiv a b a' b' (Signed n) f
    children_fit R.Smod (X.WordBinary Wsmod a b) (Signed n) (X.Arith N.Mod a' b') f h k = pair_fits Wsmod a b a' b' (Signed n) f
    children_fit R.Order (X.WordCompare Wult a b) (AsIs o) (X.Lt a' b') f h k =
        of_its_width a (width_in g a) (λ n. expression at a (Unsigned n) a' ∷ expression at b (Unsigned n) b' ∷ []) refl h (λ n q. tests_fit Wult a b a' b' o n (Unsigned n) refl f q)
    children_fit R.Order (X.WordCompare Wule a b) (AsIs o) (X.Le a' b') f h k =
        of_its_width a (width_in g a) (λ n. expression at a (Unsigned n) a' ∷ expression at b (Unsigned n) b' ∷ []) refl h (λ n q. tests_fit Wule a b a' b' o n (Unsigned n) refl f q)
    children_fit R.Order (X.WordCompare Wslt a b) (AsIs o) (X.Lt a' b') f h k =
        of_its_width a (width_in g a) (λ n. expression at a (Signed n) a' ∷ expression at b (Signed n) b' ∷ []) refl h (λ n q. tests_fit Wslt a b a' b' o n (Signed n) refl f q)
    children_fit R.Order (X.WordCompare Wsle a b) (AsIs o) (X.Le a' b') f h k =
        of_its_width a (width_in g a) (λ n. expression at a (Signed n) a' ∷ expression at b (Signed n) b' ∷ []) refl h (λ n q. tests_fit Wsle a b a' b' o n (Signed n) refl f q)
    children_fit (R.Eq j) (X.Eq a b) (AsIs o) (X.Eq a' b') f h k =
        let r = same_inv (sort_of g a) (sort_of g b) (where_inv (are_same (sort_of g a) (sort_of g b)) truth_sort f.0 f.1).0 in
        (k.0, ((k.0.0, r.2 ∙ sym r.1 ∙ k.0.1, k.0.2), tt))
    children_fit R.Zext (X.Cast X.Zext m e) (Unsigned j) a f h k = of_its_width e (width_in g e) (λ n. expression at e (Unsigned n) a ∷ []) refl h (λ n q. (a_word e n (Unsigned n) refl q, tt))
    children_fit R.Zext (X.Cast X.Zext m e) (Signed j) a f h k = of_its_width e (width_in g e) (λ n. expression at e (Unsigned n) a ∷ []) refl h (λ n q. (a_word e n (Unsigned n) refl q, tt))
    children_fit R.Sext (X.Cast X.Sext m e) (Signed j) a f h k = of_its_width e (width_in g e) (λ n. expression at e (Signed n) a ∷ []) refl h (λ n q. (a_word e n (Signed n) refl q, tt))
    children_fit R.Logic (X.And a b) (AsIs o) (X.And a' b') f h k = let r = truths_fit a b f.0 f.1 in ((Of TruthSort, r.0, refl), ((Of TruthSort, r.1, refl), tt))
    children_fit R.Logic (X.Or a b) (AsIs o) (X.Or a' b') f h k = let r = truths_fit a b f.0 f.1 in ((Of TruthSort, r.0, refl), ((Of TruthSort, r.1, refl), tt))
    children_fit R.Logic (X.Imp a b) (AsIs o) (X.Imp a' b') f h k = let r = truths_fit a b f.0 f.1 in ((Of TruthSort, r.0, refl), ((Of TruthSort, r.1, refl), tt))
    children_fit R.Logic (X.Not a) (AsIs o) (X.Not a') f h k = ((Of TruthSort, truth_inv (sort_of g a) (where_inv (is_truth (sort_of g a)) truth_sort f.0 f.1).0, refl), tt)
    children_fit R.Cond (X.If c a b) v (X.If c' a' b') f h k =
        let r = where_inv (is_truth (sort_of g c) && are_same (sort_of g a) (sort_of g b)) (sort_of g a) f.0 f.1 in
        let d = and_parts (is_truth (sort_of g c)) (are_same (sort_of g a) (sort_of g b)) r.0 in
        let i = same_inv (sort_of g a) (sort_of g b) d.1 in
        ((Of TruthSort, truth_inv (sort_of g c) d.0, refl), ((f.0, r.1, f.2), ((f.0, i.2 ∙ sym i.1 ∙ r.1, f.2), tt)))
    children_fit R.Op e (AsIs o) a f h k = owns_fit (children e) (children a) (children_sorted g e f.0 f.1)
    children_fit _ e v a f h k = absurd h
