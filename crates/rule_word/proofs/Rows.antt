-- The claims of the table's rows as the code goes along them.
use Rattle.std.proofs.Common.{◌≡◌, ℕ, Bool, true, List, [], ◌∷◌, ◌++◌, map, Option, Some, None, refl, sym, subst, ap, ap₂, ◌∙◌}
use Rattle.c_values.specs.Word.{Wadd, Wsub, Wmul, Wudiv, Wumod, Wsdiv, Wsmod, Wneg, Wult, Wule, Wslt, Wsle}
use Rattle.c_values.specs.Number as N
use Rattle.expression_lang.specs.Expression as X
use Rattle.expression_lang.specs.Expression.{Exp}
use Rattle.expression_lang.specs.Sort.{Sort, Of, WordSort, Scope, sort_of, word_sort, truth_sort}
use Rattle.expression_lang.proofs.Inversion.{width_inv}
use Rattle.ac_expr.specs.Fact.{Whole, NotTrue}
use Rattle.ac_expr.specs.Heads.{children, head}
use Rattle.rule_word.specs.Rule as R
use Rattle.rule_word.specs.Rule.{Rule, Context, Point, View, AsIs, Unsigned, Signed, Claim, expression}
use Rattle.rule_word.specs.Scopes.{words, view_for, own, width_in}
use Rattle.rule_word.specs.Table.{knowing, is_operator, each, owns, of_width, expression_row, truth, constant}
use Rattle.rule_word.specs.LeftWidth.{left_width}
use Rattle.rule_word.specs.CodeFits as fits
use Rattle.rule_word.specs.CodeFits.{Fits, AllFit, FitInTurn}
use Rattle.rule_word.specs.CodeClaims.{again, or_zero, firsts, lefts, exp_pairs, exp_thens, looks}
use Rattle.rule_word.proofs.LeftWidths.{left_width_is}
use Rattle.rule_word.proofs.ChildrenSorted.{children_sorted}
use Rattle.rule_word.proofs.PartsFit.{children_fit, looked_at, all_in_turn}

pub no_more : (cs : List Claim) → cs ≡ cs ++ []
no_more [] = refl
no_more (c ∷ cs) = ap (λ ds. c ∷ ds) (no_more cs)

pub owns_map : (g : Scope) (es : List Exp) → owns g es ≡ map (λ d. own g d) es
owns_map g [] = refl
owns_map g (e ∷ es) = ap (λ vs. own g e ∷ vs) (owns_map g es)

-- what fits is seen in the way that its sort and the whole's view say
pub again_is : (g : Scope) (d : Exp) (v : View) → Fits g d v → again g v d ≡ v
again_is g d (AsIs o) h = ap (λ q. AsIs q) (h.1 ∙ sym h.2)
again_is _ _ _ _ = refl

pub own_is : (g : Scope) (d : Exp) (o : Option Sort) → Fits g d (AsIs o) → own g d ≡ AsIs o
own_is g d o h = ap (λ q. AsIs q) (h.1 ∙ sym h.2)

width_is : (g : Scope) (e : Exp) (n : ℕ) → width_in g e ≡ Some n → or_zero (left_width g e) ≡ n
width_is g e n h = ap or_zero (sym (left_width_is g e (Of (WordSort n)) (width_inv (sort_of g e) n h)))

literal_bare : (v : View) (e a : Exp) → constant v e ≡ Some a → firsts e ≡ []
literal_bare v (X.WordLit w) a h = refl
literal_bare v (X.NumberLit w) a h = refl
literal_bare v (X.TruthLit w) a h = refl
literal_bare (AsIs o) e a h = absurd cc
literal_bare _ e a h = absurd cc

module _ (g : Scope) (at : Point) where
  literal_thens : (v : View) (e a : Exp) → constant v e ≡ Some a → exp_thens g at e v a ≡ []
  literal_thens v (X.WordLit w) a h = refl
  literal_thens v (X.NumberLit w) a h = refl
  literal_thens v (X.TruthLit w) a h = refl
  literal_thens (AsIs o) e a h = absurd cc
  literal_thens _ e a h = absurd cc

  -- nothing is under more facts where the right side has one operand
  word_thens : (e : Exp) (v : View) (n : ℕ) (a : Exp) → exp_thens g at e v (X.ToWord n a) ≡ []
  word_thens (X.And a b) v n d = refl
  word_thens _ _ _ _ = refl

  nat_thens : (e : Exp) (v : View) (a : Exp) → exp_thens g at e v (X.ToNat a) ≡ []
  nat_thens (X.And a b) v d = refl
  nat_thens _ _ _ = refl

  int_thens : (e : Exp) (v : View) (a : Exp) → exp_thens g at e v (X.ToInt a) ≡ []
  int_thens (X.And a b) v d = refl
  int_thens _ _ _ = refl

  -- of a head that other rules are for nothing is left
  plain_firsts : (a : Exp) → is_operator a ≡ true → firsts a ≡ children a
  plain_firsts (X.And a b) h = absurd cc
  plain_firsts (X.Or a b) h = absurd cc
  plain_firsts (X.Imp a b) h = absurd cc
  plain_firsts (X.If c a b) h = absurd cc
  plain_firsts a h = refl

  plain_thens : (a b : Exp) (v : View) → is_operator a ≡ true → exp_thens g at a v b ≡ []
  plain_thens (X.And a b) e v h = absurd cc
  plain_thens (X.Or a b) e v h = absurd cc
  plain_thens (X.Imp a b) e v h = absurd cc
  plain_thens (X.If c a b) e v h = absurd cc
  plain_thens a e v h = refl

  head_operator : (a : Exp) → is_operator (head a) ≡ is_operator a
  head_operator (X.Var x) = refl
  head_operator a = refl

  op_parts : (e a : Exp) (v : View) → is_operator e ≡ true → head a ≡ head e →
      each at (children e) (owns g (children e)) (children a) ≡ each at (firsts e) (map (λ d. own g d) (firsts e)) (firsts a) ++ exp_thens g at e v a
  op_parts e a v h k =
      let other : is_operator a ≡ true = sym (head_operator a) ∙ ap is_operator k ∙ head_operator e ∙ h in
      ap (λ vs. each at (children e) vs (children a)) (owns_map g (children e))
      ∙ sym (ap₂ (λ es as'. each at es (map (λ d. own g d) es) as') (plain_firsts e h) (plain_firsts a other))
      ∙ no_more _ ∙ ap (λ cs. each at (firsts e) (map (λ d. own g d) (firsts e)) (firsts a) ++ cs) (sym (plain_thens e a v h))

  const_parts : (e a : Exp) (v : View) → firsts e ≡ [] → exp_thens g at e v a ≡ [] → [] ≡ each at (firsts e) (map (λ d. again g v d) (firsts e)) (firsts a) ++ exp_thens g at e v a
  const_parts e a v h k = sym (ap₂ (λ es cs. each at es (map (λ d. again g v d) es) (firsts a) ++ cs) h k)

  at_width : (e a : Exp) (o : Option ℕ) (f : ℕ → View) → width_in g e ≡ o → (of_width o (λ n. expression at e (f n) a ∷ [])).holds →
      (of_width o (λ n. expression at e (f n) a ∷ [])).parts ≡ expression at e (f (or_zero (left_width g e))) a ∷ []
  at_width e a None f q h = absurd h
  at_width e a (Some n) f q h = ap (λ m. expression at e (f m) a ∷ []) (sym (width_is g e n q))

  at_widths : (a b a' b' : Exp) (o : Option ℕ) (f : ℕ → View) → width_in g a ≡ o → (of_width o (λ n. expression at a (f n) a' ∷ expression at b (f n) b' ∷ [])).holds →
      (of_width o (λ n. expression at a (f n) a' ∷ expression at b (f n) b' ∷ [])).parts
      ≡ expression at a (f (or_zero (left_width g a))) a' ∷ expression at b (f (or_zero (left_width g a))) b' ∷ []
  at_widths a b a' b' None f q h = absurd h
  at_widths a b a' b' (Some n) f q h = ap (λ m. expression at a (f m) a' ∷ expression at b (f m) b' ∷ []) (sym (width_is g a n q))

  one_same : (p q : Point) (d a : Exp) (v w : View) → w ≡ v → expression p d v a ∷ [] ≡ expression p d w a ∷ []
  one_same p q d a v w h = ap (λ u. expression p d u a ∷ []) (sym h)

  two_same : (p q : Point) (d d' a a' : Exp) (v v' w w' : View) → w ≡ v → w' ≡ v' → expression p d v a ∷ expression q d' v' a' ∷ [] ≡ expression p d w a ∷ expression q d' w' a' ∷ []
  two_same p q d d' a a' v v' w w' h k = ap₂ (λ u u'. expression p d u a ∷ expression q d' u' a' ∷ []) (sym h) (sym k)

module _ (ctx : Context) (at : Point) where
  abbrev pub g : Scope
  g = (words ctx at.names).scope

  -- the parts of a rule whose parts all fit
  abbrev pub Parts : Rule → Exp → View → Exp → Type 0
  Parts rule e v a = (expression_row g at rule e v a).parts ≡ exp_pairs g at rule e v a ++ exp_thens g at e v a

  pair_parts : (a b a' b' : Exp) (v : View) → AllFit ctx (expression at a v a' ∷ expression at b v b' ∷ []) →
      expression at a v a' ∷ expression at b v b' ∷ [] ≡ expression at a (again g v a) a' ∷ expression at b (again g v b) b' ∷ []
  pair_parts a b a' b' v f = two_same g at at at a b a' b' v v (again g v a) (again g v b) (again_is g a v f.0) (again_is g b v f.1.0)

  pub exp_parts : (rule : Rule) (e : Exp) (v : View) (a : Exp) → Fits g e v → (expression_row g at rule e v a).holds → Parts rule e v a
  exp_parts R.Var (X.Var x) v (X.Var y) f h = refl
  exp_parts R.Const e v a f h = const_parts g at e a v (literal_bare v e a h) (literal_thens g at v e a h)
  exp_parts R.Nat (X.ToNat e) (AsIs o) a f h = at_width g at e a (width_in g e) (λ n. Unsigned n) refl h
  exp_parts R.Int (X.ToInt e) (AsIs o) a f h = at_width g at e a (width_in g e) (λ n. Signed n) refl h
  exp_parts (R.Word j) e (AsIs o) (X.ToWord n a) f h =
      let r = children_fit ctx at (R.Word j) e (AsIs o) (X.ToWord n a) f h tt in
      one_same g at at at e a (view_for j) (again g (view_for j) e) (again_is g e (view_for j) r.0) ∙ ap (λ cs. expression at e (again g (view_for j) e) a ∷ cs) (sym (word_thens g at e (AsIs o) n a))
  exp_parts R.Unat e (Unsigned n) (X.ToNat a) f h =
      one_same g at at at e a (AsIs (word_sort n)) (own g e) (own_is g e (word_sort n) f) ∙ ap (λ cs. expression at e (own g e) a ∷ cs) (sym (nat_thens g at e (Unsigned n) a))
  exp_parts R.Sint e (Signed n) (X.ToInt a) f h =
      one_same g at at at e a (AsIs (word_sort n)) (own g e) (own_is g e (word_sort n) f) ∙ ap (λ cs. expression at e (own g e) a ∷ cs) (sym (int_thens g at e (Signed n) a))
  exp_parts R.Add (X.WordBinary Wadd a b) v (X.Arith N.Add a' b') f h =
      pair_parts a b a' b' v (children_fit ctx at R.Add (X.WordBinary Wadd a b) v (X.Arith N.Add a' b') f h tt)
  exp_parts R.Sub (X.WordBinary Wsub a b) v (X.Arith N.Sub a' b') f h =
      pair_parts a b a' b' v (children_fit ctx at R.Sub (X.WordBinary Wsub a b) v (X.Arith N.Sub a' b') f h tt)
  exp_parts R.Mul (X.WordBinary Wmul a b) v (X.Arith N.Mul a' b') f h =
      pair_parts a b a' b' v (children_fit ctx at R.Mul (X.WordBinary Wmul a b) v (X.Arith N.Mul a' b') f h tt)
  exp_parts R.Neg (X.WordUnary Wneg a) v (X.Negate a') f h =
      let r = children_fit ctx at R.Neg (X.WordUnary Wneg a) v (X.Negate a') f h tt in one_same g at at at a a' v (again g v a) (again_is g a v r.0)
  exp_parts R.Udiv (X.WordBinary Wudiv a b) (Unsigned n) (X.Arith N.Div a' b') f h = refl
  exp_parts R.Umod (X.WordBinary Wumod a b) (Unsigned n) (X.Arith N.Mod a' b') f h = refl
  exp_parts R.Sdiv (X.WordBinary Wsdiv a b) (Signed n) (X.Arith N.Div a' b') f h = refl
  exp_parts R.Smod (X.WordBinary Wsmod a b) (Signed n) (X.Arith N.Mod a' b') f h = refl
  exp_parts R.Order (X.WordCompare Wult a b) (AsIs o) (X.Lt a' b') f h = at_widths g at a b a' b' (width_in g a) (λ n. Unsigned n) refl h
  exp_parts R.Order (X.WordCompare Wule a b) (AsIs o) (X.Le a' b') f h = at_widths g at a b a' b' (width_in g a) (λ n. Unsigned n) refl h
  exp_parts R.Order (X.WordCompare Wslt a b) (AsIs o) (X.Lt a' b') f h = at_widths g at a b a' b' (width_in g a) (λ n. Signed n) refl h
  exp_parts R.Order (X.WordCompare Wsle a b) (AsIs o) (X.Le a' b') f h = at_widths g at a b a' b' (width_in g a) (λ n. Signed n) refl h
  exp_parts (R.Eq j) (X.Eq a b) (AsIs o) (X.Eq a' b') f h = refl
  exp_parts R.Zext (X.Cast X.Zext m e) (Unsigned j) a f h = at_width g at e a (width_in g e) (λ n. Unsigned n) refl h
  exp_parts R.Zext (X.Cast X.Zext m e) (Signed j) a f h = at_width g at e a (width_in g e) (λ n. Unsigned n) refl h
  exp_parts R.Sext (X.Cast X.Sext m e) (Signed j) a f h = at_width g at e a (width_in g e) (λ n. Signed n) refl h
  exp_parts R.Logic (X.And a b) (AsIs o) (X.And a' b') f h =
      let r = children_fit ctx at R.Logic (X.And a b) (AsIs o) (X.And a' b') f h tt in
      two_same g at at (knowing (Whole a') at) a b a' b' truth truth (own g a) (own g b) (own_is g a truth_sort r.0) (own_is g b truth_sort r.1.0)
  exp_parts R.Logic (X.Or a b) (AsIs o) (X.Or a' b') f h =
      let r = children_fit ctx at R.Logic (X.Or a b) (AsIs o) (X.Or a' b') f h tt in
      two_same g at at (knowing (NotTrue a') at) a b a' b' truth truth (own g a) (own g b) (own_is g a truth_sort r.0) (own_is g b truth_sort r.1.0)
  exp_parts R.Logic (X.Imp a b) (AsIs o) (X.Imp a' b') f h =
      let r = children_fit ctx at R.Logic (X.Imp a b) (AsIs o) (X.Imp a' b') f h tt in
      two_same g at at (knowing (Whole a') at) a b a' b' truth truth (own g a) (own g b) (own_is g a truth_sort r.0) (own_is g b truth_sort r.1.0)
  exp_parts R.Logic (X.Not a) (AsIs o) (X.Not a') f h =
      let r = children_fit ctx at R.Logic (X.Not a) (AsIs o) (X.Not a') f h tt in one_same g at at at a a' truth (own g a) (own_is g a truth_sort r.0)
  exp_parts R.Cond (X.If c a b) v (X.If c' a' b') f h =
      let r = children_fit ctx at R.Cond (X.If c a b) v (X.If c' a' b') f h tt in
      ap₂ (λ u cs. expression at c u c' ∷ cs) (sym (own_is g c truth_sort r.0))
      (two_same g at (knowing (Whole c') at) (knowing (NotTrue c') at) a b a' b' v v (again g v a) (again g v b) (again_is g a v r.1.0) (again_is g b v r.1.1.0))
  exp_parts R.Op e (AsIs o) a f h = op_parts g at e a (AsIs o) h.0 h.1
  exp_parts _ e v a f h = absurd h

  -- the pairs, whose sorts are to be looked at or aren't
  abbrev pub AreReady : Bool → List Exp → List Claim → Type 0
  AreReady b es cs = fits.AreReady ctx g b es cs

  first_fit : (cs ds : List Claim) → AllFit ctx (cs ++ ds) → AllFit ctx cs
  first_fit [] ds h = tt
  first_fit (c ∷ cs) ds h = (h.0, first_fit cs ds h.1)

  all_fit : (rule : Rule) (e : Exp) (v : View) (a : Exp) → Fits g e v → (expression_row g at rule e v a).holds → AllFit ctx (looked_at ctx rule (expression_row g at rule e v a).parts) →
      AllFit ctx (exp_pairs g at rule e v a ++ exp_thens g at e v a)
  all_fit rule e v a f h k = subst (λ cs. AllFit ctx cs) (exp_parts rule e v a f h) (children_fit ctx at rule e v a f h k)

  pub exp_ready : (rule : Rule) (e : Exp) (v : View) (a : Exp) → Fits g e v → (expression_row g at rule e v a).holds → AreReady (looks rule) (lefts rule e) (exp_pairs g at rule e v a)
  exp_ready (R.Eq k) (X.Eq a b) (AsIs o) (X.Eq a' b') f h = children_sorted g (X.Eq a b) f.0 f.1
  exp_ready (R.Eq k) e v a f h = absurd h
  exp_ready rule e v a f h = first_fit (exp_pairs g at rule e v a) (exp_thens g at e v a) (all_fit rule e v a f h tt)

  pub exp_in_turn : (rule : Rule) (e : Exp) (v : View) (a : Exp) → Fits g e v → (expression_row g at rule e v a).holds → AllFit ctx (exp_pairs g at rule e v a) →
      FitInTurn ctx (exp_pairs g at rule e v a ++ exp_thens g at e v a)
  exp_in_turn (R.Eq k) (X.Eq a b) (AsIs o) (X.Eq a' b') f h i =
      all_in_turn ctx (exp_pairs g at (R.Eq k) (X.Eq a b) (AsIs o) (X.Eq a' b') ++ []) (all_fit (R.Eq k) (X.Eq a b) (AsIs o) (X.Eq a' b') f h (i.0, tt))
  exp_in_turn (R.Eq k) e v a f h i = absurd h
  exp_in_turn rule e v a f h i = all_in_turn ctx (exp_pairs g at rule e v a ++ exp_thens g at e v a) (all_fit rule e v a f h tt)
