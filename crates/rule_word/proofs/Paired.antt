-- What is left of pairs of expressions.
use Rattle.std.proofs.Common.{◌≡◌, ◌≤◌, ◌+◌, ℕ, suc, Bool, true, false, List, [], ◌∷◌, ◌++◌, length, Result, Ok, Err, refl, sym, subst, ap, ap₂, ◌∙◌, arith}
use Rattle.expression_lang.specs.Expression.{Exp}
use Rattle.expression_lang.specs.Sort.{Scope}
use Rattle.rule_trees.specs.declared.tree.Tree as T
use Rattle.rule_trees.specs.RuleTree.{Checked, AllChecked}
use Rattle.rule_trees.specs.CodeTree.{trees_in}
use Rattle.rule_trees.specs.CodeNodes.{nodes_in}
use Rattle.rule_word.specs.declared.rule.Rule as R
use Rattle.rule_word.specs.declared.rule.Context as C
use Rattle.rule_word.specs.declared.rule.Point as P
use Rattle.rule_word.specs.declared.rule.View as V
use Rattle.rule_parts.specs.declared.exps.Exps as X
use Rattle.rule_word.specs.declared.claims.Views as W
use Rattle.rule_word.specs.declared.claims.Seen as S
use Rattle.rule_word.specs.Rule.{Point, View, Claim, expression}
use Rattle.rule_word.specs.Table.{each}
use Rattle.rule_word.specs.CodeFits.{Fits, AreReady, ClaimFits, AllFit, FitInTurn}
use Rattle.rule_word.specs.CodeRule.{rule_of, tree_of, context_in, table_at}
use Rattle.rule_word.specs.CodeKinds.{point_in, scope_at}
use Rattle.rule_word.specs.CodeParts.{seen_in, views_in, looks_at, looks_in, pairs_at}
use Rattle.rule_parts.specs.CodeExps.{exps_in}
use Rattle.rule_word.specs.CodeRows.{FitsAt, claim_at}
use Rattle.rule_word.specs.CodeFront.{IsReady, AreReadyAt, IsLast}
use Rattle.rule_word.proofs.Walked as walked

no_more : (cs : List Claim) → cs ++ [] ≡ cs
no_more [] = refl
no_more (c ∷ cs) = ap (λ ds. c ∷ ds) (no_more cs)

pub nothing : {A : Type 0} (xs : List A) → length xs ≡ 0 → xs ≡ []
nothing [] e = refl
nothing (x ∷ xs) e = absurd (omega arith)

module _ (c : C.Context) (p : P.Point) where
  abbrev g : Scope
  g = scope_at c p

  abbrev at : Point
  at = point_in p

  no_exps : (es : List Exp) (vs : List View) → each at es vs [] ≡ []
  no_exps [] vs = refl
  no_exps (e ∷ es) [] = refl
  no_exps (e ∷ es) (v ∷ vs) = refl

  -- no pair is left
  pub none_left : (l : X.Exps) (w : W.Views) (r : X.Exps) → exps_in l ≡ [] → pairs_at (context_in c) at l w r ≡ []
  none_left l w r h = ap (λ es. each at es (views_in g es w) (exps_in r)) h

  pub none_right : (l : X.Exps) (w : W.Views) (r : X.Exps) → exps_in r ≡ [] → pairs_at (context_in c) at l w r ≡ []
  none_right l w r h = ap (λ as'. each at (exps_in l) (views_in g (exps_in l) w) as') h ∙ no_exps (exps_in l) (views_in g (exps_in l) w)

  by_seen : (s : S.Seen) (e : Exp) (es : List Exp) (a : Exp) (cs : List Claim) → AreReady (context_in c) g (looks_at s) (e ∷ es) (expression at e (seen_in g e s) a ∷ cs) → IsReady g e s
  by_seen (S.TheVariants.As v) e es a cs h = h.0
  by_seen (S.TheVariants.At k) e es a cs h = h.0

  by_rest : (b : Bool) (e : Exp) (es : List Exp) (d : Claim) (cs : List Claim) → AreReady (context_in c) g b (e ∷ es) (d ∷ cs) → AreReady (context_in c) g b es cs
  by_rest true e es d cs h = h.1
  by_rest false e es d cs h = h.1

  -- a left side that hasn't the sort
  not_fitting : (s : S.Seen) (e : Exp) → IsReady g e s → (Fits g e (seen_in g e s) → ⊥) → walked.HasSort g e (seen_in g e s) → ⊥
  not_fitting (S.TheVariants.As v) e h f i = f h
  not_fitting (S.TheVariants.At k) e h f i = f (h.0, h.1, sym i ∙ h.1)

  pub seen_bad : (t : T.Tree R.Rule) (s : S.Seen) (e a : Exp) (n : ℕ) → IsReady g e s → (Fits g e (seen_in g e s) → ⊥) → Checked (table_at c) (tree_of t) (expression at e (seen_in g e s) a) n (Err n)
  seen_bad t s e a n h f = walked.refused c t (expression at e (seen_in g e s) a) false n refl (λ i. absurd (not_fitting s e h f i.0))

  module _ (l l' : X.Exps) (w w' : W.Views) (r r' : X.Exps) (e a : Exp) (s : S.Seen) (lefts : exps_in l ≡ e ∷ exps_in l') (rights : exps_in r ≡ a ∷ exps_in r')
      (views : (h : Scope) (d : Exp) (es : List Exp) → views_in h (d ∷ es) w ≡ seen_in h d s ∷ views_in h es w') where
    pub pairs_more : pairs_at (context_in c) at l w r ≡ expression at e (seen_in g e s) a ∷ pairs_at (context_in c) at l' w' r'
    pairs_more =
        ap₂ (λ es as'. each at es (views_in g es w) as') lefts rights ∙ ap (λ vs. each at (e ∷ exps_in l') vs (a ∷ exps_in r')) (views g e (exps_in l'))

    opened : AreReadyAt c p l w r → AreReady (context_in c) g (looks_in w) (e ∷ exps_in l') (expression at e (seen_in g e s) a ∷ pairs_at (context_in c) at l' w' r')
    opened h =
        subst (λ cs. AreReady (context_in c) g (looks_in w) (e ∷ exps_in l') cs) pairs_more
        (subst (λ es. AreReady (context_in c) g (looks_in w) es (pairs_at (context_in c) at l w r)) lefts h)

    pub first_ready : looks_at s ≡ looks_in w → AreReadyAt c p l w r → IsReady g e s
    first_ready i h =
        by_seen s e (exps_in l') a (pairs_at (context_in c) at l' w' r')
        (subst (λ b. AreReady (context_in c) g b (e ∷ exps_in l') (expression at e (seen_in g e s) a ∷ pairs_at (context_in c) at l' w' r')) (sym i) (opened h))

    pub rest_ready : looks_in w' ≡ looks_in w → AreReadyAt c p l w r → AreReadyAt c p l' w' r'
    rest_ready i h =
        subst (λ b. AreReady (context_in c) g b (exps_in l') (pairs_at (context_in c) at l' w' r')) (sym i)
        (by_rest (looks_in w) e (exps_in l') (expression at e (seen_in g e s) a) (pairs_at (context_in c) at l' w' r') (opened h))

-- where the walk has come to, of a row's pairs
pub record IsWalked (c : C.Context) (ts : List (T.Tree R.Rule)) (before : List Claim) (from : ℕ) (rest : List (T.Tree R.Rule)) (now : List Claim) (n : ℕ) : Type 0 where
  pub decides : (ds : List Claim) (r : Result ℕ ℕ) → AllChecked (table_at c) (trees_in rule_of rest) (now ++ ds) n r → AllChecked (table_at c) (trees_in rule_of ts) (before ++ ds) from r
  pub fit : AllFit (context_in c) now → AllFit (context_in c) before
  pub turn : (ds : List Claim) → FitInTurn (context_in c) (before ++ ds) → FitInTurn (context_in c) (now ++ ds)
  pub count : length rest + length before ≡ length ts + length now
  pub enough : length now ≤ length rest
  pub fewer : nodes_in (trees_in rule_of rest) ≤ nodes_in (trees_in rule_of ts)

module _ (c : C.Context) (ts : List (T.Tree R.Rule)) (before : List Claim) (from : ℕ) (rest : List (T.Tree R.Rule)) (now : List Claim) (n : ℕ) (w : IsWalked c ts before from rest now n)
    (part : T.Tree R.Rule) (behind : List (T.Tree R.Rule)) (claim : Claim) (more : List Claim) (trees : rest ≡ part ∷ behind) (claims : now ≡ claim ∷ more) where
  pub walk_bad : (m : ℕ) → Checked (table_at c) (tree_of part) claim n (Err m) → (ds : List Claim) → AllChecked (table_at c) (trees_in rule_of ts) (before ++ ds) from (Err m)
  walk_bad m h ds = w.decides ds (Err m) (walked.bad c part behind rest claim more now trees claims ds n m h)

  pub walk_on : (m : ℕ) → ClaimFits (context_in c) claim → Checked (table_at c) (tree_of part) claim n (Ok m) → IsWalked c ts before from behind more m
  walk_on m f h =
      let counted = w.count in
      let enough = w.enough in
      let one : length rest ≡ suc (length behind) = ap length trees in
      let two : length now ≡ suc (length more) = ap length claims in record {
        decides = λ ds r k. w.decides ds r (walked.another c part behind rest claim more now trees claims ds n m r h k);
        fit = λ k. w.fit (walked.all_fit c part behind rest claim more now trees claims f k);
        turn = λ ds k. walked.onwards c part behind rest claim more now trees claims ds n m h (w.turn ds k);
        count = omega arith;
        enough = omega arith;
        fewer = (walked.fewer c part behind rest claim more now trees claims (nodes_in (trees_in rule_of ts)) w.fewer).0;
      }

  pub walk_last : (p : P.Point) (e : Exp) (v : V.View) (a : Exp) → claim ≡ claim_at c p e v a → behind ≡ [] → FitsAt c p e v → IsLast c p ts before from part e v a n
  walk_last p e v a k i f =
      let counted = w.count in
      let enough = w.enough in
      let none : length behind ≡ 0 = ap length i in
      let one : length rest ≡ suc (length behind) = ap length trees in
      let two : length now ≡ suc (length more) = ap length claims in
      let few : length more ≡ 0 = omega arith in record {
        decides = λ r h. subst (λ cs. AllChecked (table_at c) (trees_in rule_of ts) cs from r) (no_more before)
            (w.decides [] r (subst (λ cs. AllChecked (table_at c) (trees_in rule_of rest) cs n r) (sym (no_more now))
            (walked.alone c part behind rest claim more now trees claims n r i (nothing more few) (subst (λ d. Checked (table_at c) (tree_of part) d n r) (sym k) h))));
        fits = f;
        count = omega arith;
        fewer = (walked.fewer c part behind rest claim more now trees claims (nodes_in (trees_in rule_of ts)) w.fewer).1;
      }
