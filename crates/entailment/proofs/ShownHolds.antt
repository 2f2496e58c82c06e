-- What the rules show from facts follows from them: one case for each rule.
use Rattle.std.proofs.Common.{◌≡◌, Bool, true, false, not, ◌||◌, List, refl, sym, ap, ◌∙◌}
use Rattle.std.proofs.lemmas.Bool.{and_from, false≢true}
use Rattle.c_values.specs.Value.{Value, truth_in}
use Rattle.c_values.specs.Layout.{IsLayout, GlobalVar, global_type}
use Rattle.c_values.specs.CodeSameValue.{same_value-Decides}
use Rattle.expression_lang.specs.Expression as E
use Rattle.expression_lang.specs.Expression.{Exp, TruthLit}
use Rattle.expression_lang.specs.Evaluation.{Env, State, value, holds}
use Rattle.expression_lang.specs.Sort.{Scope, Of, TruthSort, sort_of, is_truth}
use Rattle.expression_lang.specs.States.{IsEnvironment, IsState}
use Rattle.expression_lang.proofs.Inversion.{truth_inv}
use Rattle.ac_expr.specs.Fact.{Fact, AllSay}
use Rattle.ac_expr.specs.Step.{OneStepApart}
use Rattle.ac_expr.proofs.KnownHolds.{known_holds}
use Rattle.ac_expr.proofs.StepsHold.{value_holds}
use Rattle.ac_expr.proofs.ExactSteps.{places_exact}
use Rattle.rule_trees.specs.RuleTree.{Tree, AllHold}
use Rattle.rule_trees.proofs.Induction.{holds as accepted_holds}
use Rattle.triple_lang.specs.Entail as R
use Rattle.triple_lang.specs.Entail.{Rule, Claim, shown}
use Rattle.entailment.specs.Follows.{Follows}
use Rattle.entailment.specs.Table.{row, table, Shows}
use Rattle.entailment.proofs.Sorts.{assertion_sorted, sides_sorted, ends_sorted}
use Rattle.entailment.proofs.RewrittenValues.{rewritten_value}
use Rattle.entailment.proofs.LinearHolds.{linear_holds}
use Rattle.entailment.proofs.WordRanges.{range_holds}

-- Connectives, by the truth of the first side

imp_shown : (a b : Bool) → (a ≡ true → b ≡ true) → (not a || b) ≡ true
imp_shown true b h = h refl
imp_shown false b h = refl

or_shown : (a b : Bool) → (not a ≡ true → b ≡ true) → (a || b) ≡ true
or_shown true b h = refl
or_shown false b h = h refl

not_shown : (a : Bool) → (a ≡ true → false ≡ true) → not a ≡ true
not_shown true h = h refl
not_shown false h = refl

either_way : (c b : Bool) → (c ≡ true → b ≡ true) → (not c ≡ true → b ≡ true) → b ≡ true
either_way true b h k = h refl
either_way false b h k = k refl

module _ (lifted : Bool) (g : Scope) where
  abbrev IsTruth : Exp → Type 0
  IsTruth e = is_truth (sort_of g e) ≡ true

  -- In an environment and a state that can be
  module _ (vs : List GlobalVar) (laid : IsLayout g.layout) (known : g.globals ≡ global_type vs)
      (env : Env) (s : State) (fits : IsEnvironment g env) (state : IsState g.layout vs s) where
    abbrev at : Exp → Value
    at e = value g.layout env s e

    abbrev is_met : Exp → Bool
    is_met e = holds g.layout env s e

    abbrev IsGiven : List Fact → Exp → Type 0
    IsGiven fs e = AllSay g.layout env s fs → is_met e ≡ true

    abbrev IsShown : Claim → Type 1
    IsShown (shown fs q) = Unit {1} → IsTruth q → IsGiven fs q

    same_at : (a b : Exp) → is_met (E.Eq a b) ≡ true → at a ≡ at b
    same_at a b h = (same_value-Decides (at a) (at b)).0 h

    one_step : (fs : List Fact) (q p : Exp) → OneStepApart g fs q p → IsTruth q → IsTruth p → IsGiven fs p → IsGiven fs q
    one_step fs q p h i j k said =
        let of_q = truth_inv (sort_of g q) i in
        let of_p = truth_inv (sort_of g p) j in
        ap truth_in (sym (places_exact g vs fs q p (Of TruthSort) (Of TruthSort) env s laid known fits state said of_q of_p h)) ∙ k said

    row_holds : (fs : List Fact) (rule : Rule) (q : Exp) → (row lifted g fs rule q).holds → AllHold IsShown (row lifted g fs rule q).parts →
        IsTruth q → IsGiven fs q
    row_holds fs R.Hyp q e h i said = known_holds g.layout env s fs q said e
    row_holds fs R.Same (E.Eq a b) e h i said = (same_value-Decides (at a) (at b)).1 (sym (ap at e))
    row_holds fs R.Compute q e h i said = ap truth_in (value_holds g.layout laid vs env s state q (TruthLit true) e)
    row_holds fs R.And (E.And a b) e h i said =
        let k = sides_sorted g a b i in
        let first = h.0 tt k.0 said in and_from (is_met a) (is_met b) first (h.1.0 tt k.1 (first, said))
    row_holds fs R.Imp (E.Imp a b) e h i said = imp_shown (is_met a) (is_met b) (λ c. h.0 tt (sides_sorted g a b i).1 (c, said))
    row_holds fs R.Or (E.Or a b) e h i said = or_shown (is_met a) (is_met b) (λ c. h.0 tt (sides_sorted g a b i).1 (c, said))
    row_holds fs R.Not (E.Not a) e h i said = not_shown (is_met a) (λ c. h.0 tt refl (c, said))
    row_holds fs R.Between (E.Between low a high) e h i said =
        let k = ends_sorted g low a high i in
        and_from (is_met (E.Le (E.NumberLit low) a)) (is_met (E.Le a (E.NumberLit high))) (h.0 tt k.0 said) (h.1.0 tt k.1 said)
    row_holds fs (R.Case c) q e h i said = either_way (is_met c) (is_met q) (λ j. h.0 tt i (j, said)) (λ j. h.1.0 tt i (j, said))
    row_holds fs (R.Cut c) q e h i said = h.1.0 tt i (h.0 tt (assertion_sorted g lifted c e) said, said)
    row_holds fs R.Absurd q e h i said = absurd (false≢true (h.0 tt refl said))
    row_holds fs (R.Rewrite a b p) q e h i said =
        let same = same_at a b (h.0 tt (assertion_sorted g lifted (E.Eq a b) e.0) said) in
        ap truth_in (sym (rewritten_value g.layout env s a b same q p e.2)) ∙ h.1.0 tt (assertion_sorted g lifted p e.1) said
    row_holds fs (R.Step p) q e h i said = let k = assertion_sorted g lifted p e.0 in one_step fs q p e.1 i k (h.0 tt k) said
    row_holds fs R.Range (E.Between low a high) e h i said = range_holds g vs laid known env s fits state low a high e
    row_holds fs (R.Linear n ws) q e h i said = linear_holds g fs n ws q env s e said
    row_holds _ _ _ e _ _ _ = absurd e

    preserved : (rule : Rule) (c : Claim) → (table lifted g rule c).holds → AllHold IsShown (table lifted g rule c).parts → IsShown c
    preserved rule (shown fs q) e h = λ u. row_holds fs rule q e h

    tree_holds : (t : Tree Rule) (fs : List Fact) (q : Exp) → Shows lifted g fs t q → IsTruth q → IsGiven fs q
    tree_holds t fs q h = accepted_holds (table lifted g) IsShown preserved t (shown fs q) h tt

-- what the rules of a tree show follows from the facts
pub shown_holds : (lifted : Bool) (g : Scope) (vs : List GlobalVar) → IsLayout g.layout → g.globals ≡ global_type vs →
    (t : Tree Rule) (fs : List Fact) (q : Exp) → Shows lifted g fs t q → is_truth (sort_of g q) ≡ true → Follows g vs fs q
shown_holds lifted g vs laid known t fs q h i env s fits state = tree_holds lifted g vs laid known env s fits state t fs q h i
