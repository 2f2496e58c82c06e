-- The code finds the sum of inequalities exactly where all is narrow on the way, and it is the sum.
use Rattle.std.proofs.Common.{◌≡◌, Bool, true, List, [], ◌∷◌, Option, Some, ℤ, ◌+ℤ◌, ap₂, refl, ◌∙◌}
use Rattle.std.proofs.lemmas.Bool.{and_parts}
use Rattle.expression_lang.specs.Expression.{Exp}
use Rattle.expression_lang.specs.Sort.{Scope}
use Rattle.ac_expr.specs.Fact.{Fact}
use Rattle.triple_lang.specs.Entail.{Weighed}
use Rattle.entailment.specs.Linear.{Place, Constant, Unknown, stated, times, IsTaken, plus, total, AreTaken}
use Rattle.entailment.specs.CodeSums.{times_found, each_in, added, added_all, each_in_all, AllMayTake}
use Rattle.entailment.proofs.Narrowed.{IsThere, IsAllThere, Finds, two_there, there_two, all_two}
use Rattle.entailment.proofs.AbsentUnknowns.{IsGone, two_absent}
use Rattle.entailment.proofs.FoundInequalities.{times_all, times_is, all_times, times_absent}
use Rattle.entailment.proofs.MayWeigh.{weighs, weighed}

abbrev times_of : Weighed → Place → ℤ
times_of w k = times w.weight (stated w.fact) k

abbrev times_found_of : Weighed → Place → Option ℤ
times_found_of w k = times_found w.weight (stated w.fact) k

plus_is : (w : Weighed) (f : Place → ℤ) (o : Place → Option ℤ) → Finds o f → Finds (λ k. added (o k) w k) (plus f w)
plus_is w f o i k m h =
    let t = two_there (λ x y. x +ℤ y) (o k) (times_found_of w k) m h in
    t.5 ∙ ap₂ (λ x y. x +ℤ y) (i k t.0 t.2) (times_is w.weight (stated w.fact) k t.1 t.3)

pub total_is : (ws : List Weighed) (f : Place → ℤ) (o : Place → Option ℤ) → Finds o f → Finds (λ k. added_all (o k) ws k) (total f ws)
total_is [] f o i = i
total_is (w ∷ ws) f o i = total_is ws (plus f w) (λ k. added (o k) w k) (plus_is w f o i)

pub total_there : (ws : List Weighed) (o : Option ℤ) (k : Place) → IsThere (added_all o ws k) → IsThere o
total_there [] o k h = h
total_there (w ∷ ws) o k h =
    let i = total_there ws (added o w k) k h in
    let t = two_there (λ x y. x +ℤ y) o (times_found_of w k) i.0 i.1 in (t.0, t.2)

module _ (test : Exp → Bool) (u : Exp) where
  pub total_absent : (ws : List Weighed) (o p : Option ℤ) → IsThere (added_all o ws Constant) → each_in_all test ws ≡ true → IsGone test u p
      → IsGone test u (added_all p ws (Unknown u))
  total_absent [] o p h a q = q
  total_absent (w ∷ ws) o p h a q =
      let i = total_there ws (added o w Constant) Constant h in
      let t = two_there (λ x y. x +ℤ y) o (times_found_of w Constant) i.0 i.1 in
      let each = and_parts (each_in test (stated w.fact)) (each_in_all test ws) a in
      let one = times_absent w.weight test u (stated w.fact) (t.1, t.3) each.0 in
      let sum = two_absent test u (λ x y. x +ℤ y) p (times_found_of w (Unknown u)) refl q one in
      total_absent ws (added o w Constant) (added p w (Unknown u)) h each.1 sum

module _ (g : Scope) (fs : List Fact) where
  pub total_all : (ws : List Weighed) (f : Place → ℤ) → AreTaken g fs f ws → (k : Place) (o : Option ℤ) → o ≡ Some (f k)
      → added_all o ws k ≡ Some (total f ws k)
  total_all [] f t k o h = h
  total_all (w ∷ ws) f t k o h =
      let one = times_all w.weight (stated w.fact) t.0.fine k in
      total_all ws (plus f w) t.2 k (added o w k) (there_two (λ x y. x +ℤ y) o (times_found_of w k) (f k) (times_of w k) h one (t.1 k))

  pub taken_may : (ws : List Weighed) (f : Place → ℤ) → AreTaken g fs f ws → AllMayTake g fs ws
  taken_may [] f t = tt
  taken_may (w ∷ ws) f t = ((t.0.known, weighs g w.weight w.fact (t.0.numbers, t.0.weight)), taken_may ws (plus f w) t.2)

  pub all_total : (ws : List Weighed) (f : Place → ℤ) (o : Place → Option ℤ) → Finds o f → AllMayTake g fs ws → IsAllThere (λ k. added_all (o k) ws k)
      → IsAllThere o × AreTaken g fs f ws
  all_total [] f o i m h = (h, tt)
  all_total (w ∷ ws) f o i m h =
      let rest = all_total ws (plus f w) (λ k. added (o k) w k) (plus_is w f o i) m.1 h in
      let t = all_two (λ k x y. x +ℤ y) o (times_found_of w) f (times_of w) i (times_is w.weight (stated w.fact)) rest.0 in
      let weight = weighed g w.weight w.fact m.0.1 in
      let taken : IsTaken g fs w = record { known = m.0.0; numbers = weight.0; weight = weight.1; fine = all_times w.weight (stated w.fact) t.1 } in
      (t.0, (taken, t.2, rest.1))
