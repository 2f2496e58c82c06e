-- What linear arithmetic shows from facts that hold, holds: else the opposite of the claim would hold, and all that are taken would
-- sum up to at most 0.
use Rattle.std.proofs.Common.{◌≡◌, true, false, List, [], ◌∷◌, ◌++◌, ℤ, pos, ◌≤ℤ◌, arith}
use Rattle.std.proofs.lemmas.Bool.{true_from_ne_false}
use Rattle.std.proofs.lemmas.Int.{ints}
use Rattle.expression_lang.specs.Expression.{Exp}
use Rattle.expression_lang.specs.Evaluation.{Env, State, holds}
use Rattle.expression_lang.specs.Sort.{Scope}
use Rattle.ac_expr.specs.Fact.{Fact, AllSay}
use Rattle.ac_expr.proofs.KnownHolds.{known_holds}
use Rattle.triple_lang.specs.Entail.{Weighed}
use Rattle.entailment.specs.Linear.{Place, stated, opposite, times, plus, total, AreTaken, IsLinear}
use Rattle.entailment.proofs.LinearForms.{worth-add, worth-constant}
use Rattle.entailment.proofs.Distinct.{distinct}
use Rattle.entailment.proofs.Unknowns.{AreAmong, first_among, last_among, number_at, summed}
use Rattle.entailment.proofs.Excess.{unknowns_in, unknowns_of, fact_at_most, opposite_at_most}

module _ (g : Scope) (fs : List Fact) (env : Env) (s : State) (say : AllSay g.layout env s fs) where
  abbrev number : Exp → ℤ
  number e = number_at g.layout env s e

  module _ (us : List Exp) where
    abbrev sum : (Place → ℤ) → ℤ
    sum f = summed g.layout env s us f

    total_at_most : (ws : List Weighed) (f : Place → ℤ) → (sum f ≤ℤ pos 0) → AreAmong (unknowns_of ws) us → AreTaken g fs f ws → sum (total f ws) ≤ℤ pos 0
    total_at_most [] f p h t = p
    total_at_most (w ∷ ws) f p h t =
        let these = unknowns_in (stated w.fact) in
        let fact = known_holds g.layout env s fs w.fact say t.0.known in
        let one = fact_at_most g.layout env s us w.weight w.fact fact (first_among these (unknowns_of ws) us h) t.0.fine t.0.weight in
        let both = worth-add number (distinct us) f (times w.weight (stated w.fact)) in
        total_at_most ws (plus f w) (omega (arith, ints)) (last_among these (unknowns_of ws) us h) t.2

  module _ (n : ℤ) (ws : List Weighed) (q : Exp) (h : IsLinear g fs n ws q) where
    not_false : holds g.layout env s q ≡ false → ⊥
    not_false k =
        let these = unknowns_in (opposite q) in
        let all = these ++ unknowns_of ws in
        let first = opposite_at_most g.layout env s all n q k (first_among these (unknowns_of ws) all (λ e i. i)) h.denied in
        let most = total_at_most all ws (times n (opposite q)) first (last_among these (unknowns_of ws) all (λ e i. i)) h.taken in
        let is = worth-constant number (distinct all) (total (times n (opposite q)) ws) h.unknowns in
        let more = h.constant in
        omega (arith, ints)

pub linear_holds : (g : Scope) (fs : List Fact) (n : ℤ) (ws : List Weighed) (q : Exp) (env : Env) (s : State)
    → IsLinear g fs n ws q → AllSay g.layout env s fs → holds g.layout env s q ≡ true
linear_holds g fs n ws q env s h say = true_from_ne_false (holds g.layout env s q) (not_false g fs env s say n ws q h)
