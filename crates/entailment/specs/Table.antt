-- The table of the rules by which an assertion is shown from facts. One clause for each row: the rule and the claim; then what is
-- asked, and the claims of the parts.
use Rattle.std.specs.Prelude.{◌≡◌, ℕ, ℤ, Bool, true, false, List, [], ◌∷◌, Some, int_le}
use Rattle.c_values.specs.Number.{least, greatest}
use Rattle.expression_lang.specs.Expression as E
use Rattle.expression_lang.specs.Expression.{Exp, NumberLit, TruthLit, Le}
use Rattle.expression_lang.specs.Sort.{Scope, sort_of, word_width}
use Rattle.ac_expr.specs.Fact.{Fact, Whole, NotTrue}
use Rattle.ac_expr.specs.Known.{IsKnown}
use Rattle.ac_expr.specs.Step.{IsItsValue, OneStepApart}
use Rattle.rule_trees.specs.RuleTree.{Row, asks, no_row, Table, Tree, Accepts}
use Rattle.exactness.specs.Triple.{is_assertion}
use Rattle.triple_lang.specs.Entail as R
use Rattle.triple_lang.specs.Entail.{Rule, Claim, shown}
use Rattle.entailment.specs.Rewritten.{IsRewritten}
use Rattle.entailment.specs.Linear.{IsLinear}

abbrev pub IsAssertion : Bool → Scope → Exp → Type 0
IsAssertion lifted g e = is_assertion lifted g e ≡ true

-- the range holds every value of the word, by its unsigned or its signed value
abbrev pub HoldsWord : Scope → Bool → Exp → ℤ → ℤ → Type 0
HoldsWord g sign e low high =
    (n : ℕ) × (word_width (sort_of g e) ≡ Some n) × (int_le low (least sign n) ≡ true) × (int_le (greatest sign n) high ≡ true)

abbrev pub IsRange : Scope → Exp → ℤ → ℤ → Type 0
IsRange g (E.ToNat e) low high = HoldsWord g false e low high
IsRange g (E.ToInt e) low high = HoldsWord g true e low high
IsRange g e low high = ⊥

abbrev pub row : Bool → Scope → List Fact → Rule → Exp → Row Claim
row lifted g fs R.Hyp q = asks (IsKnown fs q) []
row lifted g fs R.Same (E.Eq a b) = asks (b ≡ a) []
row lifted g fs R.Compute q = asks (IsItsValue g.layout q (TruthLit true)) []
row lifted g fs R.And (E.And a b) = asks (Unit {0}) (shown fs a ∷ shown (Whole a ∷ fs) b ∷ [])
row lifted g fs R.Imp (E.Imp a b) = asks (Unit {0}) (shown (Whole a ∷ fs) b ∷ [])
row lifted g fs R.Or (E.Or a b) = asks (Unit {0}) (shown (NotTrue a ∷ fs) b ∷ [])
row lifted g fs R.Not (E.Not a) = asks (Unit {0}) (shown (Whole a ∷ fs) (TruthLit false) ∷ [])
row lifted g fs R.Between (E.Between low e high) =
    asks (Unit {0}) (shown fs (Le (NumberLit low) e) ∷ shown fs (Le e (NumberLit high)) ∷ [])
row lifted g fs (R.Case c) q = asks (IsAssertion lifted g c) (shown (Whole c ∷ fs) q ∷ shown (NotTrue c ∷ fs) q ∷ [])
row lifted g fs (R.Cut c) q = asks (IsAssertion lifted g c) (shown fs c ∷ shown (Whole c ∷ fs) q ∷ [])
row lifted g fs R.Absurd q = asks (Unit {0}) (shown fs (TruthLit false) ∷ [])
row lifted g fs (R.Rewrite a b p) q =
    asks (IsAssertion lifted g (E.Eq a b) × IsAssertion lifted g p × IsRewritten a b q p) (shown fs (E.Eq a b) ∷ shown fs p ∷ [])
row lifted g fs (R.Step p) q = asks (IsAssertion lifted g p × OneStepApart g fs q p) (shown fs p ∷ [])
row lifted g fs R.Range (E.Between low e high) = asks (IsRange g e low high) []
row lifted g fs (R.Linear n ws) q = asks (IsLinear g fs n ws q) []
row _ _ _ _ _ = no_row

abbrev pub table : Bool → Scope → Table Rule Claim
table lifted g rule (shown fs q) = row lifted g fs rule q

-- the rules of the tree show the assertion from the facts
abbrev pub Shows : Bool → Scope → List Fact → Tree Rule → Exp → Type 0
Shows lifted g fs t q = Accepts (table lifted g) t (shown fs q)
