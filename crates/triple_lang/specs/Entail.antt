-- The rules by which an assertion is shown from facts, by name, and what they claim. They are those of natural deduction, with
-- equality, one step of the steps of expressions, and linear arithmetic.
use Rattle.std.specs.Prelude.{ℤ, List}
use Rattle.expression_lang.specs.Expression.{Exp}
use Rattle.ac_expr.specs.Fact.{Fact}

-- a fact, and how often it is taken
pub record Weighed : Type 0 where
  pub weight : ℤ
  pub fact : Exp

pub data Rule : Type 0 where
  -- it is known
  Hyp : Rule
  -- both sides are the same
  Same : Rule
  -- it is of constants alone, and true
  Compute : Rule
  And : Rule
  Imp : Rule
  Or : Rule
  Not : Rule
  -- both ends of a range
  Between : Rule
  -- with this, and without it
  Case : Exp → Rule
  -- this first
  Cut : Exp → Rule
  -- the facts contradict each other
  Absurd : Rule
  -- these two are equal, and the third is the claim with some of the first made the second
  Rewrite : Exp → Exp → Exp → Rule
  -- one step away from this
  Step : Exp → Rule
  -- the range of all values of a word
  Range : Rule
  -- so many times the claim's opposite and so many times each of the facts are a contradiction
  Linear : ℤ → List Weighed → Rule

-- from the facts the assertion follows
pub data Claim : Type 0 where
  shown : List Fact → Exp → Claim
