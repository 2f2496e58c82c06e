-- What the claims of derivations say, and what they ask of the sorts of their programs and assertions.
use Rattle.std.proofs.Common.{◌≡◌, ℕ, true, List, Some}
use Rattle.c_values.specs.Name.{Name, are_distinct}
use Rattle.c_values.specs.Choice.{Choice}
use Rattle.expression_lang.specs.Expression.{Exp}
use Rattle.expression_lang.specs.Sort.{Scalar}
use Rattle.expression_lang.specs.Sorted.{names_with}
use Rattle.ac_expr.specs.Fact.{Fact}
use Rattle.monad_lang.specs.Program.{Mon}
use Rattle.monad_lang.specs.Sorted.{one_for_each, scalars_given}
use Rattle.rule_trees.specs.RuleTree.{Tree}
use Rattle.triple_lang.specs.Entail as E
use Rattle.entailment.specs.Table as T
use Rattle.triple_lang.specs.Deriv.{Ground, Names, Claim, entailed, derived}
use Rattle.hoare_check.specs.DeriveTable.{setting, scope, Asserts}
use Rattle.hoare_check.specs.Accepted.{CallsLifted, HoldBelow, IsDerived}

-- the program is well-sorted, its values have distinct names, and the assertion is one under them
pub record Fits (k : Ground) (ns : Names) (m : Mon) (xs : List Name) (q : Exp) : Type 0 where
  pub given : List Scalar
  pub sorted : scalars_given (setting k ns) m ≡ Some given
  pub one_each : one_for_each xs given ≡ true
  pub distinct : are_distinct xs ≡ true
  pub asserts : Asserts k (names_with xs given ns) q
  pub calls : CallsLifted k m

-- a tree of rules of assertions
pub record IsShown (k : Ground) (ns : Names) (fs : List Fact) (q : Exp) : Type 1 where
  pub rules : Tree E.Rule
  pub shows : T.Shows k.lifted (scope k ns) fs rules q

abbrev pub IsSound : Ground → Choice → Claim → Type 1
IsSound k p (entailed ns fs q) = IsShown k ns fs q
IsSound k p (derived ns fs m xs q) = Unit {1} → Fits k ns m xs q → (n : ℕ) → HoldBelow k p n → IsDerived k p n ns fs m xs q
