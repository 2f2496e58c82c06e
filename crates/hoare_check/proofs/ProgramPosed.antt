-- A well-sorted program is posed to the checker of derivations with an assertion behind it, and what is derived of it holds.
use Rattle.std.proofs.Common.{◌≡◌, ℕ, List, [], length, unwrap_or, sym, ap, ◌∙◌, subst}
use Rattle.std.proofs.lemmas.Bool.{eqb-true}
use Rattle.c_values.specs.Name.{Name}
use Rattle.c_values.specs.Choice.{Choice}
use Rattle.expression_lang.specs.Expression.{Exp}
use Rattle.expression_lang.specs.Sorted.{names_with}
use Rattle.ac_expr.specs.Fact.{Fact}
use Rattle.monad_lang.specs.Program.{Mon}
use Rattle.monad_lang.specs.Sorted.{Setting, IsWellFormed}
use Rattle.monad_sorts.specs.CodeTold.{values_told}
use Rattle.monad_sorts.proofs.ValuesTold.{setting_is, values_are}
use Rattle.rule_trees.specs.RuleTree.{Tree, Accepts}
use Rattle.entailment.proofs.Sorts.{assertion_sorted}
use Rattle.exactness.specs.SteadyUnits.{IsUnitSteady}
use Rattle.triple_lang.specs.Deriv.{Rule, Ground, Names, derived}
use Rattle.hoare_check.specs.DeriveTable.{setting, scope, Asserts, behind, table}
use Rattle.hoare_check.specs.Accepted.{AreTriples, CallsLifted, IsSortedFor, HoldBelow, IsDerived}
use Rattle.hoare_check.specs.CodeNames.{names_told}
use Rattle.hoare_check.specs.CodePosed.{IsPosed}
use Rattle.hoare_check.proofs.Derived.{derived_holds}

module _ (k : Ground) (ns : Names) (m : Mon) (xs : List Name) (sorted : IsSortedFor k ns m xs) where
  many : length xs ≡ length sorted.given
  many = eqb-true (length xs) (length sorted.given) sorted.one_each

  behind_is : behind k m xs ns ≡ names_with xs sorted.given ns
  behind_is = ap (λ o. names_with xs (unwrap_or o []) ns) sorted.sorted

  -- what is told of the values is in scope behind it
  pub told_behind : names_told (setting k ns) m xs ns ≡ behind k m xs ns
  told_behind =
      let here = setting k ns in
      ap (λ (t : Setting). t.scope.names)
      (setting_is here xs (values_told here m) sorted.given (values_are m here sorted.given sorted.sorted) many)
      ∙ sym behind_is

  module _ (q : Exp) (asserted : Asserts k (behind k m xs ns) q) where
    asserted_there : Asserts k (names_with xs sorted.given ns) q
    asserted_there = subst (λ (ms : Names). Asserts k ms q) behind_is asserted

    pub program_posed : IsPosed k ns m xs q
    program_posed = record {
      given = sorted.given;
      sorted = sorted.sorted;
      many = many;
      truth = assertion_sorted (scope k (names_with xs sorted.given ns)) k.lifted q asserted_there;
    }

    -- what a tree derives of the program holds of it
    pub program_holds : (fs : List Fact) (t : Tree Rule) → Accepts (table k) t (derived ns fs m xs q) → IsWellFormed k.unit → IsUnitSteady k.unit →
        AreTriples k.unit k.triples → CallsLifted k m → (p : Choice) (n : ℕ) → HoldBelow k p n → IsDerived k p n ns fs m xs q
    program_holds fs t accepts formed steady triples calls p n below =
        derived_holds k p formed steady triples t ns fs m xs q accepts (record {
          given = sorted.given;
          sorted = sorted.sorted;
          one_each = sorted.one_each;
          distinct = sorted.distinct;
          asserts = asserted_there;
          calls = calls;
        }) n below
