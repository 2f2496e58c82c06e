-- A `for` by its parts, which stand in a block of their own.
use Rattle.std.proofs.Common.{◌≡◌, ℕ, List, Option, refl, ◌∙◌}
use Rattle.c_grammar.specs.Tree as tree
use Rattle.typing_rules.specs.declared.fault.TypeFault.{TypeFault}
use Rattle.typing_rules.specs.CodeAnswers.{IsFaultOf}
use Rattle.typing_rules.specs.Checked.{Checked, Good, Bad, Judgement, pure, ruled, rule, then, ◌>>=◌}
use Rattle.typing_rules.specs.Scope.{Scope, opened, closed}
use Rattle.typing_rules.specs.Statements.{Around, inside_loop, statement, start, loop_test, loop_step, loop_tested, listed}
use Rattle.c_lang.specs.Typed as C
use Rattle.typing_statements.specs.CodeStatements.{as_list}
use Rattle.typing_expressions.proofs.Steps.{behind_good, fault_first, fault_along, block_good, block_fault}

-- a `for`
module _ (c : Around) (at : ℕ) (init : tree.Start) (test : Option tree.Exp) (step : Option tree.Simple) (b : tree.Stmt) (s o : Scope) (begins : o ≡ opened s) where
  abbrev within : Judgement C.Statement
  within =
      start init >>= λ ss. loop_test test >>= λ a. loop_step step >>= λ y. statement (inside_loop c) b >>= λ x.
      rule at (λ sc. loop_tested a (C.For (listed ss) a y x))

  abbrev behind_body : C.Statements → C.Test → C.Statement → C.Statement → Judgement C.Statement
  behind_body list a y x = rule at (λ sc. loop_tested a (C.For list a y x))

  abbrev behind_step : C.Statements → C.Test → C.Statement → Judgement C.Statement
  behind_step list a y = statement (inside_loop c) b >>= λ x. behind_body list a y x

  abbrev behind_test : C.Statements → C.Test → Judgement C.Statement
  behind_test list a = loop_step step >>= λ y. behind_step list a y

  abbrev behind_start : C.Statements → Judgement C.Statement
  behind_start list = loop_test test >>= λ a. behind_test list a

  by_list : within o ≡ then (as_list (start init) o) behind_start
  by_list = by_cases (start init o)
    where
      by_cases : (k : Checked (List C.Statement × Scope)) → then k (λ ss. behind_start (listed ss)) ≡ then (then k (λ ss. pure (listed ss))) behind_start
      by_cases (Good p) = refl
      by_cases (Bad at' kind) = refl

  for_fault : (e : TypeFault) → IsFaultOf e (then (as_list (start init) o) behind_start) → IsFaultOf e (statement c (tree.For at init test step b) s)
  for_fault e h = block_fault e within s o begins (fault_along e (within o) (then (as_list (start init) o) behind_start) by_list h)

  module _ (list : C.Statements) (p : Scope) (starts : as_list (start init) o ≡ Good (list, p)) where
    start_good : then (as_list (start init) o) behind_start ≡ behind_start list p
    start_good = behind_good (as_list (start init) o) list p behind_start starts

    module _ (a : C.Test) (q : Scope) (tests : loop_test test p ≡ Good (a, q)) where
      test_good : then (as_list (start init) o) behind_start ≡ behind_test list a q
      test_good = start_good ∙ behind_good (loop_test test p) a q (behind_test list) tests

      pub step_fault : (e : TypeFault) → IsFaultOf e (loop_step step q) → IsFaultOf e (statement c (tree.For at init test step b) s)
      step_fault e h = for_fault e (fault_along e (then (as_list (start init) o) behind_start) (behind_test list a q) test_good (fault_first e (loop_step step q) (behind_step list a) h))

      module _ (y : C.Statement) (r : Scope) (steps : loop_step step q ≡ Good (y, r)) where
        step_good : then (as_list (start init) o) behind_start ≡ behind_step list a y r
        step_good = test_good ∙ behind_good (loop_step step q) y r (behind_step list a) steps

        pub body_fault : (e : TypeFault) → IsFaultOf e (statement (inside_loop c) b r) → IsFaultOf e (statement c (tree.For at init test step b) s)
        body_fault e h = for_fault e (fault_along e (then (as_list (start init) o) behind_start) (behind_step list a y r) step_good (fault_first e (statement (inside_loop c) b r) (behind_body list a y) h))

        module _ (x : C.Statement) (t : Scope) (does : statement (inside_loop c) b r ≡ Good (x, t)) where
          body_good : then (as_list (start init) o) behind_start ≡ ruled at t (loop_tested a (C.For list a y x))
          body_good = step_good ∙ behind_good (statement (inside_loop c) b r) x t (behind_body list a y) does

          pub for_good : (z : C.Statement) (u : Scope) → ruled at t (loop_tested a (C.For list a y x)) ≡ Good (z, t) → u ≡ closed t → statement c (tree.For at init test step b) s ≡ Good (z, u)
          for_good z u h ends = block_good within s o t u z begins (by_list ∙ body_good ∙ h) ends
