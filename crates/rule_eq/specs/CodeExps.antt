-- The expressions that stand in a program directly, as the code goes along them.
use Rattle.std.specs.Prelude.{◌≡◌, List, [], ◌∷◌, ◌++◌}
use Rattle.expression_lang.specs.Expression.{Exp}
use Rattle.expression_lang.specs.Sort.{Scope}
use Rattle.ac_expr.specs.Fact.{Whole}
use Rattle.ac_expr.specs.CodeApart.{IsSomeSorted}
use Rattle.monad_lang.specs.Program as M
use Rattle.monad_lang.specs.Program.{Place, Mon, Start}
use Rattle.monad_lang.specs.Run.{start_names}
use Rattle.program_facts.specs.Places.{place_children}
use Rattle.rule_eq.specs.Rule.{Point}
use Rattle.rule_eq.specs.Table.{within, OneApart, StepApart}
use Rattle.rule_parts.specs.Starts.{start_exps}

-- what is written, and where
abbrev pub write_exps : Place → Exp → List Exp
write_exps place e = place_children place ++ (e ∷ [])

-- well-sorted, whatever names are in scope
abbrev pub AreSomewhereSorted : Scope → List Exp → Type 0
AreSomewhereSorted g [] = Unit {0}
AreSomewhereSorted g (e ∷ es) = IsSomeSorted g e × AreSomewhereSorted g es

-- a loop with these names, guard and test, and a program that is a loop and one step apart: in what a name begins with, in the
-- guard or in the test
abbrev pub BeginApart : Point → List Start → Exp → Exp → Mon → Type 0
BeginApart at starts guard test (M.Loop starts' guard' test' m') =
    (start_names starts' ≡ start_names starts) × (guard' ≡ guard) × (test' ≡ test) × OneApart at (start_exps starts) (start_exps starts')
BeginApart at starts guard test _ = ⊥

abbrev pub GuardApart : Point → List Start → Exp → Exp → Mon → Type 0
GuardApart at starts guard test (M.Loop starts' guard' test' m') =
    (starts' ≡ starts) × (test' ≡ test) × StepApart (within starts' [] at) guard guard'
GuardApart at starts guard test _ = ⊥

abbrev pub TestApart : Point → List Start → Exp → Exp → Mon → Type 0
TestApart at starts guard test (M.Loop starts' guard' test' m') =
    (starts' ≡ starts) × (guard' ≡ guard) × StepApart (within starts' (Whole guard ∷ []) at) test test'
TestApart at starts guard test _ = ⊥
