-- What is in scope behind the first part of a program and in a loop, as the code has it.
use Rattle.std.proofs.Common.{◌≡◌, List, ap, ◌∙◌}
use Rattle.c_values.specs.Name.{Name}
use Rattle.expression_lang.specs.Expression.{Exp}
use Rattle.monad_lang.specs.Program as M
use Rattle.monad_lang.specs.Program.{Mon, Start}
use Rattle.monad_lang.specs.Sorted.{Setting}
use Rattle.monad_sorts.specs.declared.settings.Setting as S
use Rattle.monad_sorts.specs.CodeInside.{no_names, setting_in}
use Rattle.monad_sorts.specs.CodeTold.{names_after}
use Rattle.triple_lang.specs.Deriv.{Ground, Names}
use Rattle.hoare_check.specs.DeriveTable.{behind, setting, within}
use Rattle.hoare_check.specs.CodePosed.{IsPosed}
use Rattle.hoare_check.proofs.Posing.{bind_names, turn_names}

module _ (k : Ground) (ns : Names) (s : S.Setting) (is_setting : (ms : Names) → setting_in s ms ≡ setting k ms) (m : Mon) where
  abbrev passed_names : Names
  passed_names = names_after (setting_in s no_names) 1 ns m

  passed_as : (n : Mon) → m ≡ n → passed_names ≡ names_after (setting k no_names) 1 ns n
  passed_as n is = ap (λ (t : Setting). names_after t 1 ns m) (is_setting no_names) ∙ ap (λ p. names_after (setting k no_names) 1 ns p) is

  pub bound_behind : (m' : Mon) (ys : List Name) (n : Mon) (xs : List Name) (q : Exp) → m ≡ M.Bind m' ys n → IsPosed k ns (M.Bind m' ys n) xs q →
      passed_names ≡ behind k m' ys ns
  bound_behind m' ys n xs q is posed = passed_as (M.Bind m' ys n) is ∙ bind_names k ns m' ys n xs q posed

  pub bound_within : (starts : List Start) (guard test : Exp) (n : Mon) (xs : List Name) (q : Exp) → m ≡ M.Loop starts guard test n →
      IsPosed k ns (M.Loop starts guard test n) xs q → passed_names ≡ within k starts ns
  bound_within starts guard test n xs q is posed = passed_as (M.Loop starts guard test n) is ∙ turn_names k ns starts guard test n xs q posed
