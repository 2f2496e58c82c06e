-- Where a loop's guard, test and body stand, as the code has it.
use Rattle.std.proofs.Common.{◌≡◌, List, Option, refl, ap, ap₂, subst, ◌∙◌}
use Rattle.c_values.specs.Name.{Name}
use Rattle.expression_lang.specs.Expression.{Exp}
use Rattle.expression_lang.specs.Sort.{Scalar}
use Rattle.ac_expr.specs.Fact.{Fact}
use Rattle.monad_lang.specs.Program as M
use Rattle.monad_lang.specs.Program.{Mon, Start}
use Rattle.monad_sorts.specs.declared.settings.Setting as S
use Rattle.monad_sorts.specs.CodeInside.{setting_in, no_names}
use Rattle.monad_sorts.specs.CodeTold.{names_after}
use Rattle.rule_eq.specs.Table.{point, within}
use Rattle.rule_eq.specs.CodeFits.{IsSorted}
use Rattle.rule_eq.specs.CodeSteps.{IsTurn, turn_of}
use Rattle.rule_eq.proofs.Fitting.{names_within}

pub turn_here : (s : S.Setting) (fs gs hs : List Fact) (names ms : Name → Option Scalar) (whole : Mon) (starts : List Start)
    (guard test : Exp) (m : Mon) → whole ≡ M.Loop starts guard test m → IsSorted (setting_in s names) whole →
    ms ≡ names_after (setting_in s no_names) 1 names whole → gs ≡ hs → point gs (setting_in s ms) ≡ within starts hs (point fs (setting_in s names))
turn_here s fs gs hs names ms whole starts guard test m e sorted k h =
    ap₂ (λ g n. point g (setting_in s n)) h (k ∙ ap (λ q. names_after (setting_in s no_names) 1 names q) e)
    ∙ ap (λ t. point hs t)
    (names_within (setting_in s no_names) names starts guard test m (subst (λ q. IsSorted (setting_in s names) q) e sorted))

-- whatever loop it is
pub turned_here : (s : S.Setting) (fs gs hs : List Fact) (names ms : Name → Option Scalar) (whole : Mon) → IsTurn whole →
    IsSorted (setting_in s names) whole → ms ≡ names_after (setting_in s no_names) 1 names whole → gs ≡ hs →
    point gs (setting_in s ms) ≡ turn_of whole hs (point fs (setting_in s names))
turned_here s fs gs hs names ms (M.Loop starts guard test m) t sorted k h =
    turn_here s fs gs hs names ms (M.Loop starts guard test m) starts guard test m refl sorted k h
turned_here _ _ _ _ _ _ _ t _ _ _ = absurd t
