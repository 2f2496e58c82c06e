use Rattle.std.proofs.Common.{[], ap, ◌∙◌}
use Rattle.simpl_lang.specs.CodeCommand.{condition_of}
use Rattle.monad_lang.specs.Program as M
use Rattle.rule_local.specs.Rule as R
use Rattle.rule_local.specs.Lifted as spec
use Rattle.local_lift.specs.Live.{live}
use Rattle.local_lift.specs.LiftedByLive.{among}
use Rattle.local_lift.specs.CodeNames.{names}
use Rattle.local_lift.proofs.lifting.behind_guard.Goals as goal

pub returns : goal.returns
returns c =
    let guard = condition_of c.args.condition.now in
    λ a vs h. record {
      lifted = c.in_ok-lifted.ensures ∙ ap (λ (s : spec.Lifted). spec.over_one R.Guard (M.Bind (M.Guard guard.exp) [] s.right) s) h.lifted;
      before = c.in_ok-before.ensures (live (names c.args.locals.now) a (among vs)) h.before;
    }
