use Rattle.std.proofs.Common.{ap₂, ◌∙◌}
use Rattle.expression_lang.specs.CodeExpression.{exp_of}
use Rattle.expression_lang.specs.Mentions as mentions
use Rattle.monad_lang.specs.Program as M
use Rattle.rule_local.specs.Rule as R
use Rattle.rule_local.specs.Lifted as spec
use Rattle.local_lift.specs.Live.{live}
use Rattle.local_lift.specs.LiftedByLive.{among}
use Rattle.local_lift.specs.CodeNames.{names}
use Rattle.local_lift.specs.CodeRows.{adding, either_row}
use Rattle.local_lift.proofs.RowLaws.{either_marks}
use Rattle.local_lift.proofs.lifting.chosen.Goals as goal

pub returns : goal.returns
returns c =
    let bs = c.args.locals.now in
    let test = exp_of c.args.test.now in
    λ a b vs h k. record {
      lifted = c.in_ok-lifted.ensures ∙ ap₂ (λ (l r : spec.Lifted). spec.over_two R.Cond (M.If test l.right r.right) l r) h.lifted k.lifted;
      before =
          c.in_ok-before.ensures ∙ ap₂ either_row (c.in_ok-tested_first.ensures (live (names bs) a (among vs)) h.before) k.before
          ∙ either_marks (adding (λ y. mentions.names y test) (live (names bs) a (among vs))) (live (names bs) b (among vs)) bs;
    }
