use Rattle.std.proofs.Common.{◌≡◌, List, map, string_bytes, ap₂, ◌∙◌}
use Rattle.c_values.specs.Name.{Name}
use Rattle.expression_lang.specs.CodeSignature.{binder_of}
use Rattle.local_lift.specs.Live.{live}
use Rattle.local_lift.specs.LiftedByLive.{among, carried}
use Rattle.local_lift.specs.CodeLists.{carried_in}
use Rattle.local_lift.specs.CodeLifted.{lifted_of}
use Rattle.local_lift.specs.CodeNames.{names}
use Rattle.local_lift.proofs.ListLaws.{carried_marks}
use Rattle.local_lift.proofs.LiftSteps.{seq_step}
use Rattle.local_lift.proofs.PlanLaws.{first_row}
use Rattle.local_lift.proofs.lifting.behind_first.Goals as goal

pub returns : goal.returns
returns c =
    λ bs a b vs g n h k. let us : List Name = map string_bytes c.args.names.items in
    let after = live (names bs) b (among vs) in
    let u : us ≡ carried (names bs) a after = n ∙ ap₂ (carried_in bs) g k.before ∙ carried_marks a after bs in
    record {
      lifted = seq_step (map binder_of bs) a b vs us (lifted_of c.args.first.lifted) (lifted_of c.args.last.lifted) (lifted_of c.in_ok-lifted.lifted) c.in_ok-lifted.ensures h.lifted k.lifted u;
      before =
          first_row bs a b vs us c.args.first.before.flags.items c.args.last.before.flags.items c.args.assigned.now.flags.items c.in_ok-before.before.flags.items u c.in_ok-before.ensures h.before k.before g;
    }
