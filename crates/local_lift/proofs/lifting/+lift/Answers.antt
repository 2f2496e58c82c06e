-- A loop lifted, where its body is.
use Rattle.std.proofs.Common.{◌≡◌, List, map, string_bytes, ap, ap₂, ◌∙◌}
use Rattle.c_values.specs.Name.{Name}
use Rattle.expression_lang.specs.CodeExpression.{exp_of}
use Rattle.expression_lang.specs.CodeSignature.{binder_of}
use Rattle.simpl_lang.specs.Command as plain
use Rattle.simpl_lang.specs.CodeCommand.{condition_of}
use Rattle.local_lift.specs.Live.{live}
use Rattle.local_lift.specs.LiftedByLive.{among, carried, by_live}
use Rattle.local_lift.specs.CodeLists.{carried_in}
use Rattle.local_lift.specs.CodeLifted.{lifted_of}
use Rattle.local_lift.specs.CodeNames.{names}
use Rattle.local_lift.specs.CodePlan.{command_of}
use Rattle.local_lift.proofs.ListLaws.{carried_marks}
use Rattle.local_lift.proofs.LiftSteps.{while_step}
use Rattle.local_lift.proofs.lifting.+lift.Goals as goal

pub lift_loop-returns : goal.lift_loop-returns
lift_loop-returns t c =
    let bs = c.args.locals.now in
    let vs : List Name = map string_bytes c.args.outputs.now in
    let gs = map condition_of c.args.conditions.now in
    let test = exp_of c.args.test.now in
    let body = command_of c.args.body.now in
    let at_start = live (names bs) (plain.While gs test body) (among vs) in
    let us : List Name = map string_bytes c.in_ok-names.names.items in
    let before = c.in_ok-before.ensures gs test body c.requires.turns in
    let u : us ≡ carried (names bs) body at_start = c.in_ok-names.ensures ∙ ap₂ (carried_in bs) c.requires.assigned before ∙ carried_marks body at_start bs in
    let h : lifted_of c.in_ok-part.part.lifted ≡ by_live (map binder_of bs) body us =
    c.in_ok-part.ensures.lifted ∙ ap (λ ws. by_live (map binder_of bs) body (map string_bytes ws)) c.as_slice.ensures.value in
    record {
      lifted = while_step (map binder_of bs) gs test body vs us (lifted_of c.in_ok-part.part.lifted) (lifted_of c.in_ok-lifted.lifted) c.in_ok-lifted.ensures h u;
      before = before;
    }
