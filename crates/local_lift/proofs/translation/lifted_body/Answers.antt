-- The body lifted, with a start where some locals are looked at first.
use Rattle.std.proofs.Common.{◌≡◌, [], List, length, map, string_bytes, eq-eqb, eqb-true, sym, subst, ap, ◌∙◌}
use Rattle.std.proofs.lemmas.Bool.{false≢true}
use Rattle.std.proofs.lemmas.List.{nil_from_length}
use Rattle.c_values.specs.Name.{Name}
use Rattle.expression_lang.specs.CodeExpression.{exp_of}
use Rattle.expression_lang.specs.CodeSignature.{binder_of}
use Rattle.expression_lang.specs.Signature.{names_of}
use Rattle.simpl_lang.specs.Command as plain
use Rattle.simpl_lang.specs.CodeCommand.{simpl_of}
use Rattle.rule_local.specs.CodeRule.{context_of}
use Rattle.rule_local.specs.Table.{zeros}
use Rattle.rule_local.specs.Lifted.{chosen}
use Rattle.local_lift.specs.Live.{live}
use Rattle.local_lift.specs.LiftedByLive.{among}
use Rattle.local_lift.specs.CodeNames.{names}
use Rattle.local_lift.specs.CodeLifted.{lifted_of, IsLifted}
use Rattle.local_lift.specs.CodePlan.{command_of}
use Rattle.local_lift.specs.CodeLists.{begun_in}
use Rattle.local_lift.proofs.ListLaws.{begun_marks, mapped_none}
use Rattle.local_lift.proofs.BodyLifted.{begins, body_started, body_unstarted}
use Rattle.local_lift.proofs.translation.lifted_body.Goals as goal

pub returns-then-is_empty : goal.returns-then-is_empty
returns-then-is_empty c =
    let ls = c.args.context.locals.now in
    let ctx = context_of c.args.context in
    let a = simpl_of c.args.left.now in
    let vs : List Name = map string_bytes c.args.outputs.now in
    let us : List Name = map string_bytes c.in_ok-names.names.items in
    let same : command_of c.deref.result.now ≡ a = ap command_of c.deref.ensures ∙ c.in_ok-command.ensures.same in
    let inner = subst (λ (d : plain.Simpl). IsLifted ls d vs c.in_ok-inner.inner) same c.in_ok-inner.ensures in
    let u : us ≡ chosen (begins ctx a vs) (names_of ctx.locals) = c.in_ok-names.ensures ∙ ap (begun_in ctx.parameters ls) inner.before ∙ begun_marks ctx.parameters (live (names ls) a (among vs)) ls in
    let none : c.in_ok-names.names.items ≡ [] = sym c.as_slice-given.ensures.value ∙ nil_from_length c.as_slice-given.result.now (eqb-true (length c.as_slice-given.result.now) 0 (sym c.is_empty.ensures ∙ c.if-is_empty.true)) in
    λ g. body_unstarted ctx a vs us (lifted_of c.in_ok-inner.inner.lifted) inner.lifted u (ap (λ ns. map string_bytes ns) none)

pub returns : goal.returns
returns c =
    let ls = c.args.context.locals.now in
    let ctx = context_of c.args.context in
    let a = simpl_of c.args.left.now in
    let vs : List Name = map string_bytes c.args.outputs.now in
    let us : List Name = map string_bytes c.in_ok-names.names.items in
    let same : command_of c.deref.result.now ≡ a = ap command_of c.deref.ensures ∙ c.in_ok-command.ensures.same in
    let inner = subst (λ (d : plain.Simpl). IsLifted ls d vs c.in_ok-inner.inner) same c.in_ok-inner.ensures in
    let u : us ≡ chosen (begins ctx a vs) (names_of ctx.locals) = c.in_ok-names.ensures ∙ ap (begun_in ctx.parameters ls) inner.before ∙ begun_marks ctx.parameters (live (names ls) a (among vs)) ls in
    let given : c.as_slice-given.result.now ≡ c.in_ok-names.names.items = c.as_slice-given.ensures.value in
    let some : us ≡ [] → ⊥ =
    λ h. false≢true (sym c.if-is_empty.false ∙ c.is_empty.ensures ∙ eq-eqb (length c.as_slice-given.result.now) 0 (ap (λ ns. length ns) given ∙ mapped_none string_bytes c.in_ok-names.names.items h)) in
    λ g. body_started ctx a vs us (map exp_of c.in_ok-values.values.items) (lifted_of c.in_ok-inner.inner.lifted) (lifted_of c.in_ok-whole.whole) inner.lifted u some
    (λ zs z. c.in_ok-values.ensures zs (ap (λ ns. zeros (map binder_of ls) (map string_bytes ns)) given ∙ z) g) c.in_ok-whole.ensures
