use Rattle.std.proofs.Common.{arith, ◌||◌, map, string_bytes, sym, ap, ap₂, ◌∙◌}
use Rattle.simpl_lang.specs.declared.command.Simpl.{size-Simpl}
use Rattle.simpl_lang.specs.CodeCommand.{simpl_of, condition_of}
use Rattle.expression_lang.specs.CodeExpression.{exp_of}
use Rattle.monad_lang.specs.Program as M
use Rattle.monad_lang.specs.CodeProgram.{mon_of, start_of}
use Rattle.monad_lang.specs.Run.{start_names}
use Rattle.monad_lang.specs.Names.{is_free, is_in_start}
use Rattle.c_values.specs.Name.{is_among}
use Rattle.rule_local.specs.CodeMarks.{is_marked}
use Rattle.rule_local.specs.CodePlaces.{uses_at, passed_at}
use Rattle.rule_local.specs.CodeUses.{uses, under, only_free}
use Rattle.rule_local.proofs.LastParts as parts
use Rattle.rule_local.proofs.UsesLaws as laws
use Rattle.rule_local.proofs.uses.+uses_along.Goals as goal

pub along-preserved-in-Bind : goal.along-preserved-in-Bind
along-preserved-in-Bind t c =
    let vs = map string_bytes c.args.outputs.now in
    let us = map string_bytes c.in-Bind.names.items in
    let a = simpl_of c.in-Seq.part.value in
    let b = simpl_of c.in-Seq.last.value in
    let m = mon_of c.in-Bind.first.value in
    let n = mon_of c.in-Bind.rest.value in
    record {
      same = λ i y h.
          laws.after_step (passed_at i c.along.passed) (passed_at i c.after-passed.result) (uses_at i c.uses_along-uses.result) y vs
          b (simpl_of c.deref-command.result.now) (simpl_of c.along.command.now) n (mon_of c.deref-program.result.now) (mon_of c.along.program.now)
          (uses y (simpl_of c.args.left.now) (mon_of c.args.right.now) vs) (ap simpl_of c.deref-command.ensures) (ap mon_of c.deref-program.ensures) (c.along.invariant.same i y h)
          (is_marked c.among.result.bits i) us a m (c.after-passed.ensures i h.within)
          (c.uses_along-uses.ensures i y h ∙ ap (λ z. uses y z (mon_of c.deref-in-Bind.result.now) (map string_bytes c.deref-in-Bind-2.result.now)) (ap simpl_of c.deref.ensures)
          ∙ ap (λ z. uses y a z (map string_bytes c.deref-in-Bind-2.result.now)) (ap mon_of c.deref-in-Bind.ensures) ∙ ap (λ z. uses y a m z) (ap (λ xs. map string_bytes xs) c.deref-in-Bind-2.ensures.value))
          (c.among.ensures i y h ∙ ap (λ xs. is_among y (map string_bytes xs)) c.deref-in-Bind-3.ensures.value)
          (ap simpl_of c.in-Seq.is) (ap mon_of c.in-Bind.is);
      smaller = let less = parts.last_of_seq c.along.command.now c.in-Seq.part c.in-Seq.last c.in-Seq.is in omega (arith, ap size-Simpl c.deref-command.ensures);
    }

pub along-preserved-in-If : goal.along-preserved-in-If
along-preserved-in-If t c =
    let vs = map string_bytes c.args.outputs.now in
    let a = simpl_of c.in-Cond.part.value in
    let b = simpl_of c.in-Cond.last.value in
    let m = mon_of c.in-If.first.value in
    let n = mon_of c.in-If.rest.value in
    record {
      same = λ i y h.
          laws.beside_step (passed_at i c.along.passed) (passed_at i c.beside-passed.result) (uses_at i c.under.result) y vs
          b (simpl_of c.deref-command-in-If.result.now) (simpl_of c.along.command.now) n (mon_of c.deref-program-in-If.result.now) (mon_of c.along.program.now)
          (uses y (simpl_of c.args.left.now) (mon_of c.args.right.now) vs) (ap simpl_of c.deref-command-in-If.ensures) (ap mon_of c.deref-program-in-If.ensures) (c.along.invariant.same i y h)
          (exp_of c.in-Cond.field-0) (exp_of c.in-If.test) a m (c.beside-passed.ensures i h.within)
          (c.under.ensures i ∙ ap₂ (λ k u. under k u) (c.named.ensures i y h)
          (c.uses_along-uses-in-If.ensures i y h ∙ ap (λ z. uses y z (mon_of c.deref-in-If-2.result.now) vs) (ap simpl_of c.deref-in-If.ensures) ∙ ap (λ z. uses y a z vs) (ap mon_of c.deref-in-If-2.ensures)))
          (ap simpl_of c.in-Cond.is) (ap mon_of c.in-If.is);
      smaller = let less = parts.last_of_cond c.along.command.now c.in-Cond.field-0 c.in-Cond.part c.in-Cond.last c.in-Cond.is in omega (arith, ap size-Simpl c.deref-command-in-If.ensures);
    }

pub along-preserved : goal.along-preserved
along-preserved t c =
    let vs = map string_bytes c.args.outputs.now in
    let us = map string_bytes c.in-Bind-program.names.items in
    let b = simpl_of c.in-Guard.last.value in
    let m = mon_of c.in-Bind-program.first.value in
    let n = mon_of c.in-Bind-program.rest.value in
    record {
      same = λ i y h.
          laws.guard_step (passed_at i c.along.passed) (passed_at i c.after-passed-in-Bind-program.result) (uses_at i c.only_free-uses.result) y vs
          b (simpl_of c.deref-command-in-Bind-program.result.now) (simpl_of c.along.command.now) n (mon_of c.deref-program-in-Bind-program.result.now) (mon_of c.along.program.now)
          (uses y (simpl_of c.args.left.now) (mon_of c.args.right.now) vs) (ap simpl_of c.deref-command-in-Bind-program.ensures) (ap mon_of c.deref-program-in-Bind-program.ensures) (c.along.invariant.same i y h)
          (is_marked c.among-in-Bind-program.result.bits i) us (condition_of c.in-Guard.field-0) m (c.after-passed-in-Bind-program.ensures i h.within)
          (c.only_free-uses.ensures i ∙ ap (λ f. only_free f) (c.free.ensures i y h ∙ ap (λ z. is_free y z) (ap mon_of c.deref-in-Bind-program.ensures)))
          (c.among-in-Bind-program.ensures i y h ∙ ap (λ xs. is_among y (map string_bytes xs)) c.deref-in-Bind-program-2.ensures.value)
          (ap simpl_of c.in-Guard.is) (ap mon_of c.in-Bind-program.is);
      smaller = let less = parts.last_of_guard c.along.command.now c.in-Guard.field-0 c.in-Guard.last c.in-Guard.is in omega (arith, ap size-Simpl c.deref-command-in-Bind-program.ensures);
    }

pub returns-in-Loop : goal.returns-in-Loop
returns-in-Loop t c =
    let vs = map string_bytes c.args.outputs.now in
    let us = map string_bytes c.in-Bind-program-2.names.items in
    let a = simpl_of c.in-While.part.value in
    let m = mon_of c.in-Loop.body.value in
    let n = mon_of c.in-Bind-program-2.rest.value in
    let starts = map start_of c.in-Loop.starts.items in
    let guard = exp_of c.in-Loop.guard in
    let turn = exp_of c.in-Loop.turn in
    λ i y h.
    laws.loop_step (passed_at i c.along.passed) (uses_at i c.ended-in-Loop.result) (uses_at i c.looped.result) y vs us (map condition_of c.in-While.field-0.items) (exp_of c.in-While.field-1)
    guard turn starts a (simpl_of c.along.command.now) m n (mon_of c.along.program.now) (uses y (simpl_of c.args.left.now) (mon_of c.args.right.now) vs)
    (uses_at i c.under-in-Loop.result) (uses_at i c.uses_along-uses-in-Loop.result) (is_marked c.or-tests.result.bits i) (is_marked c.named_in_starts.result.bits i)
    (is_marked c.started.result.bits i) (is_marked c.among-in-Loop.result.bits i) (is_marked c.among-in-Loop-2.result.bits i) (is_marked c.free-in-Loop.result.bits i)
    (c.ended-in-Loop.ensures i h.within) (c.looped.ensures i h.within) (c.under-in-Loop.ensures i)
    (c.or-tests.ensures i ∙ ap₂ (λ s t. s || t) (c.named-in-Loop.ensures i y h) (c.named-in-Loop-2.ensures i y h))
    (c.uses_along-uses-in-Loop.ensures i y h ∙ ap (λ z. uses y z (mon_of c.deref-in-Loop-2.result.now) (map string_bytes c.deref-in-Loop-3.result.now)) (ap simpl_of c.deref-in-Loop.ensures)
    ∙ ap (λ z. uses y a z (map string_bytes c.deref-in-Loop-3.result.now)) (ap mon_of c.deref-in-Loop-2.ensures) ∙ ap (λ z. uses y a m z) (ap (λ xs. map string_bytes xs) c.deref-in-Loop-3.ensures.value))
    (c.named_in_starts.ensures i y h ∙ ap (λ ss. is_in_start y (map start_of ss)) c.deref-in-Loop-4.ensures.value)
    (c.started.ensures i y h ∙ ap (λ ss. is_among y (start_names (map start_of ss))) c.deref-in-Loop-5.ensures.value)
    (c.among-in-Loop.ensures i y h ∙ ap (λ xs. is_among y (map string_bytes xs)) c.deref-in-Loop-6.ensures.value)
    (c.among-in-Loop-2.ensures i y h) (c.free-in-Loop.ensures i y h ∙ ap (λ z. is_free y z) (ap mon_of c.deref-in-Loop-7.ensures))
    (ap simpl_of c.in-While.is)
    (ap mon_of c.in-Bind-program-2.is ∙ ap (λ z. M.Bind z us n) (sym (ap mon_of c.deref-in-Bind-program-2-2.ensures) ∙ ap mon_of c.in-Loop.is))
    (c.along.invariant.same i y h)
