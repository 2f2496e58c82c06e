use Rattle.std.proofs.Common.{arith, map, string_bytes, refl, ap, subst, sym, ◌∙◌}
use Rattle.std.proofs.lemmas.Result.{err_from_is_err_and}
use Rattle.ac_sx.specs.CodeSx.{tree_of, trees_in}
use Rattle.expression_text.specs.Reading.{next}
use Rattle.expression_text.specs.CodeFault.{Gives}
use Rattle.monad_lang.specs.declared.fronts.Front as F
use Rattle.monad_lang.specs.CodeProgram.{mon_of}
use Rattle.monad_lang.specs.CodeFront.{with_fronts}
use Rattle.program_text.specs.MonReading.{sequence_at}
use Rattle.program_text.proofs.SequencesRead.{sequence_more, sequence_done, sequence_first_refused, sequence_last_refused}
use Rattle.program_text.proofs.MonRows.{mon_given, mon_refused}
use Rattle.program_text.proofs.mon_reading.+mons.Goals as goal

pub mon_at-returns-in-Some-mon_head : goal.mon_at-returns-in-Some-mon_head
mon_at-returns-in-Some-mon_head t c =
    subst (Gives (λ m. mon_of m.value) c.row_at.result)
    (mon_given c.args.at c.next-in-Some-mon_head.result c.in-Some.word.now (trees_in c.in-Some.parts.now) (tree_of c.args.tree.now) c.in-Some-mon_head.head c.in-Some.ensures.parts c.in-Some-mon_head.ensures.some (c.next-in-Some-mon_head.ensures ∙ ap next c.next.ensures))
    c.row_at.ensures

pub mon_at-returns-in-None : goal.mon_at-returns-in-None
mon_at-returns-in-None t c = mon_refused c.args.at c.in-Some.word.now (trees_in c.in-Some.parts.now) (tree_of c.args.tree.now) c.in-Some.ensures.parts c.in-None.ensures.none

pub sequence_at-binds-preserved : goal.sequence_at-binds-preserved
sequence_at-binds-preserved t c = record {
  same =
      sequence_more c.binds.fronts.items c.push.new.self.items (F.TheVariants.Bind c.in_ok-first.first c.in_ok-names.names) c.binds.at c.in_ok-names.behind c.in_ok-first.behind (trees_in c.binds.rest.now) (tree_of c.in-Some.names.now, tree_of c.in-Some.first.now, trees_in c.in-Some.others.now) (map string_bytes c.in_ok-names.names.items)
      (mon_of c.in_ok-first.first.value) (sequence_at c.args.at (trees_in c.args.parts.now)) c.in-Some.ensures.parts c.in_ok-push.ensures.items c.in_ok-names.ensures c.in_ok-first.ensures (λ l. refl) c.binds.invariant.same;
  smaller = omega (arith, c.in-Some.ensures.smaller, c.binds.invariant.smaller);
}

pub sequence_at-returns-in_err-first : goal.sequence_at-returns-in_err-first
sequence_at-returns-in_err-first t c =
    let bad =
    sequence_first_refused (with_fronts c.binds.fronts.items) c.in_err-first.field-0.0 c.binds.at c.in_ok-names.behind (trees_in c.binds.rest.now) (tree_of c.in-Some.names.now, tree_of c.in-Some.first.now, trees_in c.in-Some.others.now)
    (map string_bytes c.in_ok-names.names.items) (sequence_at c.args.at (trees_in c.args.parts.now)) c.in-Some.ensures.parts c.in_ok-names.ensures c.in_err-first.ensures c.binds.invariant.same in
    let p = err_from_is_err_and c.from_residual-in_err-first.result c.from_residual-in_err-first.ensures.1 in
    rw (p.1, p.2) bad

pub sequence_at-returns-in_err-last : goal.sequence_at-returns-in_err-last
sequence_at-returns-in_err-last t c =
    let bad =
    sequence_last_refused (with_fronts c.binds.fronts.items) c.in_err-last.field-0.0 c.binds.at (trees_in c.binds.rest.now) (tree_of c.in-Some-one.last.now) (sequence_at c.args.at (trees_in c.args.parts.now))
    c.in-Some-one.ensures.parts (sym c.begins_do.ensures ∙ c.if-begins_do.false) c.in_err-last.ensures c.binds.invariant.same in
    let p = err_from_is_err_and c.from_residual-in_err-last.result c.from_residual-in_err-last.ensures.1 in
    rw (p.1, p.2) bad

pub sequence_at-returns : goal.sequence_at-returns
sequence_at-returns t c =
    sequence_done (with_fronts c.binds.fronts.items) c.binds.at c.in_ok-last.at (trees_in c.binds.rest.now) (tree_of c.in-Some-one.last.now) (mon_of c.in_ok-last.last.value) (mon_of c.in_ok-with_all.field-0.value)
    (sequence_at c.args.at (trees_in c.args.parts.now)) c.in-Some-one.ensures.parts (sym c.begins_do.ensures ∙ c.if-begins_do.false) c.in_ok-last.ensures c.in_ok-with_all.ensures c.binds.invariant.same
