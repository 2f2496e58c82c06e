use Rattle.std.proofs.Common.{[], map, ap, subst, sym, ◌∙◌}
use Rattle.std.proofs.lemmas.Result.{err_from_is_err_and}
use Rattle.ac_sx.specs.CodeSx.{tree_of, trees_in}
use Rattle.expression_text.specs.CodeFault.{Fails}
use Rattle.expression_text.specs.Lists.{named_at}
use Rattle.expression_text.proofs.ListsRead.{named_more, named_refused}
use Rattle.monad_lang.specs.Program.{Start}
use Rattle.monad_lang.specs.CodeProgram.{start_of}
use Rattle.program_text.specs.MonReading.{start_at}
use Rattle.program_text.proofs.fields.new_starts_at.Goals as goal

pub parts-preserved : goal.parts-preserved
parts-preserved c =
    named_more start_of (λ (x : Start). x.name) start_at c.parts.starts.items c.push.new.self.items c.in_ok-start.start c.parts.at c.in_ok-start.behind c.args.parts.now c.parts.part-index c.part-item.result (named_at (λ (x : Start). x.name) start_at [] c.args.at (trees_in c.args.parts.now))
    c.parts-test.true c.part-item.is c.in_ok-push.ensures.items (ap (λ ss. start_at (map (λ s. (start_of s).name) ss) c.parts.at (tree_of c.part-item.result)) (sym c.deref.ensures.value) ∙ c.in_ok-start.ensures) c.parts.invariant

pub returns-in_err-start : goal.returns-in_err-start
returns-in_err-start c =
    let bad =
    named_refused start_of (λ (x : Start). x.name) start_at c.parts.starts.items c.in_err-start.field-0.0 c.parts.at c.args.parts.now c.parts.part-index c.part-item.result (named_at (λ (x : Start). x.name) start_at [] c.args.at (trees_in c.args.parts.now))
    c.parts-test.true c.part-item.is
    (subst (Fails c.in_err-start.field-0.0) (ap (λ ss. start_at (map (λ s. (start_of s).name) ss) c.parts.at (tree_of c.part-item.result)) c.deref.ensures.value) c.in_err-start.ensures) c.parts.invariant in
    let p = err_from_is_err_and c.from_residual.result c.from_residual.ensures.1 in
    rw (p.1, p.2) bad
