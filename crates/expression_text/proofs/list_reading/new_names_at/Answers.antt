use Rattle.std.proofs.Common.{[], map, string_bytes, ap, subst, sym, ◌∙◌}
use Rattle.std.proofs.lemmas.Result.{err_from_is_err_and}
use Rattle.ac_sx.specs.CodeSx.{tree_of, trees_in}
use Rattle.expression_text.specs.CodeFault.{Fails}
use Rattle.expression_text.specs.Lists.{new_name_at, named_at}
use Rattle.expression_text.proofs.ListsRead.{named_more, named_refused}
use Rattle.expression_text.proofs.list_reading.new_names_at.Goals as goal

pub parts-preserved : goal.parts-preserved
parts-preserved c =
    named_more string_bytes (λ x. x) new_name_at c.parts.names.items c.push.new.self.items c.in_ok-name.name c.parts.at c.in_ok-name.behind c.args.parts.now c.parts.part-index c.part-item.result (named_at (λ x. x) new_name_at [] c.args.at (trees_in c.args.parts.now))
    c.parts-test.true c.part-item.is c.in_ok-push.ensures.items (ap (λ ns. new_name_at (map string_bytes ns) c.parts.at (tree_of c.part-item.result)) (sym c.deref.ensures.value) ∙ c.in_ok-name.ensures) c.parts.invariant

pub returns-in_err-name : goal.returns-in_err-name
returns-in_err-name c =
    let bad =
    named_refused string_bytes (λ x. x) new_name_at c.parts.names.items c.in_err-name.field-0.0 c.parts.at c.args.parts.now c.parts.part-index c.part-item.result (named_at (λ x. x) new_name_at [] c.args.at (trees_in c.args.parts.now))
    c.parts-test.true c.part-item.is
    (subst (Fails c.in_err-name.field-0.0) (ap (λ ns. new_name_at (map string_bytes ns) c.parts.at (tree_of c.part-item.result)) c.deref.ensures.value) c.in_err-name.ensures) c.parts.invariant in
    let p = err_from_is_err_and c.from_residual.result c.from_residual.ensures.1 in
    rw (p.1, p.2) bad
