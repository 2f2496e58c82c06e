use Rattle.std.proofs.Common.{Some, Ok, map, ap, sym, ◌∙◌, arith}
use Rattle.std.proofs.lemmas.Result.{err_from_is_err_and}
use Rattle.ac_sx.specs.CodeSx.{tree_of, trees_in}
use Rattle.c_values.specs.CodeTypes.{type_of}
use Rattle.c_values.specs.Layout.{shape_of}
use Rattle.c_values.specs.Value.{Parts}
use Rattle.c_values.proofs.Listed.{parts_value}
use Rattle.expression_text.specs.Reading.{made}
use Rattle.expression_text.proofs.ExpsRead.{nodes_in}
use Rattle.memory_text.specs.ValueReading.{counted, values_at}
use Rattle.memory_text.specs.CodeTypes.{types_in}
use Rattle.memory_text.proofs.ValuesRead.{list_given, miscounted, values_more, values_ended, values_refused}
use Rattle.memory_text.proofs.value_reading.+values.Goals as goal

pub value_at-returns : goal.value_at-returns
value_at-returns t c =
    let g = c.args.layout.now.target in
    let ts = trees_in c.in-Some.parts.now in
    let ss = Some (map (shape_of c.args.layout.now) (types_in c.in-Some-types_of.types)) in
    sym (list_given g (shape_of c.args.layout.now (type_of c.args.ty.now)) c.args.at (tree_of c.args.tree.now) ts ss c.in-Some.ensures c.in-Some-types_of.ensures)
    ∙ ap (λ n. made (λ vs. Parts vs) (counted c.args.at ts ss (λ rs. values_at g rs n ts))) (sym c.next.ensures)
    ∙ ap (made (λ vs. Parts vs)) c.in_ok-values.ensures
    ∙ ap (λ v. Ok (v, c.in_ok-values.behind)) (sym (parts_value c.in_ok-values.values))

pub values_at-returns-then-parts-len : goal.values_at-returns-then-parts-len
values_at-returns-then-parts-len t c = miscounted c.args.layout.now (types_in c.args.types) c.args.at c.args.inner c.args.parts.now (λ e. c.if-parts-len.true (e ∙ sym c.len.ensures))

pub values_at-value_at-requires : goal.values_at-value_at-requires
values_at-value_at-requires t c =
    let less = nodes_in c.args.parts.now c.parts.k c.index-parts-k.result c.parts-test.true c.index-parts-k.is in
    (omega (arith, less, c.decreases), tt)

pub values_at-returns-in_err-value : goal.values_at-returns-in_err-value
values_at-returns-in_err-value t c =
    let bad =
    values_refused c.args.layout.now (types_in c.args.types) (type_of c.get.result.now) c.parts.values.items c.in_err-value.field-0.0 c.args.at c.args.inner c.parts.here c.args.parts.now c.parts.k c.index-parts-k.result
    c.get.ensures c.parts-test.true c.index-parts-k.is (c.if-parts-len.false ∙ c.len.ensures) c.in_err-value.ensures c.parts.invariant in
    let p = err_from_is_err_and c.from_residual.result c.from_residual.ensures.1 in
    rw (p.1, p.2) bad

pub values_at-parts-preserved : goal.values_at-parts-preserved
values_at-parts-preserved t c =
    values_more c.args.layout.now (types_in c.args.types) (type_of c.get.result.now) c.parts.values.items c.push.new.self.items c.in_ok-value.value c.parts.here c.in_ok-value.behind c.args.parts.now c.parts.k c.index-parts-k.result
    (values_at c.args.layout.now.target (map (shape_of c.args.layout.now) (types_in c.args.types)) c.args.inner (trees_in c.args.parts.now)) c.get.ensures c.parts-test.true c.index-parts-k.is c.in_ok-push.ensures.items c.in_ok-value.ensures c.parts.invariant

pub values_at-returns : goal.values_at-returns
values_at-returns t c =
    values_ended c.args.layout.now (types_in c.args.types) c.parts.values.items c.args.at c.args.inner c.parts.here c.args.parts.now c.parts.k (c.if-parts-len.false ∙ c.len.ensures) c.parts-test.false c.parts.invariant
