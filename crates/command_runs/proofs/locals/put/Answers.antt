use Rattle.std.proofs.Common.{arith, ◌≡◌, ◌<◌, length, true, sym, ap, ◌∙◌}
use Rattle.std.specs.Prelude.{string_bytes}
use Rattle.c_values.specs.Name.{same_name}
use Rattle.c_values.specs.CodeValue.{value_of}
use Rattle.command_runs.specs.Locals.{put_in}
use Rattle.command_runs.specs.CodeRun.{table_of}
use Rattle.command_runs.proofs.Listed.{one_element, put_found, put_missed}
use Rattle.command_runs.proofs.locals.put.Goals as goal

pub returns-then-eq : goal.returns-then-eq
returns-then-eq c =
    let x = c.args.name.now in
    let bs = c.locals.locals.items in
    let b = c.index_mut.result.now in
    let lt : c.locals.k < length bs = omega arith in
    let one = one_element bs c.locals.k c.index.result.now b lt c.index.ensures c.index_mut.ensures.value in
    let same : same_name (string_bytes b.0) x ≡ true =
    ap (λ d. same_name (string_bytes d.0) x) (sym one) ∙ ap (λ n. same_name n x) (sym c.as_str.ensures.value) ∙ sym c.eq.ensures ∙ c.if-eq.true in
    put_found bs c.locals.k x c.args.value c.locals.invariant.passed b lt c.index_mut.ensures.value same
    ∙ ap (λ t. put_in x (value_of c.args.value) (table_of t)) c.locals.invariant.same

pub returns : goal.returns
returns c =
    put_missed c.locals.locals.items c.locals.k c.args.name.now c.args.value c.locals.invariant.passed (omega arith)
    ∙ ap (λ t. put_in c.args.name.now (value_of c.args.value) (table_of t)) c.locals.invariant.same
