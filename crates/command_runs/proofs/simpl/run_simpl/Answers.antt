use Rattle.std.proofs.Common.{arith, ◌<◌, length, map, Some, sym, subst}
use Rattle.std.proofs.lemmas.List.{length-map}
use Rattle.std.specs.Prelude.{slice_get}
use Rattle.c_values.specs.Choice.{Fill}
use Rattle.c_values.specs.CodeValue.{value_of}
use Rattle.simpl_lang.specs.Exec.{simpl_runs}
use Rattle.simpl_lang.specs.CodeCommand.{simpl_fn_of, simpl_unit_of}
use Rattle.expression_lang.specs.Sort.{word_sort_of}
use Rattle.expression_lang.specs.Signature.{kinds_of}
use Rattle.expression_lang.specs.CodeSignature.{binder_of, signature_of}
use Rattle.global_changes.proofs.Indexed.{some_below, get_some}
use Rattle.command_runs.specs.Locals.{AreOfSorts}
use Rattle.command_runs.specs.CodeRun.{state_in, call_of, IsEnd, OnLasting}
use Rattle.command_runs.proofs.Indexed.{function_at, signature_at, same_count, some_and, and_some, returned_end, returned_lasts}
use Rattle.command_runs.proofs.simpl.run_simpl.Goals as goal

pub index-function-requires : goal.index-function-requires
index-function-requires c =
    let u = c.args.u.now in
    let below = some_below (λ r. AreOfSorts (map word_sort_of (kinds_of (map binder_of r.params.items))) (map value_of c.args.args.now)) u.signatures.items c.args.f c.requires.called in
    let count = same_count (map simpl_fn_of u.functions.items) (map signature_of u.signatures.items) c.requires.unit.formed.signatures in
    omega (arith, below, count, length-map u.functions.items simpl_fn_of, length-map u.signatures.items signature_of, u.functions.ok.0)

pub index-requires : goal.index-requires
index-requires c =
    let u = c.args.u.now in
    let below = some_below (λ r. AreOfSorts (map word_sort_of (kinds_of (map binder_of r.params.items))) (map value_of c.args.args.now)) u.signatures.items c.args.f c.requires.called in
    omega (arith, below, u.signatures.ok.0)

pub returned-given-requires-clause-called : goal.returned-given-requires-clause-called
returned-given-requires-clause-called c =
    let u = c.args.u.now in
    let f = c.args.f in
    let h = c.index-function.result.now in
    let s = c.index.result.now in
    let below = some_below (λ r. AreOfSorts (map word_sort_of (kinds_of (map binder_of r.params.items))) (map value_of c.args.args.now)) u.signatures.items f c.requires.called in
    let count = same_count (map simpl_fn_of u.functions.items) (map signature_of u.signatures.items) c.requires.unit.formed.signatures in
    let lt : f < length u.functions.items = omega (arith, below, count, length-map u.functions.items simpl_fn_of, length-map u.signatures.items signature_of) in
    record {
      function = function_at u.functions.items f h c.requires.unit.formed.names lt c.index-function.ensures;
      signature = signature_at u.functions.items u.signatures.items f h s c.requires.unit.formed.names c.requires.unit.formed.signatures lt c.index-function.ensures c.index.ensures;
      arguments = and_some (λ r. AreOfSorts (map word_sort_of (kinds_of (map binder_of r.params.items))) (map value_of c.args.args.now)) (slice_get u.signatures.items f) s (get_some u.signatures.items f s below c.index.ensures) c.requires.called;
    }

pub returns-clause-end : goal.returns-clause-end
returns-clause-end c =
    let u = c.args.u.now in
    let f = c.args.f in
    let h = c.index-function.result.now in
    let below = some_below (λ r. AreOfSorts (map word_sort_of (kinds_of (map binder_of r.params.items))) (map value_of c.args.args.now)) u.signatures.items f c.requires.called in
    let count = same_count (map simpl_fn_of u.functions.items) (map signature_of u.signatures.items) c.requires.unit.formed.signatures in
    let lt : f < length u.functions.items = omega (arith, below, count, length-map u.functions.items simpl_fn_of, length-map u.signatures.items signature_of) in
    some_and
    (λ g. IsEnd u (simpl_runs (simpl_unit_of u) (Fill c.args.fill) c.args.turns (Some 256) (call_of g (map value_of c.args.args.now) (state_in u c.args.state))) c.outcome.result)
    (slice_get u.functions.items f) h (get_some u.functions.items f h lt c.index-function.ensures)
    (subst (λ o. IsEnd u (simpl_runs (simpl_unit_of u) (Fill c.args.fill) c.args.turns (Some 256) (call_of h (map value_of c.args.args.now) (state_in u c.args.state))) o) (sym c.outcome.ensures)
    (returned_end u (simpl_runs (simpl_unit_of u) (Fill c.args.fill) c.args.turns (Some 256) (call_of h (map value_of c.args.args.now) (state_in u c.args.state))) c.returned-given.result c.returned-given.new.state c.returned-given.ensures.end))

pub returns-clause-lasts : goal.returns-clause-lasts
returns-clause-lasts c =
    subst (OnLasting c.args.u.now) (sym c.outcome.ensures)
    (returned_lasts c.args.u.now c.returned-given.result c.returned-given.new.state c.returned-given.ensures.lasts)
