use Rattle.std.proofs.Common.{◌<◌, map, sym, ap, subst, ◌∙◌}
use Rattle.std.proofs.Math.ListN.{get_or-map}
use Rattle.std.proofs.lemmas.List.{length-map}
use Rattle.c_values.specs.CodeValue.{value_of}
use Rattle.expression_lang.specs.CodeState.{state_of}
use Rattle.monad_lang.specs.Program.{FinalFn}
use Rattle.monad_lang.specs.CodeProgram.{final_fn_of}
use Rattle.global_changes.proofs.Indexed.{some_below}
use Rattle.program_runs.specs.CodeRun.{ends_of_call, AreArguments, IsEnd, OnResults}
use Rattle.program_runs.proofs.Named.{found_at, at_place, place_at}
use Rattle.program_runs.proofs.Outcomes.{is_end, has_results}
use Rattle.program_runs.proofs.finals.run_final.Goals as goal

pub returned-given-requires-clause-called : goal.returned-given-requires-clause-called
returned-given-requires-clause-called g c =
    let fs = c.args.u.now.functions.items in
    let f = c.index.result.now in
    let vs = map value_of c.args.args.now in
    let below = some_below (λ h. AreArguments h vs) fs c.args.f c.requires.called in
    let name : FinalFn → _ = λ h. h.name in
    record {
      found = found_at name (map final_fn_of fs) c.args.f (final_fn_of f) c.requires.unit.names
          (subst (λ n. c.args.f < n) (sym (length-map fs final_fn_of)) below)
          (ap final_fn_of c.index.ensures ∙ sym (get_or-map final_fn_of fs c.args.f f));
      arguments = place_at (λ h. AreArguments h vs) fs c.args.f f below c.index.ensures c.requires.called;
    }

pub returns-clause-end : goal.returns-clause-end
returns-clause-end g c =
    let u = c.args.u.now in
    let vs = map value_of c.args.args.now in
    let s = state_of (g.H.Heap.content c.args.heap) u.globals.items c.args.globals.items in
    let f = c.index.result.now in
    let below = some_below (λ h. AreArguments h vs) u.functions.items c.args.f c.requires.called in
    at_place (λ h. IsEnd g.H.Heap.content u (ends_of_call u c.args.fill c.args.turns h vs s) c.outcome.result) u.functions.items c.args.f f below c.index.ensures
    (subst (λ o. IsEnd g.H.Heap.content u (ends_of_call u c.args.fill c.args.turns f vs s) o) (sym c.outcome.ensures)
    (is_end g.H.Heap.content u (ends_of_call u c.args.fill c.args.turns f vs s) c.returned-given.result c.returned-given.new.state c.returned-given.ensures.gives c.returned-given.ensures.stops))

pub returns-clause-results : goal.returns-clause-results
returns-clause-results g c =
    let u = c.args.u.now in
    let vs = map value_of c.args.args.now in
    let f = c.index.result.now in
    let below = some_below (λ h. AreArguments h vs) u.functions.items c.args.f c.requires.called in
    at_place (λ h. OnResults h c.outcome.result) u.functions.items c.args.f f below c.index.ensures
    (subst (λ o. OnResults f o) (sym c.outcome.ensures) (has_results f c.returned-given.result c.returned-given.new.state c.returned-given.ensures.results))
