-- What is generated can be run from there, and its end is the C's.
use Rattle.std.proofs.Common.{map, ap, ◌∙◌}
use Rattle.c_values.specs.CodeValue.{value_of}
use Rattle.running.proofs.CRuns.{can_run, takes_them, is_state, c_end}
use Rattle.running.proofs.c_side.c_outcome.Goals as goal

pub run_simpl-requires-clause-unit : goal.run_simpl-requires-clause-unit
run_simpl-requires-clause-unit c = can_run c.args.start c.requires c.in_ok-generated.generated c.in_ok-generated.ensures

pub run_simpl-requires-clause-called : goal.run_simpl-requires-clause-called
run_simpl-requires-clause-called c =
    takes_them c.args.start c.requires c.in_ok-generated.generated c.in_ok-generated.ensures c.deref.result.now
    (ap (map value_of) c.deref.ensures.value ∙ c.in_ok-arguments.ensures.arguments)

pub run_simpl-requires-clause-state : goal.run_simpl-requires-clause-state
run_simpl-requires-clause-state c =
    is_state c.args.start c.requires c.in_ok-generated.generated c.in_ok-generated.ensures c.deref.result.now
    (ap (map value_of) c.deref.ensures.value ∙ c.in_ok-arguments.ensures.arguments)
    (record { heap = c.in_ok-heap.heap; globals = c.in_ok-globals.globals })
    c.in_ok-heap.ensures c.in_ok-globals.ensures.typed c.in_ok-globals.ensures.values

pub returns : goal.returns
returns c =
    c_end c.args.start c.requires c.in_ok-generated.generated c.in_ok-generated.ensures c.deref.result.now
    (ap (map value_of) c.deref.ensures.value ∙ c.in_ok-arguments.ensures.arguments)
    (record { heap = c.in_ok-heap.heap; globals = c.in_ok-globals.globals })
    c.in_ok-heap.ensures c.in_ok-globals.ensures.typed c.in_ok-globals.ensures.values
    c.run_simpl.result c.run_simpl.ensures.end c.run_simpl.ensures.lasts
