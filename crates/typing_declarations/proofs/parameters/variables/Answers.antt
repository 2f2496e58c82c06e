-- One more parameter behind those so far.
use Rattle.std.proofs.Common.{take}
use Rattle.std.proofs.lemmas.List.{take_more}
use Rattle.typing_declarations.proofs.NamedParameters.{variables_behind}
use Rattle.typing_declarations.proofs.parameters.variables.Goals as goal

pub loop-param-preserved : goal.loop-param-preserved
loop-param-preserved c =
    let so_far = take c.loop-param.param-index c.args.params.now in
    let more = take_more c.args.params.now c.loop-param.param-index c.param-item.result c.loop-param-test.true in
    let behind = variables_behind so_far c.param-item.result in
    cc (more, behind, c.param-item.is, c.loop-param.invariant, c.in_ok-add_variable.ensures)
