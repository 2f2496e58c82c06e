use Rattle.std.proofs.Common.{rules}
use Rattle.c_limits.specs.CodeMeasure as machine
use Rattle.c_limits.proofs.LimitsSteps.{node_is}
use Rattle.c_limits.proofs.limits.measure.Measure.node.Goals as goal

pub returns : goal.returns
returns c = λ h. node_is c.args.at (machine.measure_of c.args.self.now) _ _ _ h c.in_ok-before.ensures c.in_ok-before-2.ensures (search rules)
