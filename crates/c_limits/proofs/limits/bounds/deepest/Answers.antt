use Rattle.std.proofs.Common.{◌∙◌, rules}
use Rattle.c_limits.proofs.DepthSteps.{deepest_more}
use Rattle.c_limits.proofs.limits.bounds.deepest.Goals as goal

pub loop-preserved : goal.loop-preserved
loop-preserved c = deepest_more c.args.count c.loop.counter c.loop.depths.items c.pop.new.self.items c.in-Some.inner c.loop.depth c.max-depth.result c.loop-test.true c.in-Some.ensures.items (search rules) ∙ c.loop.invariant
