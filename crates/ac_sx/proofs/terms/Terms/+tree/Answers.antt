use Rattle.std.proofs.Common.{arith}
use Rattle.ac_sx.specs.Table.{trees_of}
use Rattle.ac_sx.proofs.Shown.{part_below, part_shown}
use Rattle.ac_sx.proofs.terms.Terms.+tree.Goals as goal

pub tree-requires : goal.tree-requires
tree-requires t c =
    let below = part_below c.args.id.0 c.node.result.now c.in-List.ids c.deref-id-items.result.now c.loop-id.id-index (record { 0 = 0 }) c.node.ensures.parts c.in-List.is c.deref-id-items.ensures.value c.loop-id-test.true in
    let limit = c.requires in
    (omega (arith, below, c.decreases), omega (arith, below, limit))

pub loop-id-preserved : goal.loop-id-preserved
loop-id-preserved t c = part_shown (trees_of c.args.self.now) c.deref-id-items.result.now c.loop-id.id-index (record { 0 = 0 }) c.loop-id.parts.items c.push.new.self.items c.in_ok-part-in-List.part c.loop-id-test.true c.in_ok-push-in-List.ensures.items c.loop-id.invariant c.in_ok-part-in-List.ensures.tree
