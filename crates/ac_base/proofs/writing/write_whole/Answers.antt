use Rattle.std.proofs.Common.{rules}
use Rattle.ac_base.proofs.Rest.{next_within, next_is_rest, next_grown}
use Rattle.ac_base.proofs.writing.write_whole.Goals as goal

pub loop-rest-preserved : goal.loop-rest-preserved
loop-rest-preserved g c =
    let bytes = c.args.bytes.now in
    let rest = c.loop-rest.rest.now in
    let so_far = c.loop-rest.invariant in
    let took = c.in_ok-count.ensures in
    record {
      count = search rules;
      within = next_within bytes rest c.in_ok-count.count so_far.within took.within so_far.left;
      left = next_is_rest bytes rest c.in_ok-count.count so_far.within took.within so_far.left;
      taken = next_grown bytes rest c.in_ok-count.count so_far.within took.within so_far.left _ _ _ so_far.taken took.taken;
    }
