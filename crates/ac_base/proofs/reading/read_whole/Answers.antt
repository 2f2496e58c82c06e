use Rattle.std.proofs.Common.{rules, ℕ, arith, length-take}
use Rattle.ac_base.proofs.Front.{AreFront-next}
use Rattle.ac_base.proofs.reading.read_whole.Goals as goal

pub loop-bytes-preserved : goal.loop-bytes-preserved
loop-bytes-preserved g c =
    let so_far = c.loop-bytes.invariant in
    let read = c.in_ok-count.ensures in
    record {
      contents = search rules;
      counts = λ n. omega (arith, so_far.counts n, read.counts n);
      within = omega (arith, c.in_ok-extend_from_slice.ensures.len, length-take {A = ℕ});
      front =
          AreFront-next _ _ _ _ _ _ _ _
          (so_far.contents c.args.name.now)
          (omega (arith, c.len-len.ensures, c.loop-bytes.bytes.ok.0))
          (omega (arith, read.within, c.read_at.auto.into))
          so_far.front read.bytes c.in_ok-extend_from_slice.ensures.items;
    }
