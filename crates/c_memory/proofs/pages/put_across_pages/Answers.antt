use Rattle.std.proofs.Common.{◌∙◌, ◌^◌, ◌%◌, refl}
use Rattle.c_values.specs.Types.{address_width}
use Rattle.c_values.specs.CodeTypes.{target_of}
use Rattle.c_memory.specs.CodePages.{byte_at}
use Rattle.c_memory.proofs.Scalars.{put_next}
use Rattle.c_memory.proofs.pages.put_across_pages.Goals as goal

pub loop-i-preserved : goal.loop-i-preserved
loop-i-preserved c =
    let l = c.loop-i in
    record {
      bytes = put_next (2 ^ address_width (target_of c.args.target)) c.args.address l.i c.args.size l.rest c.moved.result (l.rest % 256) (byte_at l.pages) (byte_at c.put_byte.new.pages) c.loop-i-test.true c.moved.ensures refl c.put_byte.ensures.bytes ∙ l.invariant.bytes;
      pages = λ k h. c.put_byte.ensures.pages k (l.invariant.pages k h);
    }
