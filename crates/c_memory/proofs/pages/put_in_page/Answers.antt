use Rattle.std.proofs.Common.{◌^◌}
use Rattle.c_values.specs.Types.{address_width}
use Rattle.c_values.specs.CodeTypes.{target_of}
use Rattle.c_memory.specs.CodePages.{byte_at}
use Rattle.c_memory.proofs.Scalars.{put_low_bytes}
use Rattle.c_memory.proofs.Spaces.{in_page_fits}
use Rattle.c_memory.proofs.pages.put_in_page.Goals as goal

pub returns-clause-bytes : goal.returns-clause-bytes
returns-clause-bytes c =
    let t = target_of c.args.target in
    put_low_bytes (2 ^ address_width t) c.args.address c.args.size c.args.bits (byte_at c.args.pages.now) (byte_at c.put_slice.new.pages) c.to_le_bytes-bytes.result c.to_le_bytes-bytes.ensures
    (in_page_fits t c.args.address c.args.size c.requires.address c.requires.page) c.requires.size c.put_slice.ensures.here c.put_slice.ensures.elsewhere
