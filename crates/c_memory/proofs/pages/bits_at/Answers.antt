use Rattle.std.proofs.Common.{◌∙◌, ◌^◌}
use Rattle.c_values.specs.Types.{address_width}
use Rattle.c_values.specs.CodeTypes.{target_of}
use Rattle.c_memory.specs.CodePages.{byte_at}
use Rattle.c_memory.proofs.Scalars.{scalar_read}
use Rattle.c_memory.proofs.pages.bits_at.Goals as goal

pub returns : goal.returns
returns c = c.from_le_bytes.ensures ∙ scalar_read (2 ^ address_width (target_of c.args.target)) (byte_at c.args.pages.now) c.args.address c.args.size c.bytes_at.result c.requires.size c.bytes_at.ensures
