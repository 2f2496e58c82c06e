-- One tag more.
use Rattle.std.proofs.Common.{refl}
use Rattle.c_memory.specs.TagFault.{IsRoot}
use Rattle.c_memory.specs.CodeTag.{tag_of}
use Rattle.c_memory.proofs.Written.{one_more}
use Rattle.language_tests.proofs.heaps.row_of_tags.Goals as goal

pub loop-k-preserved : goal.loop-k-preserved
loop-k-preserved c l =
    one_more (IsRoot l) tag_of c.loop-k.tags.items c.push.new.self.items _ (c.loop-k.invariant l) (record { root = refl; object = refl }) c.in_ok-push.ensures.items
