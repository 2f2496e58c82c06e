use Rattle.std.proofs.Common.{◌+◌, ◌%◌}
use Rattle.c_values.specs.Layout.{shape_of, space}
use Rattle.c_values.proofs.Laid.{shape_good}
use Rattle.c_memory.specs.Memory.{store}
use Rattle.c_memory.proofs.Frame.{store_frame, spares}
use Rattle.c_memory.proofs.RoundTrip.{load_same}
use Rattle.c_memory.proofs.memory_laws.load_is_as_before.Goals as goal

pub returns : goal.returns
returns c l t u a b v bytes h complete_t complete_u apart =
    load_same (space l) (store (space l) (shape_of l t) a v bytes) bytes (shape_of l u) b (shape_good l h u complete_u).formed
    (λ j less. store_frame (space l) ((b + j) % space l) (shape_of l t) a v bytes
    (spares (space l) ((b + j) % space l) (shape_of l t) a (shape_good l h t complete_t).formed (λ i lt. apart i j lt less)))
