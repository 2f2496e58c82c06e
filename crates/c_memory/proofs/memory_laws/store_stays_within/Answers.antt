use Rattle.c_values.specs.Layout.{shape_of, space}
use Rattle.c_values.proofs.Laid.{shape_good}
use Rattle.c_memory.proofs.Frame.{store_frame, spares}
use Rattle.c_memory.proofs.memory_laws.store_stays_within.Goals as goal

pub returns : goal.returns
returns c l t a v bytes x h complete outside =
    store_frame (space l) x (shape_of l t) a v bytes (spares (space l) x (shape_of l t) a (shape_good l h t complete).formed outside)
