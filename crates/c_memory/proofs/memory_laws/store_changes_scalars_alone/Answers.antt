use Rattle.c_values.specs.Layout.{shape_of, space}
use Rattle.c_values.proofs.Laid.{shape_good}
use Rattle.c_memory.proofs.Frame.{store_frame}
use Rattle.c_memory.proofs.Padding.{padding_spared}
use Rattle.c_memory.proofs.memory_laws.store_changes_scalars_alone.Goals as goal

pub returns : goal.returns
returns c l t a v bytes x h complete none =
    store_frame (space l) x (shape_of l t) a v bytes (padding_spared l (space l) x (shape_of l t) a (shape_good l h t complete).laid none)
