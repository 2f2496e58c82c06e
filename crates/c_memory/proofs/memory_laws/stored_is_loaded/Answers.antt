use Rattle.c_values.specs.Layout.{shape_of, space}
use Rattle.c_values.proofs.Laid.{shape_good}
use Rattle.c_memory.proofs.Objects.{object_complete, object_fits}
use Rattle.c_memory.proofs.RoundTrip.{stored_back}
use Rattle.c_memory.proofs.memory_laws.stored_is_loaded.Goals as goal

pub returns : goal.returns
returns c l t a v bytes h object shaped =
    stored_back (space l) (shape_of l t) a v bytes (shape_good l h t (object_complete l t object)).formed (object_fits l t object) shaped
