use Rattle.c_memory.proofs.Loaded.{store_loaded}
use Rattle.c_memory.proofs.memory_laws.loaded_is_stored.Goals as goal

pub returns : goal.returns
returns c space s a bytes known = store_loaded space bytes known s a
