use Rattle.c_memory.proofs.Loaded.{store_bytes}
use Rattle.c_memory.proofs.memory_laws.store_leaves_bytes.Goals as goal

pub returns : goal.returns
returns c space s a v bytes known = store_bytes space s a v bytes known
