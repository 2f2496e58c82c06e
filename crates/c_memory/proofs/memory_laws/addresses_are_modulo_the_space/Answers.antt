use Rattle.c_memory.proofs.Wrapped.{load_wrapped, store_wrapped}
use Rattle.c_memory.proofs.memory_laws.addresses_are_modulo_the_space.Goals as goal

pub returns-clause-loads : goal.returns-clause-loads
returns-clause-loads c space s a b bytes same = load_wrapped space bytes s a b same

pub returns-clause-stores : goal.returns-clause-stores
returns-clause-stores c space s a b v bytes same = store_wrapped space s a b v bytes same
