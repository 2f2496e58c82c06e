use Rattle.c_memory.proofs.Places.{store_in_objects}
use Rattle.c_memory.proofs.heap_laws.write_stays_in_objects.Goals as goal

pub returns : goal.returns
returns c l m t a path q v x h tagged covered range e outside =
    store_in_objects l h t a path q range e v m.bytes m.tags x tagged.tags covered outside
