use Rattle.c_values.specs.Layout.{shape_of, space}
use Rattle.c_values.proofs.Laid.{shape_good}
use Rattle.c_memory.proofs.Loaded.{load_shaped}
use Rattle.c_memory.proofs.memory_laws.loaded_has_its_shape.Goals as goal

pub returns : goal.returns
returns c l t a bytes h complete known = load_shaped (space l) bytes known (shape_of l t) a (shape_good l h t complete).formed
