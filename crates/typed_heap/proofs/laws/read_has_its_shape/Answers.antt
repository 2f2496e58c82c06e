-- What is read is of the place's shape.
use Rattle.typed_heap.proofs.Kept.{read_shaped}
use Rattle.typed_heap.proofs.laws.read_has_its_shape.Goals as goal

pub returns : goal.returns
returns c l heap t a path q h is complete e = read_shaped l h t a path q complete e heap is
