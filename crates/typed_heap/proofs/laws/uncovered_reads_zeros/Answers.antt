-- Where no tag covers the root, zeros are read.
use Rattle.typed_heap.proofs.Found.{read_uncovered}
use Rattle.typed_heap.proofs.laws.uncovered_reads_zeros.Goals as goal

pub returns : goal.returns
returns c l cells t a path h = read_uncovered l t a path cells h
