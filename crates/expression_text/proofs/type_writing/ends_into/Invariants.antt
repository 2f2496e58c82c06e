-- The ends that are left, behind what is written, are all.
use Rattle.std.proofs.Common.{◌≡◌, vec_len}
use Rattle.expression_text.specs.CodeWriting.{type_ends}
use Rattle.expression_text.proofs.type_writing.ends_into.Given as goal

abbrev pub invariant-back : goal.invariant-back
invariant-back g l = type_ends g.W.TreeWriter.writing l.left.items (g.W.TreeWriter.state l.out) ≡ type_ends g.W.TreeWriter.writing l.fn.lists.items (g.W.TreeWriter.state l.fn.out)

abbrev pub decreases-back : goal.decreases-back
decreases-back g l = vec_len l.left
