-- Each tag of a row is a root.
use Rattle.std.proofs.Common.{◌≡◌, List, map, ap, subst, slice_get, Some}
use Rattle.c_memory.specs.Memory.{Tag}
use Rattle.c_memory.specs.TagFault.{IsRoot}
use Rattle.c_memory.specs.CodeTag.{tag_of}
use Rattle.c_memory.proofs.Written.{item}
use Rattle.language_tests.proofs.heaps.heap_of_row.Goals as goal

pub new-requires-clause-tags : goal.new-requires-clause-tags
new-requires-clause-tags c = λ k t e.
    let same : map tag_of c.deref.result.now ≡ map tag_of c.in_ok-tags.tags.items = ap (λ xs. map tag_of xs) c.deref.ensures.value in
    item (IsRoot c.args.l.now) (map tag_of c.in_ok-tags.tags.items) k t (c.in_ok-tags.ensures c.args.l.now) (subst (λ (ts : List Tag). slice_get ts k ≡ Some t) same e)
