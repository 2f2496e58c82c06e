use Rattle.std.proofs.Common.{◌≤◌, ℕ, List, IfNone, IfSome, slice_get, Some, ◌≡◌, map, subst}
use Rattle.c_memory.specs.Memory.{Tag}
use Rattle.c_memory.specs.CodeTag.{tag_of}
use Rattle.c_memory.specs.CodeTagIndex.{IsNextTag}
use Rattle.c_memory.proofs.Indexed.{next_none, next_some}
use Rattle.c_memory.proofs.tag_table.TagTable.first_after.Goals as goal

pub returns-clause-none : goal.returns-clause-none
returns-clause-none c =
    let f = c.self.inside in
    subst (λ (ts : List Tag). IfNone c.first_after.result ((k : ℕ) (t : Tag) → slice_get ts k ≡ Some t → t.address ≤ c.args.address)) c.self.view_is
    (next_none (map tag_of f.tags.items) f.places c.self.invariant c.args.address c.first_after.result c.first_after.ensures.none)

pub returns-clause-some : goal.returns-clause-some
returns-clause-some c =
    let f = c.self.inside in
    subst (λ (ts : List Tag). IfSome c.first_after.result (IsNextTag ts c.args.address)) c.self.view_is
    (next_some (map tag_of f.tags.items) f.places c.self.invariant c.args.address c.first_after.result c.first_after.ensures.some)
