use Rattle.std.proofs.Common.{◌<◌, ℕ, List, IfNone, IfSome, slice_get, Some, ◌≡◌, map, subst}
use Rattle.c_memory.specs.Memory.{Tag}
use Rattle.c_memory.specs.CodeTag.{tag_of}
use Rattle.c_memory.specs.CodeTagIndex.{IsLastTag}
use Rattle.c_memory.proofs.Indexed.{last_none, last_some}
use Rattle.c_memory.proofs.tag_table.TagTable.last_at.Goals as goal

pub returns-clause-none : goal.returns-clause-none
returns-clause-none c =
    let f = c.self.inside in
    subst (λ (ts : List Tag). IfNone c.last_at.result ((k : ℕ) (t : Tag) → slice_get ts k ≡ Some t → c.args.address < t.address)) c.self.view_is
    (last_none (map tag_of f.tags.items) f.places c.self.invariant c.args.address c.last_at.result c.last_at.ensures.none)

pub returns-clause-some : goal.returns-clause-some
returns-clause-some c =
    let f = c.self.inside in
    subst (λ (ts : List Tag). IfSome c.last_at.result (IsLastTag ts c.args.address)) c.self.view_is
    (last_some (map tag_of f.tags.items) f.places c.self.invariant c.args.address c.last_at.result c.last_at.ensures.some)
