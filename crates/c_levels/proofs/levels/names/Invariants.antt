-- The names that are left, or among those that were put.
use Rattle.std.proofs.Common.{◌≡◌, ◌||◌, map, length}
use Rattle.std.specs.Prelude.{string_bytes}
use Rattle.std.specs.HashSet.{contains_text}
use Rattle.c_values.specs.Name.{Name, is_among}
use Rattle.c_levels.proofs.levels.names.Given as goal

abbrev pub invariant-rest : goal.invariant-rest
invariant-rest l = (q : Name) → (is_among q (map string_bytes l.rest) || contains_text l.names q) ≡ is_among q (map string_bytes l.list)

abbrev pub decreases-rest : goal.decreases-rest
decreases-rest l = length l.rest
