-- The names that are left, or among those that were put.
use Rattle.std.proofs.Common.{◌≡◌, ◌||◌, map, length}
use Rattle.std.specs.HashSet.{contains_text}
use Rattle.c_values.specs.Name.{Name, is_among}
use Rattle.c_lang.specs.CodeTyped.{function_of}
use Rattle.ac_core.proofs.programs.function_names.Given as goal

abbrev pub invariant-functions : goal.invariant-functions
invariant-functions l = (x : Name) → (is_among x (map (λ f. f.name) (map function_of l.rest)) || contains_text l.names x) ≡ is_among x (map (λ f. f.name) (map function_of l.functions))

abbrev pub decreases-functions : goal.decreases-functions
decreases-functions l = length l.rest
