-- Calls, as the code keeps them: the called function, and the position of the function that calls it.
use Rattle.std.specs.Prelude.{◌≡◌, ℕ, ◌+◌, Bool, true, ◌||◌, List, [], ◌∷◌, ◌++◌, map, filter, String, string_bytes}
use Rattle.std.specs.List.{list_all}
use Rattle.std.specs.declared.alloc.Global.{Global}
use Rattle.c_values.specs.Name.{Name, same_name, is_among, are_distinct}
use Rattle.c_lang.specs.Typed.{TypedFn, TypedUnit}
use Rattle.c_meaning.specs.Levels.{casts, callees_in}

abbrev pub call_of : String Global × ℕ → Name × ℕ
call_of c = (string_bytes c.0, c.1)

abbrev pub calls_by : ℕ → List Name → List (Name × ℕ)
calls_by k ys = map (λ y. (y, k)) ys

-- the calls in functions, the first of which has a position
abbrev pub calls_from : ℕ → List TypedFn → List (Name × ℕ)
calls_from k [] = []
calls_from k (f ∷ fs) = calls_by k (callees_in f.body) ++ calls_from (k + 1) fs

-- the positions of those that call a function, once for each call
abbrev pub callers_of : List (String Global × ℕ) → Name → List ℕ
callers_of cs y = map (λ c. c.1) (filter (λ c. same_name y (string_bytes c.0)) cs)

abbrev pub function_names : TypedUnit → List Name
function_names u = map (λ f. f.name) u.functions

-- The names of functions are distinct, and each that is called is there. So it is in each typed unit.
pub record AreTogether (u : TypedUnit) : Type 0 where
  pub names : are_distinct (function_names u) ≡ true
  pub calls : list_all (λ f. list_all (λ y. is_among y (function_names u)) (callees_in f.body)) u.functions ≡ true

-- it works on bytes by itself
abbrev pub is_start : (Name → Bool) → TypedFn → Bool
is_start is_chosen f = casts f || is_chosen f.name
