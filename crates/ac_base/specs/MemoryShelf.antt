-- Files in memory, some of whose reads are planned to fail.
use Rattle.std.specs.Prelude.{◌≡◌, ℕ, ◌+◌, ◌-◌, ◌==◌, min, Bool, if◌then◌else◌, List, [], ◌∷◌, length, map, Option, Some, None, is_some, IsSome, Vec, String, string_bytes}
use Rattle.std.specs.Option.{option_map}
use Rattle.std.specs.List.{list_any}
use Rattle.std.specs.Str.{bytes_eq}
use Rattle.std.specs.declared.alloc.Global.{Global}
use Rattle.ac_base.specs.Count.{last_count, one_more}

-- the files with their names, the numbers of the calls that fail, at most how many bytes a call gives,
-- how many calls there were, how many of them failed as planned, and how many were on a name that isn't held
pub record FilesInMemory : Type 0 where
  pub files : List (List ℕ × List ℕ)
  pub failing : List ℕ
  pub step : ℕ
  pub calls : ℕ
  pub planned : ℕ
  pub missing : ℕ

-- the bytes of a name and of its file
abbrev pub named : (String Global × Vec ℕ Global) → List ℕ × List ℕ
named file = (string_bytes file.0, file.1.items)

-- before the first call
abbrev pub fresh_shelf : Vec (String Global × Vec ℕ Global) Global → Vec ℕ Global → ℕ → FilesInMemory
fresh_shelf files failing step = record { files = map named files.items; failing = failing.items; step = step; calls = 0; planned = 0; missing = 0 }

-- the first file of the name
abbrev pub file_named : List ℕ → List (List ℕ × List ℕ) → Option (List ℕ)
file_named name [] = None
file_named name (file ∷ files) = if bytes_eq file.0 name then Some file.1 else file_named name files

-- what is told of a name
abbrev pub told_contents : FilesInMemory → List ℕ → Option (List ℕ)
told_contents shelf name = file_named name shelf.files

-- the planned failures, and for a name that isn't held the calls on such names besides
abbrev pub fault_count : FilesInMemory → List ℕ → ℕ
fault_count shelf name =
    if is_some (told_contents shelf name) then shelf.planned else min (shelf.planned + shelf.missing) last_count

-- whether the next call is one of those that fail
abbrev pub is_planned : FilesInMemory → Bool
is_planned shelf = list_any (λ number. number == shelf.calls) shelf.failing

-- how many bytes the next call gives, or that it fails
abbrev pub read_count : FilesInMemory → List ℕ → ℕ → ℕ → Option ℕ
read_count shelf name at room =
    if is_planned shelf then None else option_map (λ file. min (min shelf.step room) (length file - at)) (told_contents shelf name)

-- the shelf after a call on this name
abbrev pub after_read : FilesInMemory → List ℕ → FilesInMemory
after_read shelf name = record shelf {
  calls = one_more shelf.calls;
  planned = if is_planned shelf then one_more shelf.planned else shelf.planned;
  missing = if is_some (told_contents shelf name) then shelf.missing else one_more shelf.missing;
}

-- it plans no failure and holds the name
pub record IsSound (shelf : FilesInMemory) (name : List ℕ) : Type 0 where
  pub unplanned : shelf.failing ≡ []
  pub held : IsSome (told_contents shelf name)

-- no call on the name fails, and no call on any name makes one fail or counts a fault of it
pub record NeverFails (shelf : FilesInMemory) (name : List ℕ) : Type 0 where
  pub gives : (at room : ℕ) → IsSome (read_count shelf name at room)
  pub stays : (other : List ℕ) → IsSound (after_read shelf other) name
  pub counts : (other : List ℕ) → fault_count (after_read shelf other) name ≡ fault_count shelf name
