-- A room in memory for what is written, some of whose writes are planned to fail.
use Rattle.std.specs.Prelude.{◌≡◌, ◌≤◌, IsSome, ℕ, ◌+◌, ◌-◌, ◌==◌, ◌||◌, nat_lt, min, Bool, if◌then◌else◌, List, [], ◌++◌, length, take, Option, Some, None, Vec}
use Rattle.std.specs.List.{list_any}
use Rattle.std.specs.declared.alloc.Global.{Global}
use Rattle.ac_base.specs.Count.{one_more}

-- the bytes taken, for how many there is room, the numbers of the calls that fail, at most how many bytes a call takes,
-- how many calls there were, and how many of them failed
pub record RoomInMemory : Type 0 where
  pub taken : List ℕ
  pub room : ℕ
  pub failing : List ℕ
  pub step : ℕ
  pub calls : ℕ
  pub faults : ℕ

-- before the first call
abbrev pub fresh_sink : ℕ → Vec ℕ Global → ℕ → RoomInMemory
fresh_sink room failing step = record { taken = []; room = room; failing = failing.items; step = step; calls = 0; faults = 0 }

-- how many of so many bytes a call is to take
abbrev pub wanted : RoomInMemory → ℕ → ℕ
wanted sink len = min sink.step len

-- whether the next call fails: it is planned to, or what is left of the room doesn't hold the bytes that it is to take
abbrev pub is_failing : RoomInMemory → ℕ → Bool
is_failing sink len = list_any (λ number. number == sink.calls) sink.failing || nat_lt (sink.room - length sink.taken) (wanted sink len)

-- how many bytes the next call takes, or that it fails
abbrev pub write_count : RoomInMemory → ℕ → Option ℕ
write_count sink len = if is_failing sink len then None else Some (wanted sink len)

-- the sink after a call with these bytes
abbrev pub after_write : RoomInMemory → List ℕ → RoomInMemory
after_write sink bytes =
    if is_failing sink (length bytes)
    then (record sink { calls = one_more sink.calls; faults = one_more sink.faults })
    else (record sink { calls = one_more sink.calls; taken = sink.taken ++ take (wanted sink (length bytes)) bytes })

-- it plans no failure and has room for so many bytes more
pub record HasRoomFor (sink : RoomInMemory) (len : ℕ) : Type 0 where
  pub unplanned : sink.failing ≡ []
  pub room : length sink.taken + len ≤ sink.room

-- a call with the bytes doesn't fail, counts no fault and leaves room for those that it didn't take
pub record TakesUnfailing (sink : RoomInMemory) (bytes : List ℕ) : Type 0 where
  pub takes : IsSome (write_count sink (length bytes))
  pub counts : (after_write sink bytes).faults ≡ sink.faults
  pub stays : HasRoomFor (after_write sink bytes) (length bytes - wanted sink (length bytes))
