-- Programs that bind few names at a time.
use Rattle.std.specs.Prelude.{ℕ, ◌^◌, nat_le, Bool, true, ◌&&◌, length}
use Rattle.monad_lang.specs.Program.{Mon, Bind, If, Loop}

-- so many that each position among them has 32 bits
abbrev pub most_names : ℕ
most_names = 2 ^ 32

abbrev pub binds_few : Mon → Bool
binds_few (Bind m xs n) = nat_le (length xs) most_names && (binds_few m && binds_few n)
binds_few (If e m n) = binds_few m && binds_few n
binds_few (Loop starts guard test m) = binds_few m
binds_few m = true
