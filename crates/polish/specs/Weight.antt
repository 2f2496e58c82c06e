-- A number that no step makes larger, and that each step at a sequence lowers: a first part counts twice, so it falls where
-- sequences are turned, and each name counts, so it falls where a value is put in.
use Rattle.std.specs.Prelude.{ℕ, suc, ◌+◌, length}
use Rattle.monad_lang.specs.Program as M
use Rattle.monad_lang.specs.Program.{Mon}

abbrev pub weight : Mon → ℕ
weight (M.Bind m xs n) = suc (length xs + weight m + weight m + weight n)
weight (M.If e m n) = suc (weight m + weight n)
weight (M.Loop starts guard test m) = suc (weight m)
weight m = 0
