-- What a program weighs while it is dropped: each turn to the right makes it lighter.
use Rattle.std.specs.Prelude.{ℕ, ◌+◌, ◌*◌}
use Rattle.monad_lang.specs.declared.program.Mon as M

abbrev pub weight : M.Mon → ℕ
weight (M.Ret es) = 1
weight (M.Guard e) = 1
weight (M.Write place e) = 1
weight (M.Call f es) = 1
weight (M.Pick k) = 1
weight (M.Bind' p m xs q n) = 1 + (2 * weight m + weight n)
weight (M.If' e p m q n) = 1 + (2 * weight m + weight n)
weight (M.Loop' starts guard test p m) = 1 + weight m
