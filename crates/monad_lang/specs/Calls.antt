-- Which functions a program calls.
use Rattle.std.specs.Prelude.{Bool, true, ◌&&◌}
use Rattle.c_values.specs.Name.{Name}
use Rattle.monad_lang.specs.Program.{Mon, Ret, Bind, Guard, If, Write, Loop, Call, Pick}

-- each function that it calls passes the test
abbrev pub calls_only : (Name → Bool) → Mon → Bool
calls_only test (Ret es) = true
calls_only test (Bind m xs n) = calls_only test m && calls_only test n
calls_only test (Guard e) = true
calls_only test (If e m n) = calls_only test m && calls_only test n
calls_only test (Write place e) = true
calls_only test (Loop starts guard test' m) = calls_only test m
calls_only test (Call f es) = test f
calls_only test (Pick k) = true
