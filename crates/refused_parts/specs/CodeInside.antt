-- Where the code goes on from a node to a part of its tree: the command or the program that the part is about, where it is about one.
use Rattle.std.specs.Prelude.{ℕ, ◌+◌, ◌-◌, ◌==◌, length, Option, Some, None, if◌then◌else◌}
use Rattle.std.specs.Option.{option_and_then}
use Rattle.simpl_lang.specs.Command as C
use Rattle.simpl_lang.specs.Command.{Simpl}
use Rattle.monad_lang.specs.Program as M
use Rattle.monad_lang.specs.Program.{Mon}
use Rattle.rule_exn.specs.Rule as X
use Rattle.rule_local.specs.Rule as L
use Rattle.rule_heap.specs.Rule as H
use Rattle.rule_word.specs.Rule as W
use Rattle.rule_eq.specs.Rule as Q

-- the first of two at position 0, and the last behind
abbrev pub either : {A : Type 0} → ℕ → A → A → A
either i a b = if i == 0 then a else b

abbrev pub command_inside : Simpl → ℕ → Option Simpl
command_inside (C.Seq a b) i = Some (either i a b)
command_inside (C.Cond e a b) i = Some (either i a b)
command_inside (C.Catch a b) i = Some (either i a b)
command_inside (C.Guard g a) i = Some a
command_inside (C.While gs e a) i = Some a
command_inside _ i = None

abbrev pub exception_inside : X.Rule → Simpl → ℕ → Option Simpl
exception_inside r c i = command_inside c i

abbrev pub local_inside : L.Rule → Simpl → ℕ → Option Simpl
local_inside L.Start c i = Some c
local_inside _ c i = command_inside c i

abbrev pub bind_inside : Mon → ℕ → Option Mon
bind_inside (M.Bind m xs n) i = Some (either i m n)
bind_inside _ i = None

-- behind its test
abbrev pub branch_inside : Mon → ℕ → Option Mon
branch_inside (M.If e m n) i = either i None (Some (either (i - 1) m n))
branch_inside _ i = None

-- behind the start expressions, the guard and the test
abbrev pub body_inside : Mon → ℕ → Option Mon
body_inside (M.Loop starts guard test m) i = if i == length starts + 2 then Some m else None
body_inside _ i = None

-- the second of two programs
abbrev pub second : Mon → Option Mon
second (M.Bind m xs n) = Some n
second _ = None

abbrev pub heap_inside : H.Rule → Mon → ℕ → Option Mon
heap_inside H.Bind m i = bind_inside m i
heap_inside H.If m i = branch_inside m i
heap_inside H.Loop m i = body_inside m i
heap_inside H.Pointer m i = either i None (option_and_then second (second m))
heap_inside (H.Drop q) m i = either i None (second m)
heap_inside _ m i = None

abbrev pub word_inside : W.Rule → Mon → ℕ → Option Mon
word_inside (W.Bind ks) m i = bind_inside m i
word_inside W.If m i = branch_inside m i
word_inside (W.Loop ks) m i = body_inside m i
word_inside (W.Recast ks) m i = Some m
word_inside _ m i = None

-- of the rules of equality no part is about an expression
abbrev pub whole_inside : Mon → ℕ → Option Mon
whole_inside (M.Bind m xs n) i = Some (either i m n)
whole_inside (M.If e m n) i = Some (either i m n)
whole_inside (M.Loop starts guard test m) i = Some m
whole_inside _ i = None

abbrev pub equal_inside : Q.Rule → Mon → ℕ → Option Mon
equal_inside (Q.Trans n) m i = Some (either i m n)
equal_inside _ m i = whole_inside m i
