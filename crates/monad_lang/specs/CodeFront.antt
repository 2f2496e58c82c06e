-- Programs from all but their last program and that, and programs without programs in them.
use Rattle.std.specs.Prelude.{List, [], ◌∷◌, map, string_bytes}
use Rattle.expression_lang.specs.CodeExpression.{exp_of}
use Rattle.monad_lang.specs.declared.fronts.Front as F
use Rattle.monad_lang.specs.Program.{Mon, Bind, If, Loop}
use Rattle.monad_lang.specs.CodeProgram.{start_of, mon_of}

abbrev pub with_front : F.Front → Mon → Mon
with_front (F.TheVariants.Bind m xs) last = Bind (mon_of m.value) (map string_bytes xs.items) last
with_front (F.TheVariants.If e m) last = If (exp_of e.value) (mon_of m.value) last
with_front (F.TheVariants.Loop starts guard test) last = Loop (map start_of starts.items) (exp_of guard.value) (exp_of test.value) last

-- the first front first
abbrev pub with_fronts : List F.Front → Mon → Mon
with_fronts [] last = last
with_fronts (x ∷ xs) last = with_front x (with_fronts xs last)

-- a program without programs in it
abbrev pub IsStep : Mon → Type 0
IsStep (Bind m xs n) = ⊥
IsStep (If e m n) = ⊥
IsStep (Loop starts guard test m) = ⊥
IsStep _ = Unit {0}
