-- A choice of these branches, and a loop of this body.
use Rattle.std.specs.Prelude.{◌≡◌}
use Rattle.monad_lang.specs.Program as M
use Rattle.monad_lang.specs.Program.{Mon}

abbrev pub IsIf : Mon → Mon → Mon → Type 0
IsIf m n (M.If e a b) = (a ≡ m) × (b ≡ n)
IsIf m n r = ⊥

abbrev pub IsLoop : Mon → Mon → Type 0
IsLoop m (M.Loop starts guard test a) = a ≡ m
IsLoop m r = ⊥

-- no program is a part of it
abbrev pub IsSimple : Mon → Type 0
IsSimple (M.Bind m xs n) = ⊥
IsSimple (M.If e m n) = ⊥
IsSimple (M.Loop starts guard test m) = ⊥
IsSimple m = Unit {0}
