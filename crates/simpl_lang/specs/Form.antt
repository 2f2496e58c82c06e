-- Forms of commands: flat ones, without exceptions, and how many commands there are.
use Rattle.std.specs.Prelude.{ℕ, ◌+◌, Bool, true, false, ◌&&◌, length}
use Rattle.simpl_lang.specs.Command.{Simpl, Skip, Throw, Set, SetGlobal, Store, Pick, Seq, Cond, Guard, Catch, While, Call}

-- no throw, no catch
abbrev pub is_flat : Simpl → Bool
is_flat Skip = true
is_flat Throw = false
is_flat (Set x e) = true
is_flat (SetGlobal x path e) = true
is_flat (Store t p path e) = true
is_flat (Pick x) = true
is_flat (Seq a b) = is_flat a && is_flat b
is_flat (Cond e a b) = is_flat a && is_flat b
is_flat (Guard c a) = is_flat a
is_flat (Catch a b) = false
is_flat (While cs e a) = is_flat a
is_flat (Call x f es) = true

-- how many commands there are, each condition of a while counting for one
abbrev pub commands : Simpl → ℕ
commands Skip = 1
commands Throw = 1
commands (Set x e) = 1
commands (SetGlobal x path e) = 1
commands (Store t p path e) = 1
commands (Pick x) = 1
commands (Seq a b) = 1 + commands a + commands b
commands (Cond e a b) = 1 + commands a + commands b
commands (Guard c a) = 1 + commands a
commands (Catch a b) = 1 + commands a + commands b
commands (While cs e a) = 1 + length cs + commands a
commands (Call x f es) = 1
