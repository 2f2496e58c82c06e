-- Commands that end without an exception whenever they end.
use Rattle.std.specs.Prelude.{Bool, true, false, ◌&&◌, ◌||◌}
use Rattle.simpl_lang.specs.Command.{Simpl, Skip, Throw, Set, SetGlobal, Store, Pick, Seq, Cond, Guard, Catch, While, Call}

-- No throw. A catch is quiet where either part is, any other command where all parts are.
abbrev pub quiet : Simpl → Bool
quiet Skip = true
quiet Throw = false
quiet (Set x e) = true
quiet (SetGlobal x path e) = true
quiet (Store t p path e) = true
quiet (Pick x) = true
quiet (Seq a b) = quiet a && quiet b
quiet (Cond e a b) = quiet a && quiet b
quiet (Guard c a) = quiet a
quiet (Catch a b) = quiet a || quiet b
quiet (While cs e a) = quiet a
quiet (Call x f es) = true
