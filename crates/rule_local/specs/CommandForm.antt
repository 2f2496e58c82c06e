-- Which expressions a command has, and commands in bytes form: without reads of typed heaps.
use Rattle.std.specs.Prelude.{Bool, false, not, ◌||◌, List, [], ◌∷◌}
use Rattle.expression_lang.specs.Expression.{Exp}
use Rattle.expression_lang.specs.Form.{has, path_has, is_read}
use Rattle.simpl_lang.specs.Command.{Condition, Simpl, Skip, Throw, Set, SetGlobal, Store, Pick, Seq, Cond, Guard, Catch, While, Call}
use Rattle.monad_lang.specs.Form.{some_has}

abbrev pub conditions_have : (Exp → Bool) → List Condition → Bool
conditions_have test [] = false
conditions_have test (c ∷ cs) = has test c.exp || conditions_have test cs

-- some expression of the command has a subexpression that passes the test
abbrev pub command_has : (Exp → Bool) → Simpl → Bool
command_has test Skip = false
command_has test Throw = false
command_has test (Set x e) = has test e
command_has test (SetGlobal x path e) = path_has test path || has test e
command_has test (Store t p path e) = has test p || path_has test path || has test e
command_has test (Pick x) = false
command_has test (Seq a b) = command_has test a || command_has test b
command_has test (Cond e a b) = has test e || command_has test a || command_has test b
command_has test (Guard c a) = has test c.exp || command_has test a
command_has test (Catch a b) = command_has test a || command_has test b
command_has test (While cs e a) = conditions_have test cs || has test e || command_has test a
command_has test (Call x f es) = some_has test es

abbrev pub is_bytes_command : Simpl → Bool
is_bytes_command a = not (command_has is_read a)
