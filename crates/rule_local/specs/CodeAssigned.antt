-- Tests of the locals that a command assigns.
use Rattle.std.specs.Prelude.{Bool, false, not, ◌&&◌, ◌||◌, List, Option, Some, None}
use Rattle.c_values.specs.Name.{Name, is_among}
use Rattle.simpl_lang.specs.Command.{Simpl, Skip, Throw, Set, SetGlobal, Store, Pick, Seq, Cond, Guard, Catch, While, Call}

abbrev pub target_passes : (Name → Bool) → Option Name → Bool
target_passes test None = false
target_passes test (Some x) = test x

-- some local that the command assigns passes the test
abbrev pub assigns_some : (Name → Bool) → Simpl → Bool
assigns_some test Skip = false
assigns_some test Throw = false
assigns_some test (Set x e) = test x
assigns_some test (SetGlobal x path e) = false
assigns_some test (Store t p path e) = false
assigns_some test (Pick x) = test x
assigns_some test (Seq a b) = assigns_some test a || assigns_some test b
assigns_some test (Cond e a b) = assigns_some test a || assigns_some test b
assigns_some test (Guard c a) = assigns_some test a
assigns_some test (Catch a b) = assigns_some test a || assigns_some test b
assigns_some test (While cs e a) = assigns_some test a
assigns_some test (Call x f es) = target_passes test x

-- not among those that are handed on, and needed
abbrev pub is_lost : List Name → (Name → Bool) → Name → Bool
is_lost us needed y = not (is_among y us) && needed y
