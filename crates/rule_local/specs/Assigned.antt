-- Which locals a command assigns.
use Rattle.std.specs.Prelude.{◌≡◌, Bool, true, false, ◌||◌, List}
use Rattle.c_values.specs.Name.{Name, same_name, is_among}
use Rattle.simpl_lang.specs.Command.{Simpl, Skip, Throw, Set, SetGlobal, Store, Pick, Seq, Cond, Guard, Catch, While, Call}
use Rattle.simpl_lang.specs.Names.{is_target}

abbrev pub assigns : Name → Simpl → Bool
assigns y Skip = false
assigns y Throw = false
assigns y (Set x e) = same_name y x
assigns y (SetGlobal x path e) = false
assigns y (Store t p path e) = false
assigns y (Pick x) = same_name y x
assigns y (Seq a b) = assigns y a || assigns y b
assigns y (Cond e a b) = assigns y a || assigns y b
assigns y (Guard c a) = assigns y a
assigns y (Catch a b) = assigns y a || assigns y b
assigns y (While cs e a) = assigns y a
assigns y (Call x f es) = is_target y x

-- what the command assigns and is needed is in the list
abbrev pub Carries : List Name → Simpl → (Name → Bool) → Type 0
Carries us a needed = (y : Name) → assigns y a ≡ true → needed y ≡ true → is_among y us ≡ true
