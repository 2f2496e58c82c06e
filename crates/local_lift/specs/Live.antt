-- Which locals are looked at from the start of a flat command on, where it is known which are looked at after it. What a loop's
-- body hands from each local to each other is found once, so nested loops cost no power of their depth.
use Rattle.std.specs.Prelude.{Bool, false, not, ◌&&◌, ◌||◌, List, [], ◌∷◌}
use Rattle.c_values.specs.Name.{Name, same_name, is_among}
use Rattle.expression_lang.specs.Mentions.{names}
use Rattle.simpl_lang.specs.Command as C
use Rattle.simpl_lang.specs.Command.{Simpl}
use Rattle.simpl_lang.specs.Names.{path_names, is_target}
use Rattle.monad_lang.specs.Names.{is_in_some}
use Rattle.rule_local.specs.Table.{conj}

abbrev pub none : Name → Bool
none y = false

abbrev pub some_of : (Name → Bool) → List Name → Bool
some_of test [] = false
some_of test (x ∷ xs) = test x || some_of test xs

-- one name leads to another, in steps by way of the names of the list
abbrev pub through : List Name → (Name → Name → Bool) → Name → Name → Bool
through [] leads = leads
through (k ∷ ks) leads = through ks (λ x y. leads x y || (leads x k && leads k y))

-- the names from which one begins, and to which they lead
abbrev pub spread : List Name → (Name → Name → Bool) → (Name → Bool) → Name → Bool
spread xs leads from y = from y || some_of (λ z. from z && through xs leads z y) xs

-- of a function with these locals
abbrev pub live : List Name → Simpl → (Name → Bool) → Name → Bool
live xs C.Skip p y = p y
live xs C.Throw p y = p y
live xs (C.Set x e) p y = ((is_among x xs && p x) && names y e) || (not (same_name y x) && p y)
live xs (C.SetGlobal x path e) p y = (path_names y path || names y e) || p y
live xs (C.Store t a path e) p y = (names y a || path_names y path || names y e) || p y
live xs (C.Pick x) p y = not (same_name y x) && p y
live xs (C.Seq a b) p y = live xs a (live xs b p) y
live xs (C.Cond e a b) p y = (names y e || live xs a p y) || live xs b p y
live xs (C.Guard g a) p y = names y g.exp || live xs a p y
live xs (C.Catch a b) p y = live xs a p y
live xs (C.While gs e a) p y = spread xs (λ z. live xs a (same_name z)) (λ z. ((names z (conj gs) || names z e) || live xs a none z) || p z) y
live xs (C.Call x f es) p y = is_in_some y es || (not (is_target y x) && p y)
