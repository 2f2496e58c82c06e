-- Names of locals in commands.
use Rattle.std.specs.Prelude.{◌≡◌, Bool, false, ◌||◌, List, [], ◌∷◌, Option, Some, None}
use Rattle.c_values.specs.Name.{Name, same_name}
use Rattle.expression_lang.specs.Expression.{Exp, Path}
use Rattle.expression_lang.specs.Evaluation.{Env}
use Rattle.expression_lang.specs.Form.{path_has}
use Rattle.expression_lang.specs.Mentions.{is_name, names}
use Rattle.simpl_lang.specs.Command.{Condition, Simpl, Skip, Throw, Set, SetGlobal, Store, Pick, Seq, Cond, Guard, Catch, While, Call}

abbrev pub path_names : Name → Path → Bool
path_names x path = path_has (is_name x) path

abbrev pub some_names : Name → List Exp → Bool
some_names x [] = false
some_names x (e ∷ es) = names x e || some_names x es

abbrev pub conditions_name : Name → List Condition → Bool
conditions_name x [] = false
conditions_name x (c ∷ cs) = names x c.exp || conditions_name x cs

abbrev pub is_target : Name → Option Name → Bool
is_target x None = false
is_target x (Some y) = same_name x y

-- the name of a local stands in the command
abbrev pub command_names : Name → Simpl → Bool
command_names x Skip = false
command_names x Throw = false
command_names x (Set y e) = same_name x y || names x e
command_names x (SetGlobal y path e) = path_names x path || names x e
command_names x (Store t p path e) = names x p || path_names x path || names x e
command_names x (Pick y) = same_name x y
command_names x (Seq a b) = command_names x a || command_names x b
command_names x (Cond e a b) = names x e || command_names x a || command_names x b
command_names x (Guard c a) = names x c.exp || command_names x a
command_names x (Catch a b) = command_names x a || command_names x b
command_names x (While cs e a) = conditions_name x cs || names x e || command_names x a
command_names x (Call y f es) = is_target x y || some_names x es

-- the locals have the same values, but for one
abbrev pub AgreeBut : Name → Env → Env → Type 0
AgreeBut x env env' = (y : Name) → same_name x y ≡ false → env' y ≡ env y
