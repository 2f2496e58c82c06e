-- Free names of expressions and programs, and names that a binder would capture.
use Rattle.std.specs.Prelude.{Bool, false, not, ◌&&◌, ◌||◌, List, [], ◌∷◌}
use Rattle.c_values.specs.Name.{Name, is_among}
use Rattle.expression_lang.specs.Expression.{Exp}
use Rattle.expression_lang.specs.Form.{path_has}
use Rattle.expression_lang.specs.Mentions.{is_name, names}
use Rattle.monad_lang.specs.Program.{Place, Stored, Written, Global, Start, Mon, Ret, Bind, Guard, If, Write, Loop, Call, Pick}
use Rattle.monad_lang.specs.Run.{start_names}

abbrev pub is_in_some : Name → List Exp → Bool
is_in_some x [] = false
is_in_some x (e ∷ es) = names x e || is_in_some x es

abbrev pub is_in_start : Name → List Start → Bool
is_in_start x [] = false
is_in_start x (s ∷ ss) = names x s.exp || is_in_start x ss

abbrev pub is_in_place : Name → Place → Bool
is_in_place x (Stored t p path) = names x p || path_has (is_name x) path
is_in_place x (Written t p path) = names x p || path_has (is_name x) path
is_in_place x (Global y path) = path_has (is_name x) path

-- the name is free in the program
abbrev pub is_free : Name → Mon → Bool
is_free x (Ret es) = is_in_some x es
is_free x (Bind m xs n) = is_free x m || (not (is_among x xs) && is_free x n)
is_free x (Guard e) = names x e
is_free x (If e m n) = names x e || is_free x m || is_free x n
is_free x (Write place e) = is_in_place x place || names x e
is_free x (Loop starts guard test m) = is_in_start x starts || (not (is_among x (start_names starts)) && (names x guard || names x test || is_free x m))
is_free x (Call f es) = is_in_some x es
is_free x (Pick k) = false

-- a binder of y stands above a free x
abbrev pub is_captured : Name → Name → Mon → Bool
is_captured y x (Ret es) = false
is_captured y x (Bind m xs n) = is_captured y x m || (not (is_among x xs) && ((is_among y xs && is_free x n) || is_captured y x n))
is_captured y x (Guard e) = false
is_captured y x (If e m n) = is_captured y x m || is_captured y x n
is_captured y x (Write place e) = false
is_captured y x (Loop starts guard test m) =
    not (is_among x (start_names starts)) && ((is_among y (start_names starts) && (names x guard || names x test || is_free x m)) || is_captured y x m)
is_captured y x (Call f es) = false
is_captured y x (Pick k) = false
