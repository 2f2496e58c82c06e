-- The head of a place and its children: the expressions in it, in text order. The head has a hole for each.
use Rattle.std.specs.Prelude.{List, ◌∷◌}
use Rattle.expression_lang.specs.Expression.{Exp}
use Rattle.ac_expr.specs.Heads.{path_children, path_head, hole}
use Rattle.monad_lang.specs.Program.{Place, Stored, Written, Global}

abbrev pub place_children : Place → List Exp
place_children (Stored t p path) = p ∷ path_children path
place_children (Written t p path) = p ∷ path_children path
place_children (Global x path) = path_children path

abbrev pub place_head : Place → Place
place_head (Stored t p path) = Stored t hole (path_head path)
place_head (Written t p path) = Written t hole (path_head path)
place_head (Global x path) = Global x (path_head path)
