-- Whether a program captures some name of an expression that is put in for a name, as a test.
use Rattle.std.specs.Prelude.{Bool, false, not, ◌&&◌, ◌||◌}
use Rattle.c_values.specs.Name.{Name, is_among}
use Rattle.expression_lang.specs.Expression.{Exp}
use Rattle.expression_lang.specs.Mentions as X
use Rattle.ac_expr.specs.Lasting.{is_unnamed}
use Rattle.monad_lang.specs.Program.{Mon, Ret, Bind, Guard, If, Write, Loop, Call, Pick}
use Rattle.monad_lang.specs.Run.{start_names}
use Rattle.monad_lang.specs.Names.{is_free}

-- a binder of a name of e stands above a free x
abbrev pub captures : Exp → Name → Mon → Bool
captures e x (Ret es) = false
captures e x (Bind m xs n) = captures e x m || (not (is_among x xs) && ((not (is_unnamed xs e) && is_free x n) || captures e x n))
captures e x (Guard a) = false
captures e x (If a m n) = captures e x m || captures e x n
captures e x (Write place a) = false
captures e x (Loop starts guard test m) =
    not (is_among x (start_names starts))
    && ((not (is_unnamed (start_names starts) e) && (X.names x guard || X.names x test || is_free x m)) || captures e x m)
captures e x (Call f es) = false
captures e x (Pick k) = false
