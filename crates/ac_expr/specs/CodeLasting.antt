-- Which expressions last through the code's chain of what came after.
use Rattle.std.specs.Prelude.{Bool, true, not, ◌&&◌, List}
use Rattle.expression_lang.specs.Expression.{Exp}
use Rattle.expression_lang.specs.Mentions.{names, reads}
use Rattle.ac_expr.specs.declared.lasting.After as A
use Rattle.ac_expr.specs.Passed.{Part}
use Rattle.ac_expr.specs.Lasting.{lasts_passed}

abbrev pub lasts : {S : Type 0} → (S → List Part) → A.After S → Exp → Bool
lasts parts A.Nothing e = true
lasts parts (A.Bound' p later x) e = not (names x.now e) && lasts parts later e
lasts parts (A.WithoutReads' p later) e = not (reads e) && lasts parts later e
lasts parts (A.Passed' p later s n) e = lasts_passed n (parts s) e && lasts parts later e
