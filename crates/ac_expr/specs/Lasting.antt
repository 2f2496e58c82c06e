-- Which expressions stay facts through what comes after them, said of each by itself.
use Rattle.std.specs.Prelude.{ℕ, zero, suc, Bool, true, not, ◌&&◌, List, [], ◌∷◌}
use Rattle.c_values.specs.Name.{Name}
use Rattle.expression_lang.specs.Expression.{Exp}
use Rattle.expression_lang.specs.Mentions.{names, reads}
use Rattle.ac_expr.specs.Passed.{Part}

abbrev pub is_unnamed : List Name → Exp → Bool
is_unnamed [] e = true
is_unnamed (x ∷ xs) e = not (names x e) && is_unnamed xs e

abbrev pub lasts_part : Part → Exp → Bool
lasts_part p e = is_unnamed p.names e && not (reads e && p.changes)

abbrev pub lasts_passed : ℕ → List Part → Exp → Bool
lasts_passed zero ps e = true
lasts_passed (suc n) [] e = true
lasts_passed (suc n) (p ∷ ps) e = lasts_part p e && lasts_passed n ps e
