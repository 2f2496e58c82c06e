-- Which facts are kept where a name is bound again, and where the state changes.
use Rattle.std.specs.Prelude.{Bool, not, List, [], ◌∷◌, if◌then◌else◌}
use Rattle.c_values.specs.Name.{Name}
use Rattle.expression_lang.specs.Expression.{Exp}
use Rattle.expression_lang.specs.Mentions.{names, reads}
use Rattle.ac_expr.specs.Fact.{Fact, stands_for}

abbrev pub facts_where : (Exp → Bool) → List Fact → List Fact
facts_where test [] = []
facts_where test (f ∷ fs) = if test (stands_for f) then f ∷ facts_where test fs else facts_where test fs

abbrev pub without_name : Name → List Fact → List Fact
without_name x fs = facts_where (λ e. not (names x e)) fs

abbrev pub without_reads : List Fact → List Fact
without_reads fs = facts_where (λ e. not (reads e)) fs
