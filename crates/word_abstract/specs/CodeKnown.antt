-- Facts in the order in which they came to be known, and which of them last.
use Rattle.std.specs.Prelude.{Bool, not, ◌&&◌, List, [], ◌∷◌, Option, Some, None, if◌then◌else◌}
use Rattle.c_values.specs.Name.{Name}
use Rattle.expression_lang.specs.Expression.{Exp}
use Rattle.expression_lang.specs.Mentions.{reads}
use Rattle.ac_expr.specs.Fact.{Fact, Whole}
use Rattle.ac_expr.specs.Lasting.{is_unnamed}

-- the first is the oldest, and all are newer than the others
abbrev pub newest_first : List Fact → List Fact → List Fact
newest_first [] older = older
newest_first (f ∷ fs) older = newest_first fs (f ∷ older)

-- where names are bound, and the state may change
abbrev pub lasts : List Name → Bool → Exp → Bool
lasts xs changes e = is_unnamed xs e && not (changes && reads e)

-- a guard whose values get names is one fact more where none of them is in it
abbrev pub with_lasting_guard : List Name → Option Exp → List Fact → List Fact
with_lasting_guard xs None fs = fs
with_lasting_guard xs (Some e) fs = if is_unnamed xs e then Whole e ∷ fs else fs
