-- What stays known along the parts of a program that come one after the other.
use Rattle.std.specs.Prelude.{ℕ, zero, suc, Bool, true, false, List, [], ◌∷◌, Option, Some, None}
use Rattle.c_values.specs.Name.{Name}
use Rattle.expression_lang.specs.Expression.{Exp}
use Rattle.ac_expr.specs.Fact.{Fact, Whole}
use Rattle.ac_expr.specs.Facts.{without_name, without_reads}

-- a part: what it guards, if it is a guard; the names that its values get; and whether it may change the state
pub record Part : Type 0 where
  pub guard : Option Exp
  pub names : List Name
  pub changes : Bool

abbrev pub without_names : List Name → List Fact → List Fact
without_names [] fs = fs
without_names (x ∷ xs) fs = without_names xs (without_name x fs)

abbrev pub with_guard : Option Exp → List Fact → List Fact
with_guard None fs = fs
with_guard (Some e) fs = Whole e ∷ fs

abbrev pub where_unchanged : Bool → List Fact → List Fact
where_unchanged true fs = without_reads fs
where_unchanged false fs = fs

-- what is known after a part
abbrev pub after : Part → List Fact → List Fact
after p fs = without_names p.names (with_guard p.guard (where_unchanged p.changes fs))

-- and after the first so many parts
abbrev pub passed : ℕ → List Part → List Fact → List Fact
passed zero ps fs = fs
passed (suc n) [] fs = fs
passed (suc n) (p ∷ ps) fs = passed n ps (after p fs)
