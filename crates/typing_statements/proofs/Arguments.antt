-- Arguments that are passed one after the other: none left.
use Rattle.std.proofs.Common.{◌≡◌, List, [], ◌∷◌, ◌++◌, ap}
use Rattle.std.proofs.lemmas.List.{append-nil}
use Rattle.c_values.specs.Types.{CType}
use Rattle.c_values.specs.Layout.{Layout}
use Rattle.typing_rules.specs.Calls.{passed}
use Rattle.typing_rules.specs.Checked.{Ruling, Ruled, ◌>=>◌}
use Rattle.c_lang.specs.Typed as C

-- what is ruled, behind what is there
abbrev pub ruled_behind : {A : Type 0} → List A → Ruling (List A) → Ruling (List A)
ruled_behind before r = r >=> λ more. Ruled (before ++ more)

-- no arguments are left
pub passed_done : (l : Layout) (before : List C.Expr) (ts : List CType) → ruled_behind before (passed l ts []) ≡ Ruled before
passed_done l before [] = ap Ruled (append-nil before)
passed_done l before (t ∷ ts) = ap Ruled (append-nil before)
