-- Which places of a program are the left side of a rule that makes it simpler, by the rules' own conditions: a tidy program has
-- none.
use Rattle.std.specs.Prelude.{◌≡◌, ℕ, true, [], Option, Some, None, ◌⊎◌}
use Rattle.expression_lang.specs.Expression.{Exp, Var, WordLit, NumberLit, TruthLit}
use Rattle.monad_lang.specs.Program as M
use Rattle.monad_lang.specs.Program.{Mon}
use Rattle.monad_lang.specs.Form.{is_bytes, is_heaps, is_numbers}
use Rattle.rule_eq.specs.Rule as R
use Rattle.rule_eq.specs.Rule.{Rule, Point}
use Rattle.rule_eq.specs.Table.{Taken, taken_at, row}

-- the program is the rule's left side, for some right side
abbrev pub IsLeftOf : Point → Rule → Mon → Type 0
IsLeftOf at rule m = (m' : Mon) × (row at rule m m').holds

-- a variable or a constant
abbrev pub IsAtom : Exp → Type 0
IsAtom (Var y) = Unit {0}
IsAtom (WordLit w) = Unit {0}
IsAtom (NumberLit n) = Unit {0}
IsAtom (TruthLit b) = Unit {0}
IsAtom e = ⊥

abbrev pub TakesAtom : Option Taken → Type 0
TakesAtom None = ⊥
TakesAtom (Some k) = IsAtom k.exp

-- the value at the position is a variable or a constant
abbrev pub AtomAt : ℕ → Mon → Type 0
AtomAt i (M.Bind (M.Ret es) xs m) = TakesAtom (taken_at i es xs)
AtomAt i m = ⊥

abbrev pub GuardsTrue : Mon → Type 0
GuardsTrue (M.Bind (M.Guard (TruthLit true)) [] m) = Unit {0}
GuardsTrue m = ⊥

pub data IsSimplified (at : Point) (m : Mon) : Type 0 where
  by_bind_ret : IsLeftOf at R.BindRet m → IsSimplified at m
  by_assoc : IsLeftOf at R.Assoc m → IsSimplified at m
  by_if_const : IsLeftOf at R.IfConst m → IsSimplified at m
  by_guard_known : GuardsTrue m → IsLeftOf at R.GuardKnown m → IsSimplified at m
  by_ret_one : (i : ℕ) → AtomAt i m → IsLeftOf at (R.RetOne i) m → IsSimplified at m

-- at some place of the program
abbrev pub AtSomePlace : (Mon → Type 0) → Mon → Type 0
AtSomePlace P (M.Bind m xs n) = P (M.Bind m xs n) ⊎ AtSomePlace P m ⊎ AtSomePlace P n
AtSomePlace P (M.If e m n) = P (M.If e m n) ⊎ AtSomePlace P m ⊎ AtSomePlace P n
AtSomePlace P (M.Loop starts guard test m) = P (M.Loop starts guard test m) ⊎ AtSomePlace P m
AtSomePlace P m = P m

-- the rules that make programs simpler
abbrev pub Simplifies : Rule → Type 0
Simplifies (R.RetOne i) = Unit {0}
Simplifies R.BindRet = Unit {0}
Simplifies R.Assoc = Unit {0}
Simplifies R.IfConst = Unit {0}
Simplifies R.GuardKnown = Unit {0}
Simplifies rule = ⊥

-- a program keeps the forms that another one has
pub record KeepsForms (m m' : Mon) : Type 0 where
  pub bytes : is_bytes m ≡ true → is_bytes m' ≡ true
  pub heaps : is_heaps m ≡ true → is_heaps m' ≡ true
  pub numbers : is_numbers m ≡ true → is_numbers m' ≡ true
