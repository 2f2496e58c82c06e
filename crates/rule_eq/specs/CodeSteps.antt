-- How the kernel goes along a sequence: a rule that has two parts of which the last is checked by the same loop.
use Rattle.std.specs.Prelude.{ℕ, zero, suc, Bool, true, false, List, [], ◌∷◌}
use Rattle.ac_expr.specs.Fact.{Fact}
use Rattle.ac_expr.specs.Passed.{Part}
use Rattle.monad_lang.specs.Program as M
use Rattle.monad_lang.specs.Program.{Mon}
use Rattle.rule_eq.specs.Rule as R
use Rattle.rule_eq.specs.Rule.{Rule, Point}
use Rattle.rule_eq.specs.Table.{behind, within}

abbrev pub is_along : Rule → Bool
is_along (R.Trans n) = true
is_along R.Bind = true
is_along _ = false

-- it has no parts
abbrev pub is_leaf : Rule → Bool
is_leaf (R.Trans n) = false
is_leaf R.Bind = false
is_leaf R.If = false
is_leaf R.Loop = false
is_leaf _ = true

-- the first of two programs, or the program itself, and the second
abbrev pub first_of : Mon → Mon
first_of (M.Bind m xs n) = m
first_of m = m

abbrev pub last_of : Mon → Mon
last_of (M.Bind m xs n) = n
last_of m = m

-- the sides of the first part
abbrev pub left_first : Rule → Mon → Mon
left_first (R.Trans n) m = m
left_first _ m = first_of m

abbrev pub right_first : Rule → Mon → Mon
right_first (R.Trans n) m = n
right_first _ m = first_of m

-- and of the last
abbrev pub left_behind : Rule → Mon → Mon
left_behind (R.Trans n) m = n
left_behind _ m = last_of m

abbrev pub right_behind : Rule → Mon → Mon
right_behind (R.Trans n) m = m
right_behind _ m = last_of m

-- where that stands
abbrev pub bound_behind : Mon → Point → Point
bound_behind (M.Bind m xs n) at = behind m xs at
bound_behind m at = at

abbrev pub point_behind : Rule → Mon → Point → Point
point_behind (R.Trans n) m at = at
point_behind _ m at = bound_behind m at

-- how many parts of the right side are passed
abbrev pub passes : Rule → ℕ
passes (R.Trans n) = 0
passes _ = 1

-- the parts behind the first so many
abbrev pub rest_of : ℕ → List Part → List Part
rest_of zero ps = ps
rest_of (suc n) [] = []
rest_of (suc n) (p ∷ ps) = rest_of n ps

abbrev pub IsTurn : Mon → Type 0
IsTurn (M.Loop starts guard test m) = Unit {0}
IsTurn _ = ⊥

-- where a loop's guard, test and body stand, with these facts
abbrev pub turn_of : Mon → List Fact → Point → Point
turn_of (M.Loop starts guard test m) fs at = within starts fs at
turn_of m fs at = at
