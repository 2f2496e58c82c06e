-- The truth value or the number that a constant is, and what is computed of an expression of constants alone.
use Rattle.std.specs.Prelude.{Bool, true, false, Option, Some, None, ℤ}
use Rattle.c_values.specs.Value.{Value, Truth}
use Rattle.expression_lang.specs.Expression.{Exp, NumberLit, TruthLit, And, Or, Imp, Not, If}

abbrev pub literal_truth : Exp → Option Bool
literal_truth (TruthLit b) = Some b
literal_truth _ = None

abbrev pub literal_number : Exp → Option ℤ
literal_number (NumberLit n) = Some n
literal_number _ = None

abbrev pub truth_of : Option Value → Option Bool
truth_of (Some (Truth b)) = Some b
truth_of _ = None

-- a head that a claim may stand under, and be what it gives
abbrev pub is_connective : Exp → Bool
is_connective (And a b) = true
is_connective (Or a b) = true
is_connective (Imp a b) = true
is_connective (Not a) = true
is_connective (If c a b) = true
is_connective e = false
