-- Which shorter expression stands in an expression's place: the steps of expressions as a choice. Constants alone stand as their
-- value; what is decided by a truth value, what undoes another head, and a sum with 0 go.
use Rattle.std.specs.Prelude.{ℕ, zero, ◌==◌, Bool, true, false, ◌&&◌, List, Option, Some, None, pos, if◌then◌else◌}
use Rattle.c_values.specs.Word.{Word}
use Rattle.c_values.specs.Number.{NumberOp, Add, least, greatest}
use Rattle.c_values.specs.Layout.{Layout}
use Rattle.expression_lang.specs.Expression.{Exp, WordLit, NumberLit, TruthLit, ToNat, ToInt, ToWord, Arith, Between, Eq, And, Or, Imp, Not, If}
use Rattle.expression_lang.specs.Sort.{Scope, sort_of, is_width, is_word_of}
use Rattle.ac_expr.specs.Fact.{Fact}
use Rattle.ac_expr.specs.SameExp.{same_exp}
use Rattle.ac_expr.specs.CodeConstants.{computed, as_constant}
use Rattle.expression_steps.specs.Rewritten.{Choice, or_else}
use Rattle.expression_steps.specs.Known.{is_known}

-- the value of an expression of constants alone that isn't a constant already, as far as 128 bits go
abbrev pub folded : Layout → Exp → Option Exp
folded l (WordLit w) = None
folded l (NumberLit n) = None
folded l (TruthLit b) = None
folded l e = as_constant (computed l e)

-- an expression that stands there where the test holds
abbrev pub where_true : Bool → Exp → Option Exp
where_true b e = if b then Some e else None

-- a truth value on the right of an `and`
abbrev pub by_right : Exp → Exp → Option Exp
by_right a (TruthLit true) = Some a
by_right a b = None

abbrev pub shorter_and : Exp → Exp → Option Exp
shorter_and (TruthLit true) b = Some b
shorter_and (TruthLit false) b = Some (TruthLit false)
shorter_and a b = by_right a b

abbrev pub shorter_or : Exp → Exp → Option Exp
shorter_or (TruthLit true) b = Some (TruthLit true)
shorter_or (TruthLit false) b = Some b
shorter_or a b = None

abbrev pub shorter_imp : Exp → Exp → Option Exp
shorter_imp (TruthLit true) b = Some b
shorter_imp (TruthLit false) b = Some (TruthLit true)
shorter_imp a b = None

abbrev pub shorter_if : Exp → Exp → Exp → Option Exp
shorter_if (TruthLit true) a b = Some a
shorter_if (TruthLit false) a b = Some b
shorter_if c a b = where_true (same_exp b a) a

-- 1, 0 and 0 of one width
abbrev pub is_flag : Word → Word → Word → Bool
is_flag u v w = u.width == w.width && u.bits == 1 && v.width == w.width && v.bits == w.bits && w.bits == 0

-- (if c then 1 else 0) that isn't 0
abbrev pub by_zero : Exp → Word → Word → Exp → Option Exp
by_zero c u v (WordLit w) = where_true (is_flag u v w) c
by_zero c u v b = None

abbrev pub by_branches : Exp → Exp → Exp → Exp → Option Exp
by_branches c (WordLit u) (WordLit v) b = by_zero c u v b
by_branches c a e b = None

abbrev pub shorter_unequal : Exp → Exp → Option Exp
shorter_unequal (If c a e) b = by_branches c a e b
shorter_unequal a b = None

abbrev pub shorter_not : Exp → Option Exp
shorter_not (Not a) = Some a
shorter_not (Eq a b) = shorter_unequal a b
shorter_not a = None

abbrev pub shorter_sum : Exp → Exp → Option Exp
shorter_sum a (NumberLit (pos zero)) = Some a
shorter_sum a b = None

abbrev pub shorter_arith : NumberOp → Exp → Exp → Option Exp
shorter_arith Add a b = shorter_sum a b
shorter_arith op a b = None

-- a word that was made a number and a word of its width again
abbrev pub shorter_word : Scope → ℕ → Exp → Option Exp
shorter_word g n (ToNat a) = where_true (is_word_of n (sort_of g a)) a
shorter_word g n (ToInt a) = where_true (is_word_of n (sort_of g a)) a
shorter_word g n a = None

-- a number that was made a word, where it is known to be the unsigned or the signed value of a word of the width
abbrev pub shorter_value : List Fact → Bool → Exp → Option Exp
shorter_value fs sign (ToWord n a) = where_true (is_width n && is_known fs (Between (least sign n) a (greatest sign n))) a
shorter_value fs sign a = None

-- what a head gives where one of its parts decides it, or where it undoes another one
abbrev pub shorter : Scope → Choice
shorter g fs (And a b) = shorter_and a b
shorter g fs (Or a b) = shorter_or a b
shorter g fs (Imp a b) = shorter_imp a b
shorter g fs (If c a b) = shorter_if c a b
shorter g fs (Not a) = shorter_not a
shorter g fs (Eq a b) = where_true (same_exp b a) (TruthLit true)
shorter g fs (Arith op a b) = shorter_arith op a b
shorter g fs (ToWord n a) = shorter_word g n a
shorter g fs (ToNat a) = shorter_value fs false a
shorter g fs (ToInt a) = shorter_value fs true a
shorter g fs e = None

-- constants first, whole
abbrev pub shortened : Scope → Choice
shortened g fs e = or_else (folded g.layout e) (shorter g fs e)
