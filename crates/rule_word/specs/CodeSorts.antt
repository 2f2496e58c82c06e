-- The sort of a kind, by a walk along first operands alone: of a well-sorted expression exactly where it is of that sort.
use Rattle.std.specs.Prelude.{ℕ, ◌==◌, Bool, true, false, Option, Some, None}
use Rattle.expression_lang.specs.Expression as X
use Rattle.expression_lang.specs.Expression.{Exp}
use Rattle.expression_lang.specs.Sort.{Kind, WordKind, NatKind, IntKind, BoolKind, Scope, scalar_sort, is_truth}
use Rattle.rule_word.specs.LeftWidth.{left_width}

abbrev pub left_truth : Scope → Exp → Bool
left_truth g (X.Var x) = is_truth (scalar_sort (g.names x))
left_truth g (X.If c a b) = left_truth g a
left_truth g (X.TruthLit b) = true
left_truth g (X.WordCompare test a b) = true
left_truth g (X.Lt a b) = true
left_truth g (X.Le a b) = true
left_truth g (X.Between low a high) = true
left_truth g (X.Eq a b) = true
left_truth g (X.And a b) = true
left_truth g (X.Or a b) = true
left_truth g (X.Imp a b) = true
left_truth g (X.Not a) = true
left_truth g (X.Tagged t p) = true
left_truth g (X.PtrOk t p) = true
left_truth g e = false

abbrev pub is_this : ℕ → Option ℕ → Bool
is_this n (Some m) = m == n
is_this n None = false

abbrev pub left_kind : Scope → Exp → Kind → Bool
left_kind g e (WordKind n) = is_this n (left_width g e)
left_kind g e (NatKind n) = is_this n (left_width g e)
left_kind g e (IntKind n) = is_this n (left_width g e)
left_kind g e BoolKind = left_truth g e

-- the same of a head that is no choice and no name
abbrev pub is_truth_head : Exp → Bool
is_truth_head (X.TruthLit b) = true
is_truth_head (X.WordCompare test a b) = true
is_truth_head (X.Lt a b) = true
is_truth_head (X.Le a b) = true
is_truth_head (X.Between low a high) = true
is_truth_head (X.Eq a b) = true
is_truth_head (X.And a b) = true
is_truth_head (X.Or a b) = true
is_truth_head (X.Imp a b) = true
is_truth_head (X.Not a) = true
is_truth_head (X.Tagged t p) = true
is_truth_head (X.PtrOk t p) = true
is_truth_head e = false

-- a walk along first operands ends here
abbrev pub is_first : Exp → Bool
is_first (X.WordBinary op a b) = false
is_first (X.WordShift op a n) = false
is_first (X.WordUnary op a) = false
is_first (X.If c a b) = false
is_first e = true
