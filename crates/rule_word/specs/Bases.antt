-- What a sum of words stands for: unsigned or signed numbers, by the oldest fact that gives one of its two ranges, where what the fact
-- is under is given by older facts or by the conditions under which the sum stands. So facts that come between the place where the range
-- is guarded and the place where the sum stands don't change it. Expressions are compared by a test that is handed in.
use Rattle.std.specs.Prelude.{ℕ, Bool, true, false, ◌||◌, List, [], ◌∷◌, ◌++◌, Option, Some, None, if◌then◌else◌}
use Rattle.c_values.specs.Number.{least, greatest}
use Rattle.expression_lang.specs.Expression.{Exp, NumberLit, Le, Between, And, Imp}
use Rattle.expression_lang.specs.Sort.{Kind, WordKind, NatKind, IntKind, BoolKind, word_sort}
use Rattle.ac_expr.specs.Fact.{Fact, Whole, stands_for}
use Rattle.rule_word.specs.Rule.{View, AsIs, Unsigned, Signed}

pub data Base : Type 0 where
  Words : Base
  Naturals : Base
  Integers : Base

abbrev pub view_at_base : Base → ℕ → View
view_at_base Words n = AsIs (word_sort n)
view_at_base Naturals n = Unsigned n
view_at_base Integers n = Signed n

abbrev pub kind_at_base : Base → ℕ → Kind
kind_at_base Words n = WordKind n
kind_at_base Naturals n = NatKind n
kind_at_base Integers n = IntKind n

abbrev pub base_of_kind : Kind → Base
base_of_kind (WordKind n) = Words
base_of_kind (NatKind n) = Naturals
base_of_kind (IntKind n) = Integers
base_of_kind BoolKind = Words

-- the ranges of both kinds
abbrev pub natural_range : ℕ → Exp → Exp
natural_range n r = Between (least false n) r (greatest false n)

abbrev pub integer_range : ℕ → Exp → Exp
integer_range n r = Between (least true n) r (greatest true n)

abbrev pub gives_at_once : (Exp → Exp → Bool) → Exp → Exp → Bool
gives_at_once same (And a b) e = same (And a b) e || gives_at_once same a e || gives_at_once same b e
gives_at_once same (Between low x high) e =
    same (Between low x high) e || same (Le (NumberLit low) x) e || same (Le x (NumberLit high)) e
gives_at_once same fact e = same fact e

abbrev pub some_gives : (Exp → Exp → Bool) → List Fact → Exp → Bool
some_gives same [] e = false
some_gives same (f ∷ fs) e = gives_at_once same (stands_for f) e || some_gives same fs e

abbrev pub or_else : Option Base → Option Base → Option Base
or_else (Some b) o = Some b
or_else None o = o

-- What is known where an expression stands: the facts of the program's point, and the conditions of the whole expression under
-- which it stands there. These are the same wherever the expression stands, while facts grow.
pub record Surroundings : Type 0 where
  pub conditions : List Fact
  pub facts : List Fact

abbrev pub known_there : Surroundings → List Fact
known_there k = k.conditions ++ k.facts

abbrev pub under : Fact → Surroundings → Surroundings
under f k = record { conditions = f ∷ k.conditions; facts = k.facts }

abbrev pub among : List Fact → Surroundings
among fs = record { conditions = []; facts = fs }

-- the range that a fact gives, where what it is under is given by what is known before it
abbrev pub range_given : (Exp → Exp → Bool) → List Fact → Exp → Exp → Exp → Option Base
range_given same before natural integer (And a b) =
    or_else (range_given same before natural integer a) (range_given same before natural integer b)
range_given same before natural integer (Imp c d) =
    if some_gives same before c then range_given same before natural integer d else None
range_given same before natural integer fact =
    if same fact natural then Some Naturals else if same fact integer then Some Integers else None

-- the first from left to right: what stands on the left is known before what stands on the right
abbrev pub first_range : (Exp → Exp → Bool) → List Fact → Exp → Exp → Exp → Option Base
first_range same before natural integer (And a b) =
    or_else (first_range same before natural integer a) (first_range same (Whole a ∷ before) natural integer b)
first_range same before natural integer fact = range_given same before natural integer fact

-- that of the oldest fact that gives one, by the conditions and older facts: facts that come later don't change it
abbrev pub oldest_range : (Exp → Exp → Bool) → List Fact → Exp → Exp → List Fact → Option Base
oldest_range same conditions natural integer [] = None
oldest_range same conditions natural integer (f ∷ older) =
    or_else (oldest_range same conditions natural integer older)
    (first_range same (conditions ++ older) natural integer (stands_for f))

abbrev pub or_words : Option Base → Base
or_words None = Words
or_words (Some b) = b

-- what an operation stands for, which is one number or another; words where its range isn't known, and where all names are words
abbrev pub base_in : (Exp → Exp → Bool) → Bool → Surroundings → ℕ → Exp → Exp → Base
base_in same false k n natural integer = Words
base_in same true k n natural integer =
    or_words (oldest_range same k.conditions (natural_range n natural) (integer_range n integer) k.facts)

abbrev pub signed_or_words : Option Base → Base
signed_or_words None = Words
signed_or_words (Some b) = Integers

-- one that has a signed range alone
abbrev pub signed_base_in : (Exp → Exp → Bool) → Bool → Surroundings → ℕ → Exp → Base
signed_base_in same false k n integer = Words
signed_base_in same true k n integer =
    signed_or_words (oldest_range same k.conditions (integer_range n integer) (integer_range n integer) k.facts)

abbrev pub where_numbers : Bool → Base → Base
where_numbers true b = b
where_numbers false b = Words

-- the first that isn't words
abbrev pub first_base : Base → Base → Base
first_base Words b = b
first_base Naturals b = Naturals
first_base Integers b = Integers
