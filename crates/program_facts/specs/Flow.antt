-- How facts go through a program: which are known in the second part of a Bind. In a branch of an If the test or its negation is
-- one more; a loop's guard begins with none, its test has the guard, and its body the guard and the test.
use Rattle.std.specs.Prelude.{Bool, true, false, ◌||◌, List, [], ◌∷◌, Option, Some, None}
use Rattle.c_values.specs.Name.{Name}
use Rattle.expression_lang.specs.Expression.{Exp}
use Rattle.ac_expr.specs.Fact.{Fact}
use Rattle.ac_expr.specs.Passed.{Part, after}
use Rattle.monad_lang.specs.Program.{Mon, Ret, Bind, Guard, If, Write, Loop, Call, Pick}

-- a write or a call stands in it
abbrev pub changes_state : Mon → Bool
changes_state (Ret es) = false
changes_state (Bind m xs n) = changes_state m || changes_state n
changes_state (Guard e) = false
changes_state (If e m n) = changes_state m || changes_state n
changes_state (Write place e) = true
changes_state (Loop starts guard test m) = changes_state m
changes_state (Call f es) = true
changes_state (Pick k) = false

abbrev pub guard_in : Mon → Option Exp
guard_in (Guard e) = Some e
guard_in m = None

-- a program whose values have these names, as a part of a sequence
abbrev pub part : Mon → List Name → Part
part m xs = record { guard = guard_in m; names = xs; changes = changes_state m }

-- after it: its guard is known, and what names one of the names, or reads where it may have changed the state, is forgotten
abbrev pub facts_after : Mon → List Name → List Fact → List Fact
facts_after m xs fs = after (part m xs) fs

-- the parts that come one after the other
abbrev pub parts : Mon → List Part
parts (Bind m xs n) = part m xs ∷ parts n
parts m = []
