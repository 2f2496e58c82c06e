-- The forms of programs: on bytes, on typed heaps, on numbers, and tidy, which is to be without a place where one of the
-- rules of the state monad would make the program simpler.
use Rattle.std.specs.Prelude.{Bool, true, false, not, ◌&&◌, ◌||◌, List, [], ◌∷◌, ◌++◌}
use Rattle.c_values.specs.Name.{Name, same_name, is_among}
use Rattle.expression_lang.specs.Expression.{Exp, Var, WordLit, NumberLit, TruthLit}
use Rattle.expression_lang.specs.Form.{has, path_has, is_load, is_read, is_word_arithmetic}
use Rattle.monad_lang.specs.Program.{Place, Stored, Written, Global, Start, Mon, Ret, Bind, Guard, If, Write, Loop, Call, Pick}
use Rattle.monad_lang.specs.Names.{is_free, is_captured}

abbrev pub some_has : (Exp → Bool) → List Exp → Bool
some_has test [] = false
some_has test (e ∷ es) = has test e || some_has test es

abbrev pub start_has : (Exp → Bool) → List Start → Bool
start_has test [] = false
start_has test (x ∷ xs) = has test x.exp || start_has test xs

abbrev pub place_has : (Exp → Bool) → Place → Bool
place_has test (Stored t p path) = has test p || path_has test path
place_has test (Written t p path) = has test p || path_has test path
place_has test (Global x path) = path_has test path

-- some expression of the program has a subexpression that passes the one test, or some write's place passes the other
abbrev pub program_has : (Exp → Bool) → (Place → Bool) → Mon → Bool
program_has test place_test (Ret es) = some_has test es
program_has test place_test (Bind m xs n) = program_has test place_test m || program_has test place_test n
program_has test place_test (Guard e) = has test e
program_has test place_test (If e m n) = has test e || program_has test place_test m || program_has test place_test n
program_has test place_test (Write place e) = place_test place || place_has test place || has test e
program_has test place_test (Loop starts guard test' m) = start_has test starts || has test guard || has test test' || program_has test place_test m
program_has test place_test (Call f es) = some_has test es
program_has test place_test (Pick k) = false

abbrev pub is_stored : Place → Bool
is_stored (Stored t p path) = true
is_stored _ = false

abbrev pub is_written : Place → Bool
is_written (Written t p path) = true
is_written _ = false

abbrev pub no_place : Place → Bool
no_place p = false

-- no read or write of typed heaps
abbrev pub is_bytes : Mon → Bool
is_bytes m = not (program_has is_read is_written m)

-- no load or store
abbrev pub is_heaps : Mon → Bool
is_heaps m = not (program_has is_load is_stored m)

-- heaps form, and no sum, difference, product, quotient, remainder, negation or order test of words
abbrev pub is_numbers : Mon → Bool
is_numbers m = is_heaps m && not (program_has is_word_arithmetic no_place m)

abbrev pub are_vars : List Name → List Exp → Bool
are_vars [] [] = true
are_vars (x ∷ xs) (Var y ∷ es) = same_name x y && are_vars xs es
are_vars _ _ = false

-- Bind(m, xs, Ret xs), and Bind(Ret, none, m) whose Ret has no values
abbrev pub is_bind_ret : Mon → List Name → Mon → Bool
is_bind_ret (Ret []) [] n = true
is_bind_ret m xs (Ret es) = are_vars xs es
is_bind_ret m xs n = false

-- what the outer Bind's second part has free of the names is bound by its own names too
abbrev pub all_kept : List Name → List Name → Mon → Bool
all_kept [] ys n = true
all_kept (x ∷ xs) ys n = (not (is_free x n) || is_among x ys) && all_kept xs ys n

-- Bind(Bind(a, xs, b), ys, c), where each x free in c is in ys
abbrev pub is_assoc : Mon → List Name → Mon → Bool
is_assoc (Bind a xs b) ys n = all_kept xs ys n
is_assoc m ys n = false

abbrev pub is_true_guard : Mon → List Name → Bool
is_true_guard (Guard (TruthLit true)) [] = true
is_true_guard m xs = false

abbrev pub is_constant_truth : Exp → Bool
is_constant_truth (TruthLit b) = true
is_constant_truth e = false

-- a constant can be put in anywhere; a variable where it is none of the other names and no binder captures it
abbrev pub can_be_put : Exp → Name → List Name → Mon → Bool
can_be_put (WordLit w) x others n = true
can_be_put (NumberLit k) x others n = true
can_be_put (TruthLit b) x others n = true
can_be_put (Var y) x others n = not (is_among y others) && not (is_captured y x n)
can_be_put e x others n = false

-- the names before a position, put before those after it
abbrev pub some_can_be_put : List Name → List Exp → List Name → Mon → Bool
some_can_be_put before (e ∷ es) (x ∷ xs) n = can_be_put e x (before ++ xs) n || some_can_be_put (x ∷ before) es xs n
some_can_be_put before es xs n = false

-- Bind(Ret es, xs, m), a constant or a variable of the Ret being one that could stand in place of its name
abbrev pub is_ret_one : Mon → List Name → Mon → Bool
is_ret_one (Ret es) xs n = some_can_be_put [] es xs n
is_ret_one m xs n = false

-- no place is the left side of a rule that would make the program simpler
abbrev pub is_tidy : Mon → Bool
is_tidy (Ret es) = true
is_tidy (Bind m xs n) =
    not (is_bind_ret m xs n) && not (is_assoc m xs n) && not (is_true_guard m xs) && not (is_ret_one m xs n) && is_tidy m && is_tidy n
is_tidy (Guard e) = true
is_tidy (If e m n) = not (is_constant_truth e) && is_tidy m && is_tidy n
is_tidy (Write place e) = true
is_tidy (Loop starts guard test m) = is_tidy m
is_tidy (Call f es) = true
is_tidy (Pick k) = true
