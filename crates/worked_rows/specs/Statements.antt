-- Statements that leave loops, switches and functions.
use Rattle.std.specs.Prelude.{ℕ, true, false, List, [], ◌∷◌, Some, None, pos, codes}
use Rattle.c_values.specs.Types.{Int}
use Rattle.c_lang.specs.Typed.{Expr, Local, Compute, Add, Compare, Less, Equate, Equal, ToLocal, Tested, Always, Statement, Empty, Block, Assign, If, While, DoWhile, For, Switch, Break, Continue, ReturnNothing, Return, no_groups, group, TypedUnit}
use Rattle.worked_rows.specs.Trees.{int, value, literal, body, variable, function, unit_of}
use Rattle.worked_rows.specs.Claims.{Case, no_memory}

abbrev pub x : Expr
x = Local (codes "x") int

abbrev pub c : Expr
c = Local (codes "c") int

abbrev pub count_up : Statement
count_up = Assign (ToLocal (codes "c") int) (Compute Add Int c (literal 1))

abbrev pub step : Statement
step = Assign (ToLocal (codes "x") int) (Compute Add Int x (literal 1))

abbrev pub is : ℕ → Expr
is n = Equate Equal int x (literal n)

-- int f(int x){int c; c=0; STATEMENTS return c;}
abbrev pub counting : List Statement → TypedUnit
counting ss = unit_of [] (function (codes "f") (Some int) (variable (codes "x") int ∷ []) (variable (codes "c") int ∷ [])
    (Assign (ToLocal (codes "c") int) (literal 0) ∷ Block (body ss) ∷ Return c ∷ []) ∷ [])

abbrev pub run : TypedUnit → ℕ → ℕ → Case
run u n turns = record { unit = u; name = codes "f"; arguments = value (pos n) ∷ []; turns = turns; depth = Some 0; fill = 0; memory = no_memory }

-- switch(x){case 1: return 10; case 2: case 4: c=c+1; break;}
abbrev pub without_default : TypedUnit
without_default = counting (Switch 1 Int x
    (group (pos 1 ∷ []) false (body (Return (literal 10) ∷ []))
    (group (pos 2 ∷ pos 4 ∷ []) false (body (count_up ∷ Break ∷ [])) no_groups)) ∷ [])

-- switch(x){case 1: return 10; default: return 20; case 3: return 30;}
abbrev pub default_between : TypedUnit
default_between = counting (Switch 1 Int x
    (group (pos 1 ∷ []) false (body (Return (literal 10) ∷ []))
    (group [] true (body (Return (literal 20) ∷ []))
    (group (pos 3 ∷ []) false (body (Return (literal 30) ∷ [])) no_groups))) ∷ [])

-- for(;x<4;x=x+1){if(x==2) continue; c=c+1;}
abbrev pub for_with_continue : TypedUnit
for_with_continue = counting (For (body []) (Tested (Compare Less Int x (literal 4))) step (Block (body (If (is 2) Continue Empty ∷ count_up ∷ []))) ∷ [])

-- for(;;x=x+1){if(x==3) break; c=c+1;}
abbrev pub for_with_break : TypedUnit
for_with_break = counting (For (body []) Always step (Block (body (If (is 3) Break Empty ∷ count_up ∷ []))) ∷ [])

-- do {c=c+1; continue; c=c+1;} while(0);
abbrev pub do_with_continue : TypedUnit
do_with_continue = counting (DoWhile 1 (Block (body (count_up ∷ Continue ∷ count_up ∷ []))) (literal 0) ∷ [])

-- do {c=c+1; break;} while(1);
abbrev pub do_with_break : TypedUnit
do_with_break = counting (DoWhile 1 (Block (body (count_up ∷ Break ∷ []))) (literal 1) ∷ [])

-- while(1){while(1){break;} c=c+1; if(c==2) break;}
abbrev pub inner_break : TypedUnit
inner_break = counting (While (literal 1) (Block (body (While (literal 1) Break ∷ count_up ∷ If (Equate Equal int c (literal 2)) Break Empty ∷ []))) ∷ [])

-- while(1){switch(x){case 1: break; case 2: continue;} return 7;}
abbrev pub switch_in_loop : TypedUnit
switch_in_loop = counting (While (literal 1) (Block (body
    (Switch 1 Int x (group (pos 1 ∷ []) false (body (Break ∷ [])) (group (pos 2 ∷ []) false (body (Continue ∷ [])) no_groups)) ∷ Return (literal 7) ∷ []))) ∷ [])

-- while(0) c=c+1;
abbrev pub no_turn : TypedUnit
no_turn = counting (While (literal 0) count_up ∷ [])

-- int f(int x){if(x==1) return 5;}
abbrev pub without_return : TypedUnit
without_return = unit_of [] (function (codes "f") (Some int) (variable (codes "x") int ∷ []) [] (If (is 1) (Return (literal 5)) Empty ∷ []) ∷ [])

-- void f(int x){if(x==1) return;}
abbrev pub of_void : TypedUnit
of_void = unit_of [] (function (codes "f") None (variable (codes "x") int ∷ []) [] (If (is 1) ReturnNothing Empty ∷ []) ∷ [])
