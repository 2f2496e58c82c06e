-- Programs in do-notation: a line for each step, with the names of its values before it, and two spaces deeper what stands inside a step.
use Rattle.std.specs.Prelude.{List, [], ◌∷◌, ◌++◌, map, codes}
use Rattle.std.specs.Fmt.{decimal}
use Rattle.c_values.specs.Name.{Name}
use Rattle.expression_lang.specs.Expression.{Exp}
use Rattle.expression_lang.specs.Sort.{Kind, WordKind, NatKind, IntKind, BoolKind}
use Rattle.expression_lang.specs.Signature.{Binder}
use Rattle.monad_lang.specs.Program.{Place, Stored, Written, Global, Start, Mon, Ret, Bind, Guard, If, Write, Loop, Call, Pick, FinalFn, FinalUnit}
use Rattle.abs_print.specs.Texts.{Text, parted, behind_space}
use Rattle.abs_print.specs.Expressions.{exp_text, type_text, step_texts}

-- a kind, without parentheses
abbrev pub kind_text : Kind → Text
kind_text (WordKind n) = codes "w " ++ decimal n
kind_text (NatKind n) = codes "nat " ++ decimal n
kind_text (IntKind n) = codes "int " ++ decimal n
kind_text BoolKind = codes "bool"

-- the names of a step's values
abbrev pub names_text : List Name → Text
names_text [] = []
names_text (x ∷ xs) = parted (codes ", ") (x ∷ xs) ++ codes " <- "

abbrev pub start_text : Start → Text
start_text x = x.name ++ (codes " = " ++ exp_text x.exp)

-- a type, an address and steps, or a global and steps
abbrev pub place_text : Place → Text
place_text (Stored t p path) = parted (codes " ") (type_text t ∷ exp_text p ∷ step_texts path)
place_text (Written t p path) = parted (codes " ") (type_text t ∷ exp_text p ∷ step_texts path)
place_text (Global x path) = parted (codes " ") (x ∷ step_texts path)

-- the lines of steps; of those with programs inside, the first one
abbrev pub return_text : List Exp → Text
return_text es = codes "return" ++ behind_space (map exp_text es)

abbrev pub guard_text : Exp → Text
guard_text e = codes "guard " ++ exp_text e

abbrev pub if_text : Exp → Text
if_text e = codes "if " ++ exp_text e

abbrev pub write_text : Place → Exp → Text
write_text place e = place_text place ++ (codes " := " ++ exp_text e)

abbrev pub loop_text : List Start → Exp → Exp → Text
loop_text starts guard test =
    codes "loop" ++ (behind_space (map start_text starts) ++ (codes " guard " ++ (exp_text guard ++ (codes " test " ++ exp_text test))))

abbrev pub call_text : Name → List Exp → Text
call_text f es = codes "call " ++ (f ++ (codes "(" ++ (parted (codes ", ") (map exp_text es) ++ codes ")")))

abbrev pub pick_text : Kind → Text
pick_text k = codes "pick " ++ kind_text k

-- lines, two spaces deeper
abbrev pub deeper : List Text → List Text
deeper [] = []
deeper (l ∷ ls) = (codes "  " ++ l) ∷ deeper ls

-- lines with names before the first
abbrev pub named : List Name → List Text → List Text
named xs [] = []
named xs (l ∷ ls) = (names_text xs ++ l) ∷ ls

-- a program of these lines as a step of a sequence: a sequence inside stands under a `do`
abbrev pub as_step : Mon → List Text → List Text
as_step (Bind m xs n) ls = codes "do" ∷ deeper ls
as_step _ ls = ls

abbrev pub lines : Mon → List Text
lines (Ret es) = return_text es ∷ []
lines (Bind m xs n) = named xs (as_step m (lines m)) ++ lines n
lines (Guard e) = guard_text e ∷ []
lines (If e m n) = if_text e ∷ (deeper (lines m) ++ codes "else" ∷ deeper (lines n))
lines (Write place e) = write_text place e ∷ []
lines (Loop starts guard test m) = loop_text starts guard test ∷ deeper (lines m)
lines (Call f es) = call_text f es ∷ []
lines (Pick k) = pick_text k ∷ []

abbrev pub binder_text : Binder → Text
binder_text b = codes "(" ++ (b.name ++ (codes " : " ++ (kind_text b.kind ++ codes ")")))

abbrev pub results_text : List Kind → Text
results_text [] = codes "unit"
results_text (k ∷ ks) = parted (codes ", ") (map kind_text (k ∷ ks))

-- a function's name, its parameters and its results
abbrev pub head_line : FinalFn → Text
head_line f = parted (codes " ") (f.name ∷ map binder_text f.params) ++ (codes " : " ++ results_text f.results)

-- lines, each with its end
abbrev pub lines_text : List Text → Text
lines_text [] = []
lines_text (l ∷ ls) = l ++ (codes "\n" ++ lines_text ls)

abbrev pub function_text : FinalFn → Text
function_text f = lines_text (head_line f ∷ deeper (lines f.body))

-- the functions of a unit, an empty line between them
abbrev pub unit_text : FinalUnit → Text
unit_text u = parted (codes "\n") (map function_text u.functions)
