-- What holds wherever a run of a program comes: at each write and each call that stands in the program itself and that the
-- run reaches, whatever it does afterwards. What a called function reaches is said of that function's program.
use Rattle.std.specs.Prelude.{◌≡◌, ℕ, Bool, true, false, List, [], ◌∷◌, Option}
use Rattle.correspondence.specs.Outcome.{Done}
use Rattle.c_values.specs.Layout.{Layout}
use Rattle.c_values.specs.Choice.{Choice}
use Rattle.expression_lang.specs.Expression.{Exp}
use Rattle.expression_lang.specs.Evaluation.{Env, State, holds}
use Rattle.monad_lang.specs.Program.{Mon, Ret, Bind, Guard, If, Write, Loop, Call, Pick}
use Rattle.expression_lang.specs.Signature.{bound}
use Rattle.monad_lang.specs.Run.{Answer, Runs, runs, start_names, start_values}

-- a turn is made from here: the loop's guard and test hold
abbrev pub IsTurn : Layout → Exp → Exp → Env → State → Type 0
IsTurn l guard test env s = (holds l env s guard ≡ true) × (holds l env s test ≡ true)

-- each turn that is made has P, and what a body is done with is where the next begins
abbrev pub EachTurn : (Answer → Type 0) → (List Runs → Answer → Type 0) → (List Runs → Answer → Answer → Type 0) → List Runs → Answer → Type 0
EachTurn turns P next [] a = Unit {0}
EachTurn turns P next (f ∷ fs) a = turns a → P fs a × ((b : Answer) → next fs a b → EachTurn turns P next fs b)

abbrev pub IfTrue : Bool → Type 0 → Type 0
IfTrue true P = P
IfTrue false P = Unit {0}

abbrev pub IfFalse : Bool → Type 0 → Type 0
IfFalse true P = Unit {0}
IfFalse false P = P

-- P holds at each write and each call that a run reaches
abbrev pub AtEach : Layout → Choice → (Mon → Env → State → Type 0) → Mon → Env → Option ℕ → List Runs → State → Type 0
AtEach l p P (Ret es) env depth fs s = Unit {0}
AtEach l p P (Bind m xs n) env depth fs s =
    AtEach l p P m env depth fs s × ((a : Answer) → runs l p m env depth fs s (Done a) → AtEach l p P n (bound xs a.values env) depth fs a.state)
AtEach l p P (Guard e) env depth fs s = Unit {0}
AtEach l p P (If e m n) env depth fs s =
    IfTrue (holds l env s e) (AtEach l p P m env depth fs s) × IfFalse (holds l env s e) (AtEach l p P n env depth fs s)
AtEach l p P (Write place e) env depth fs s = P (Write place e) env s
AtEach l p P (Loop starts guard test m) env depth fs s =
    EachTurn (λ a. IsTurn l guard test (bound (start_names starts) a.values env) a.state)
    (λ gs a. AtEach l p P m (bound (start_names starts) a.values env) depth gs a.state)
    (λ gs a b. runs l p m (bound (start_names starts) a.values env) depth gs a.state (Done b))
    fs (record { values = start_values l env s starts; state = s })
AtEach l p P (Call f es) env depth fs s = P (Call f es) env s
AtEach l p P (Pick k) env depth fs s = Unit {0}
