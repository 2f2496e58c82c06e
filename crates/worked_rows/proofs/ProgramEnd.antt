-- The end of a run of a program under a fill number, computed.
use Rattle.std.proofs.Common.{ℕ, Option, Some, None, true, false, List, [], ◌∷◌, ◌⊎◌, inl, inr, pos, refl}
use Rattle.correspondence.specs.Outcome.{Turns, Outcome, Done, Failed, Stopped, goes_on}
use Rattle.c_values.specs.Word.{word, unsigned, signed}
use Rattle.c_values.specs.Value.{Value, Bits, Number, Truth}
use Rattle.c_values.specs.Layout.{Layout}
use Rattle.c_values.specs.Choice.{Fill}
use Rattle.expression_lang.specs.Expression.{Exp}
use Rattle.expression_lang.specs.Sort.{Kind, WordKind, NatKind, IntKind, BoolKind}
use Rattle.expression_lang.specs.Evaluation.{Env, State, value, holds}
use Rattle.expression_lang.specs.Signature.{Invocation, names_of, values_of, bound, no_env}
use Rattle.expression_lang.specs.View.{picked_at}
use Rattle.monad_lang.specs.Program.{Mon, Ret, Bind, Guard, If, Write, Loop, Call, Pick, FinalFn, FinalUnit, final_fn}
use Rattle.monad_lang.specs.Run as R
use Rattle.monad_lang.specs.Run.{Answer, Failure, Runs, start_names, start_values, written}
use Rattle.worked_rows.proofs.End.{then_end, then_ends, choose_ends, FunctionsEnd, AllEnd, loop_end, loop_ends, called_end, called_ends, below_end, below_ends}

abbrev pub AnswerEnd : Type 0
AnswerEnd = Outcome Answer Failure

abbrev pub CallsEnd : Type 0
CallsEnd = FunctionsEnd Invocation Answer Failure

abbrev entered : Layout → Exp → Exp → (Answer → Env) → Answer → Outcome (Answer ⊎ Answer) Failure
entered l guard test env a =
    elim (holds l (env a) a.state guard) as (λ _. Outcome (Answer ⊎ Answer) Failure)
    [ true ↦ elim (holds l (env a) a.state test) as (λ _. Outcome (Answer ⊎ Answer) Failure) [ true ↦ Done (inl a) | false ↦ Done (inr a) ] | false ↦ Failed tt ]

entered_ends : (l : Layout) (guard test : Exp) (env : Answer → Env) (a : Answer) → R.entered l guard test env a (entered l guard test env a)
entered_ends l guard test env a = choose_ends (holds l (env a) a.state guard) _ _ _ _ (choose_ends (holds l (env a) a.state test) _ _ _ _ refl refl) refl

-- what the fill number leaves of a pick
abbrev filled : ℕ → Kind → Value
filled k (WordKind n) = Bits (word n (pos k))
filled k (NatKind n) = Number (unsigned (word n (pos k)))
filled k (IntKind n) = Number (signed (word n (pos k)))
filled k BoolKind = Truth false

filled_ends : (k : ℕ) (q : Kind) → picked_at {F = Failure} (Fill k) q (Done (filled k q))
filled_ends k (WordKind n) = goes_on refl refl
filled_ends k (NatKind n) = goes_on refl refl
filled_ends k (IntKind n) = goes_on refl refl
filled_ends k BoolKind = refl

abbrev pub runs : Layout → ℕ → Mon → Env → Option ℕ → List CallsEnd → State → AnswerEnd
runs l k (Ret xs) env depth es s = Done (record { values = values_of l env s xs; state = s })
runs l k (Bind m xs n) env depth es s = then_end (runs l k m env depth es s) (λ a. runs l k n (bound xs a.values env) depth es a.state)
runs l k (Guard e) env depth es s = elim (holds l env s e) as (λ _. AnswerEnd) [ true ↦ Done (record { values = []; state = s }) | false ↦ Failed tt ]
runs l k (If e m n) env depth es s = elim (holds l env s e) as (λ _. AnswerEnd) [ true ↦ runs l k m env depth es s | false ↦ runs l k n env depth es s ]
runs l k (Write place e) env depth es s = Done (record { values = []; state = written l env s place (value l env s e) })
runs l k (Loop starts guard test m) env depth es s =
    loop_end (entered l guard test (λ a. bound (start_names starts) a.values env))
    (λ gs a. then_end (runs l k m (bound (start_names starts) a.values env) depth gs a.state) (λ b. Done (inl b)))
    es (record { values = start_values l env s starts; state = s })
runs l k (Call f xs) env depth es s = called_end es depth (record { name = f; arguments = values_of l env s xs; state = s })
runs l k (Pick q) env depth es s = Done (record { values = filled k q ∷ []; state = s })

runs_ends : (l : Layout) (k : ℕ) (m : Mon) (env : Env) (depth : Option ℕ) (fs : List Runs) (es : List CallsEnd) → AllEnd fs es → (s : State) → R.runs l (Fill k) m env depth fs s (runs l k m env depth es s)
runs_ends l k (Bind m xs n) env depth fs es h s = then_ends _ _ _ _ (runs_ends l k m env depth fs es h s) (λ a. runs_ends l k n _ depth fs es h a.state)
runs_ends l k (Guard e) env depth fs es h s = choose_ends (holds l env s e) _ _ _ _ refl refl
runs_ends l k (If e m n) env depth fs es h s = choose_ends (holds l env s e) _ _ _ _ (runs_ends l k m env depth fs es h s) (runs_ends l k n env depth fs es h s)
runs_ends l k (Loop starts guard test m) env depth fs es h s =
    loop_ends _ _ _ _ (entered_ends l guard test _) (λ fs' es' h' a. then_ends _ _ _ _ (runs_ends l k m _ depth fs' es' h' a.state) (λ b. refl)) fs es h _
runs_ends l k (Call f xs) env depth fs es h s = called_ends fs es h depth _
runs_ends l k (Pick q) env depth fs es h s = goes_on (filled_ends k q) refl
runs_ends _ _ _ _ _ _ _ _ _ = refl

abbrev function_end : Layout → ℕ → Option FinalFn → Option ℕ → List CallsEnd → Invocation → AnswerEnd
function_end l k None depth es c = Stopped Turns
function_end l k (Some f) depth es c = runs l k f.body (bound (names_of f.params) c.arguments no_env) depth es c.state

function_ends : (l : Layout) (k : ℕ) (f : Option FinalFn) (depth : Option ℕ) (fs : List Runs) (es : List CallsEnd) → AllEnd fs es → (c : Invocation) → R.function_runs l (Fill k) f depth fs c (function_end l k f depth es c)
function_ends l k None depth fs es h c = refl
function_ends l k (Some f) depth fs es h c = runs_ends l k f.body _ depth fs es h c.state

abbrev pub bodies : FinalUnit → ℕ → List CallsEnd → CallsEnd
bodies u k es depth c = function_end u.layout k (final_fn u.functions c.name) depth es c

abbrev pub program_end : FinalUnit → ℕ → ℕ → CallsEnd
program_end u k n = bodies u k (below_end (bodies u k) n)

-- what is computed is an end of the run
pub program_ends : (u : FinalUnit) (k n : ℕ) (depth : Option ℕ) (c : Invocation) → R.program_runs u (Fill k) n depth c (program_end u k n depth c)
program_ends u k n depth c = function_ends u.layout k (final_fn u.functions c.name) depth _ _
    (below_ends (R.bodies u (Fill k)) (bodies u k) (λ fs es h d a. function_ends u.layout k (final_fn u.functions a.name) d fs es h a) n) c
