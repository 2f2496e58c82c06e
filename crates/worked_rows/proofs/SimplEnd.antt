-- The end of a run of Simpl under a fill number, computed.
use Rattle.std.proofs.Common.{ℕ, Option, Some, None, true, false, List, [], ◌∷◌, ◌⊎◌, inl, inr, pos, refl}
use Rattle.correspondence.specs.Outcome.{Turns, Outcome, Done, Failed, Stopped, Ends, goes_on}
use Rattle.c_values.specs.Name.{with_name}
use Rattle.c_values.specs.Word.{word}
use Rattle.c_values.specs.Value.{Value, Bits, Truth, nothing, word_in}
use Rattle.c_values.specs.Layout.{Layout}
use Rattle.c_values.specs.Path.{upd}
use Rattle.c_values.specs.Choice.{Fill}
use Rattle.c_memory.specs.Heap.{write_heap}
use Rattle.expression_lang.specs.Expression.{Exp}
use Rattle.expression_lang.specs.Sort.{Kind, WordKind, NatKind, IntKind, BoolKind}
use Rattle.expression_lang.specs.Evaluation.{steps}
use Rattle.expression_lang.specs.Signature.{Binder, Signature, Invocation, names_of, signature, values_of, bound}
use Rattle.expression_lang.specs.View.{picked_word_at}
use Rattle.expression_lang.specs.GuardKind.{GuardKind}
use Rattle.simpl_lang.specs.Command.{Condition, Simpl, Skip, Throw, Set, SetGlobal, Store, Pick, Seq, Cond, Guard, Catch, While, Call, SimplFn, SimplUnit, simpl_fn, kind_of}
use Rattle.simpl_lang.specs.Exec as X
use Rattle.expression_lang.specs.Machine.{Machine, Returned, machine_with, with_local}
use Rattle.simpl_lang.specs.Exec.{Flow, Normal, Abrupt, Runs, value_on, holds_on, result_into, result_of, zero_locals}
use Rattle.worked_rows.proofs.End.{then_end, then_ends, choose_ends, FunctionsEnd, AllEnd, loop_end, loop_ends, called_end, called_ends, below_end, below_ends}

abbrev pub FlowEnd : Type 0
FlowEnd = Outcome Flow GuardKind

abbrev pub CallsEnd : Type 0
CallsEnd = FunctionsEnd Invocation Returned GuardKind

abbrev normally : (Machine → FlowEnd) → Flow → FlowEnd
normally next (Normal m) = next m
normally next (Abrupt m) = Done (Abrupt m)

normally_ends : (r : Machine → Ends Flow GuardKind) (k : Machine → FlowEnd) → ((m : Machine) → r m (k m)) → (f : Flow) → X.normally r f (normally k f)
normally_ends r k h (Normal m) = h m
normally_ends r k h (Abrupt m) = refl

abbrev handled : (Machine → FlowEnd) → Flow → FlowEnd
handled next (Normal m) = Done (Normal m)
handled next (Abrupt m) = next m

handled_ends : (r : Machine → Ends Flow GuardKind) (k : Machine → FlowEnd) → ((m : Machine) → r m (k m)) → (f : Flow) → X.handled r f (handled k f)
handled_ends r k h (Normal m) = refl
handled_ends r k h (Abrupt m) = h m

abbrev turned : Flow → Outcome (Machine ⊎ Flow) GuardKind
turned (Normal m) = Done (inl m)
turned (Abrupt m) = Done (inr (Abrupt m))

turned_ends : (f : Flow) → X.turned f (turned f)
turned_ends (Normal m) = refl
turned_ends (Abrupt m) = refl

abbrev checked : {A : Type 0} → Layout → List Condition → Machine → Outcome A GuardKind → Outcome A GuardKind
checked {A} l [] m next = next
checked {A} l (c ∷ cs) m next = elim (holds_on l m c.exp) as (λ _. Outcome A GuardKind) [ true ↦ checked l cs m next | false ↦ Failed c.kind ]

checked_ends : {A : Type 0} (l : Layout) (cs : List Condition) (m : Machine) (p : Ends A GuardKind) (o : Outcome A GuardKind) → p o → X.checked l cs m p (checked l cs m o)
checked_ends l [] m p o h = h
checked_ends l (c ∷ cs) m p o h = choose_ends (holds_on l m c.exp) _ _ _ _ (checked_ends l cs m p o h) refl

abbrev entered : Layout → List Condition → Exp → Machine → Outcome (Machine ⊎ Flow) GuardKind
entered l cs test m = checked l cs m (elim (holds_on l m test) as (λ _. Outcome (Machine ⊎ Flow) GuardKind) [ true ↦ Done (inl m) | false ↦ Done (inr (Normal m)) ])

entered_ends : (l : Layout) (cs : List Condition) (test : Exp) (m : Machine) → X.entered l cs test m (entered l cs test m)
entered_ends l cs test m = checked_ends l cs m _ _ (choose_ends (holds_on l m test) _ _ _ _ refl refl)

-- what the fill number leaves of a pick
abbrev filled : ℕ → Kind → Value
filled k (WordKind n) = Bits (word n (pos k))
filled k (NatKind n) = Bits (word n (pos k))
filled k (IntKind n) = Bits (word n (pos k))
filled k BoolKind = Truth false

filled_ends : (k : ℕ) (q : Kind) → picked_word_at {F = GuardKind} (Fill k) q (Done (filled k q))
filled_ends k (WordKind n) = goes_on refl refl
filled_ends k (NatKind n) = goes_on refl refl
filled_ends k (IntKind n) = goes_on refl refl
filled_ends k BoolKind = refl

abbrev filled_local : ℕ → Option Kind → Value
filled_local k None = nothing
filled_local k (Some q) = filled k q

filled_local_ends : (k : ℕ) (q : Option Kind) → X.picked_local (Fill k) q (Done (filled_local k q))
filled_local_ends k None = refl
filled_local_ends k (Some q) = filled_ends k q

abbrev pub execs : Layout → ℕ → List Binder → Simpl → Option ℕ → List CallsEnd → Machine → FlowEnd
execs l k locals Skip depth es m = Done (Normal m)
execs l k locals Throw depth es m = Done (Abrupt m)
execs l k locals (Set x e) depth es m = Done (Normal (with_local x (value_on l m e) m))
execs l k locals (SetGlobal x path e) depth es m =
    Done (Normal (machine_with m.locals (record { heap = m.state.heap; globals = with_name x (upd (m.state.globals x) (steps l m.locals m.state path) (value_on l m e)) m.state.globals })))
execs l k locals (Store t a path e) depth es m =
    Done (Normal (machine_with m.locals (record { heap = write_heap l m.state.heap t (word_in (value_on l m a)).bits (steps l m.locals m.state path) (value_on l m e); globals = m.state.globals })))
execs l k locals (Pick x) depth es m = Done (Normal (with_local x (filled_local k (kind_of locals x)) m))
execs l k locals (Seq a b) depth es m = then_end (execs l k locals a depth es m) (normally (λ n. execs l k locals b depth es n))
execs l k locals (Cond e a b) depth es m =
    elim (holds_on l m e) as (λ _. FlowEnd) [ true ↦ execs l k locals a depth es m | false ↦ execs l k locals b depth es m ]
execs l k locals (Guard c a) depth es m = elim (holds_on l m c.exp) as (λ _. FlowEnd) [ true ↦ execs l k locals a depth es m | false ↦ Failed c.kind ]
execs l k locals (Catch a b) depth es m = then_end (execs l k locals a depth es m) (handled (λ n. execs l k locals b depth es n))
execs l k locals (While cs e a) depth es m = loop_end (entered l cs e) (λ gs n. then_end (execs l k locals a depth gs n) turned) es m
execs l k locals (Call x f xs) depth es m =
    then_end (called_end es depth (record { name = f; arguments = values_of l m.locals m.state xs; state = m.state })) (λ r. Done (Normal (result_into x r m.locals)))

execs_ends : (l : Layout) (k : ℕ) (locals : List Binder) (a : Simpl) (depth : Option ℕ) (fs : List Runs) (es : List CallsEnd) → AllEnd fs es → (m : Machine) → X.execs l (Fill k) locals a depth fs m (execs l k locals a depth es m)
execs_ends l k locals (Pick x) depth fs es h m = goes_on (filled_local_ends k (kind_of locals x)) refl
execs_ends l k locals (Seq a b) depth fs es h m = then_ends _ _ _ _ (execs_ends l k locals a depth fs es h m) (normally_ends _ _ (execs_ends l k locals b depth fs es h))
execs_ends l k locals (Cond e a b) depth fs es h m = choose_ends (holds_on l m e) _ _ _ _ (execs_ends l k locals a depth fs es h m) (execs_ends l k locals b depth fs es h m)
execs_ends l k locals (Guard c a) depth fs es h m = choose_ends (holds_on l m c.exp) _ _ _ _ (execs_ends l k locals a depth fs es h m) refl
execs_ends l k locals (Catch a b) depth fs es h m = then_ends _ _ _ _ (execs_ends l k locals a depth fs es h m) (handled_ends _ _ (execs_ends l k locals b depth fs es h))
execs_ends l k locals (While cs e a) depth fs es h m =
    loop_ends _ _ _ _ (entered_ends l cs e) (λ fs' es' h' n. then_ends _ _ _ _ (execs_ends l k locals a depth fs' es' h' n) turned_ends) fs es h m
execs_ends l k locals (Call x f xs) depth fs es h m = then_ends _ _ _ _ (called_ends fs es h depth _) (λ r. refl)
execs_ends _ _ _ _ _ _ _ _ _ = refl

abbrev ended : Option Kind → Flow → Outcome Returned GuardKind
ended result (Normal m) = Done (record { result = result_of result m; state = m.state })
ended result (Abrupt m) = Done (record { result = result_of result m; state = m.state })

ended_ends : (result : Option Kind) (f : Flow) → X.ended result f (ended result f)
ended_ends result (Normal m) = refl
ended_ends result (Abrupt m) = refl

abbrev function_end : Layout → ℕ → Option SimplFn → Option Signature → Option ℕ → List CallsEnd → Invocation → Outcome Returned GuardKind
function_end l k (Some f) (Some s) depth es c =
    then_end (execs l k f.locals f.body depth es (machine_with (bound (names_of s.params) c.arguments (zero_locals f.locals)) c.state)) (ended s.result)
function_end l k _ _ depth es c = Stopped Turns

function_ends : (l : Layout) (k : ℕ) (f : Option SimplFn) (s : Option Signature) (depth : Option ℕ) (fs : List Runs) (es : List CallsEnd) → AllEnd fs es → (c : Invocation) → X.function_runs l (Fill k) f s depth fs c (function_end l k f s depth es c)
function_ends l k (Some f) (Some s) depth fs es h c = then_ends _ _ _ _ (execs_ends l k f.locals f.body depth fs es h _) (ended_ends s.result)
function_ends _ _ _ _ _ _ _ _ _ = refl

abbrev pub bodies : SimplUnit → ℕ → List CallsEnd → CallsEnd
bodies u k es depth c = function_end u.layout k (simpl_fn u.functions c.name) (signature u.signatures c.name) depth es c

abbrev pub simpl_end : SimplUnit → ℕ → ℕ → CallsEnd
simpl_end u k n = bodies u k (below_end (bodies u k) n)

-- what is computed is an end of the run
pub simpl_ends : (u : SimplUnit) (k n : ℕ) (depth : Option ℕ) (c : Invocation) → X.simpl_runs u (Fill k) n depth c (simpl_end u k n depth c)
simpl_ends u k n depth c = function_ends u.layout k (simpl_fn u.functions c.name) (signature u.signatures c.name) depth _ _
    (below_ends (X.bodies u (Fill k)) (bodies u k) (λ fs es h d a. function_ends u.layout k (simpl_fn u.functions a.name) (signature u.signatures a.name) d fs es h a) n) c
