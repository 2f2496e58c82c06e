-- The end of a C run under a fill number, computed.
use Rattle.std.proofs.Common.{ℕ, Option, Some, None, Bool, true, false, List, ◌⊎◌, inl, inr, ℤ, pos, Ok, ◌≡◌, refl, sym, subst}
use Rattle.std.specs.Prelude.{if◌then◌else◌}
use Rattle.correspondence.specs.Outcome.{Turns, Outcome, Done, Failed, Stopped, Ends, done, Then, goes_on}
use Rattle.c_values.specs.Name.{Name}
use Rattle.c_values.specs.Types.{CType}
use Rattle.c_values.specs.Word.{word}
use Rattle.c_values.specs.Value as V
use Rattle.c_values.specs.Layout.{Layout}
use Rattle.c_values.specs.Choice.{Choice, Fill, picked}
use Rattle.expression_lang.specs.Sort.{Level}
use Rattle.expression_lang.specs.Signature.{Invocation, bound}
use Rattle.expression_lang.specs.GuardKind as K
use Rattle.expression_lang.specs.Machine.{Machine, machine_with, with_local, Returned}
use Rattle.c_lang.specs.Typed as C
use Rattle.c_lang.specs.Labels.{is_label, has_label}
use Rattle.c_meaning.specs.CValue.{◌>>=◌, value, values, located, accessible, converted, is_true, number_at}
use Rattle.c_meaning.specs.CRun as R
use Rattle.c_meaning.specs.CRun.{Flow, Next, Broken, Continued, Returning, Runs, Setting, Ended, context, stored, result_value, local_width}
use Rattle.worked_rows.proofs.End.{given_end, given_ends, then_end, then_ends, choose_ends, FunctionsEnd, AllEnd, loop_end, loop_ends, called_end, called_ends, below_end, below_ends}

abbrev pub FlowEnd : Type 0
FlowEnd = Outcome Flow K.GuardKind

abbrev pub CallsEnd : Type 0
CallsEnd = FunctionsEnd Invocation Returned K.GuardKind

abbrev pub setting : Layout → Level → ℕ → Setting
setting l level k = record { layout = l; choice = Fill k; level = level }

abbrev and_next : (Machine → FlowEnd) → Flow → FlowEnd
and_next rest (Next m) = rest m
and_next rest (Broken m) = Done (Broken m)
and_next rest (Continued m) = Done (Continued m)
and_next rest (Returning v m) = Done (Returning v m)

and_next_ends : (r : Machine → Ended) (k : Machine → FlowEnd) → ((m : Machine) → r m (k m)) → (f : Flow) → R.and_next r f (and_next k f)
and_next_ends r k h (Next m) = h m
and_next_ends _ _ _ _ = refl

abbrev assigned : Setting → C.Destination → V.Value → Machine → FlowEnd
assigned t (C.ToLocal x u) v m = Done (Next (with_local x v m))
assigned t (C.ToPlace p) v m = then_end (given_end (located (context t m) p >>= λ s. accessible (context t m) s (Ok s))) (λ s. Done (Next (stored t.layout s v m)))

assigned_ends : (t : Setting) (target : C.Destination) (v : V.Value) (m : Machine) → R.assigned t target v m (assigned t target v m)
assigned_ends t (C.ToLocal x u) v m = refl
assigned_ends t (C.ToPlace p) v m = then_ends _ _ _ _ (given_ends _) (λ s. refl)

abbrev used : Setting → C.Use → V.Value → Machine → FlowEnd
used t C.NoResult v m = Done (Next m)
used t (C.Ignored from) v m = Done (Next m)
used t (C.Assigned from target) v m = assigned t target (converted t.layout (C.target_type target) from v) m
used t (C.Returned from to) v m = Done (Returning (Some (converted t.layout to from v)) m)

used_ends : (t : Setting) (use' : C.Use) (v : V.Value) (m : Machine) → R.used t use' v m (used t use' v m)
used_ends t (C.Assigned from target) v m = assigned_ends t target _ m
used_ends _ _ _ _ = refl

abbrev and_use : Setting → C.Use → Machine → Returned → FlowEnd
and_use t use' m r = used t use' (result_value r.result) (machine_with m.locals r.state)

abbrev tested : Setting → C.Test → Machine → Outcome (Machine ⊎ Flow) K.GuardKind
tested t C.Always m = Done (inl m)
tested t (C.Tested e) m = then_end (given_end (value (context t m) e)) (λ v. elim (is_true v) as (λ _. Outcome (Machine ⊎ Flow) K.GuardKind) [ true ↦ Done (inl m) | false ↦ Done (inr (Next m)) ])

tested_ends : (t : Setting) (test : C.Test) (m : Machine) → R.tested t test m (tested t test m)
tested_ends t C.Always m = refl
tested_ends t (C.Tested e) m = then_ends _ _ _ _ (given_ends _) (λ v. choose_ends (is_true v) _ _ _ _ refl refl)

abbrev turned : (Machine → Outcome (Machine ⊎ Flow) K.GuardKind) → Flow → Outcome (Machine ⊎ Flow) K.GuardKind
turned rest (Next m) = rest m
turned rest (Continued m) = rest m
turned rest (Broken m) = Done (inr (Next m))
turned rest (Returning v m) = Done (inr (Returning v m))

turned_ends : (r : Machine → Ends (Machine ⊎ Flow) K.GuardKind) (k : Machine → Outcome (Machine ⊎ Flow) K.GuardKind) → ((m : Machine) → r m (k m)) → (f : Flow) → R.turned r f (turned k f)
turned_ends r k h (Next m) = h m
turned_ends r k h (Continued m) = h m
turned_ends _ _ _ _ = refl

abbrev stepped : (Machine → FlowEnd) → Machine → Outcome (Machine ⊎ Flow) K.GuardKind
stepped step m = then_end (step m) (turned (λ n. Done (inl n)))

stepped_ends : (r : Machine → Ended) (k : Machine → FlowEnd) → ((m : Machine) → r m (k m)) → (m : Machine) → R.stepped r m (stepped k m)
stepped_ends r k h m = then_ends _ _ _ _ (h m) (turned_ends _ _ (λ n. refl))

abbrev later : Machine ⊎ Flow → Outcome ((Bool × Machine) ⊎ Flow) K.GuardKind
later (inl m) = Done (inl (false, m))
later (inr f) = Done (inr f)

later_ends : (x : Machine ⊎ Flow) → R.later x (later x)
later_ends (inl m) = refl
later_ends (inr f) = refl

abbrev tested_after_first : Setting → C.Test → Bool × Machine → Outcome ((Bool × Machine) ⊎ Flow) K.GuardKind
tested_after_first t test (true, m) = Done (inl (true, m))
tested_after_first t test (false, m) = then_end (tested t test m) later

tested_after_first_ends : (t : Setting) (test : C.Test) (x : Bool × Machine) → R.tested_after_first t test x (tested_after_first t test x)
tested_after_first_ends t test (true, m) = refl
tested_after_first_ends t test (false, m) = then_ends _ _ _ _ (tested_ends t test m) later_ends

abbrev turned_later : Flow → Outcome ((Bool × Machine) ⊎ Flow) K.GuardKind
turned_later f = then_end (turned (λ n. Done (inl n)) f) later

turned_later_ends : (f : Flow) → R.turned_later f (turned_later f)
turned_later_ends f = then_ends _ _ _ _ (turned_ends _ _ (λ n. refl) f) later_ends

abbrev switched : Flow → FlowEnd
switched (Next m) = Done (Next m)
switched (Broken m) = Done (Next m)
switched (Continued m) = Done (Continued m)
switched (Returning v m) = Done (Returning v m)

switched_ends : (f : Flow) → R.switched f (switched f)
switched_ends (Next m) = refl
switched_ends _ = refl

abbrev mutual
  pub statement : Setting → ℕ → C.Statement → Option ℕ → List CallsEnd → Machine → FlowEnd
  statement t k C.Empty depth es m = Done (Next m)
  statement t k (C.Block ss) depth es m = statements t k ss depth es m
  statement t k (C.Declare x u) depth es m = Done (Next (with_local x (V.Bits (word (local_width t.layout u) (pos k))) m))
  statement t k (C.Assign target e) depth es m = then_end (given_end (value (context t m) e)) (λ v. assigned t target v m)
  statement t k (C.Call n f xs use') depth es m =
      then_end (given_end (values (context t m) xs)) (λ vs. then_end (called_end es depth (record { name = f; arguments = vs; state = m.state })) (and_use t use' m))
  statement t k (C.If e a b) depth es m =
      then_end (given_end (value (context t m) e)) (λ v. elim (is_true v) as (λ _. FlowEnd) [ true ↦ statement t k a depth es m | false ↦ statement t k b depth es m ])
  statement t k (C.While e a) depth es m = loop_end (tested t (C.Tested e)) (λ gs n. then_end (statement t k a depth gs n) (turned (λ j. Done (inl j)))) es m
  statement t k (C.DoWhile i a e) depth es m = loop_end (tested_after_first t (C.Tested e)) (λ gs x. then_end (statement t k a depth gs x.1) turned_later) es (true, m)
  statement t k (C.For init test step a) depth es m =
      then_end (statements t k init depth es m) (and_next (λ n.
      loop_end (tested t test) (λ gs j. then_end (statement t k a depth gs j) (turned (stepped (λ i. statement t k step depth gs i)))) es n))
  statement t k (C.Switch n i e gs) depth es m =
      then_end (given_end (value (context t m) e)) (λ v. then_end (groups t k (number_at i v) (has_label (number_at i v) gs) gs depth es m) switched)
  statement t k C.Break depth es m = Done (Broken m)
  statement t k C.Continue depth es m = Done (Continued m)
  statement t k C.ReturnNothing depth es m = Done (Returning None m)
  statement t k (C.Return e) depth es m = then_end (given_end (value (context t m) e)) (λ v. Done (Returning (Some v) m))

  pub statements : Setting → ℕ → C.Statements → Option ℕ → List CallsEnd → Machine → FlowEnd
  statements t k C.no_statements depth es m = Done (Next m)
  statements t k (C.next s ss) depth es m = then_end (statement t k s depth es m) (and_next (λ n. statements t k ss depth es n))

  pub groups : Setting → ℕ → ℤ → Bool → C.Groups → Option ℕ → List CallsEnd → Machine → FlowEnd
  groups t k n labelled C.no_groups depth es m = Done (Next m)
  groups t k n labelled (C.group labels is_default ss gs) depth es m =
      elim (if labelled then is_label n labels else is_default) as (λ _. FlowEnd) [ true ↦ statements t k ss depth es m | false ↦ groups t k n labelled gs depth es m ]

abbrev pub ended : Option CType → Flow → Outcome Returned K.GuardKind
ended None (Next m) = Done (record { result = None; state = m.state })
ended (Some u) (Next m) = Failed K.Unreached
ended result (Returning v m) = Done (record { result = v; state = m.state })
ended result (Broken m) = Failed K.Unreached
ended result (Continued m) = Failed K.Unreached

ended_ends : (result : Option CType) (f : Flow) → R.ended result f (ended result f)
ended_ends None (Next m) = refl
ended_ends (Some u) (Next m) = refl
ended_ends _ _ = refl

-- the setting's fill number is this one
abbrev Fills : Setting → ℕ → Type 0
Fills t k = t.choice ≡ Fill k

declared_ends : (t : Setting) (k : ℕ) → Fills t k → (x : Name) (u : CType) (m : Machine) (depth : Option ℕ) (fs : List Runs) (es : List CallsEnd) → R.statement t (C.Declare x u) depth fs m (statement t k (C.Declare x u) depth es m)
declared_ends t k e x u m depth fs es =
    subst (λ (p : Choice). Then {F = K.GuardKind} (picked p (local_width t.layout u)) (λ w. done (Next (with_local x (V.Bits w) m))) (Done (Next (with_local x (V.Bits (word (local_width t.layout u) (pos k))) m)))) (sym e)
    (goes_on refl refl)

mutual
  statement_ends : (t : Setting) (k : ℕ) → Fills t k → (s : C.Statement) (depth : Option ℕ) (fs : List Runs) (es : List CallsEnd) → AllEnd fs es → (m : Machine) → R.statement t s depth fs m (statement t k s depth es m)
  statement_ends t k q (C.Block ss) depth fs es h m = statements_end t k q ss depth fs es h m
  statement_ends t k q (C.Declare x u) depth fs es h m = declared_ends t k q x u m depth fs es
  statement_ends t k q (C.Assign target e) depth fs es h m = then_ends _ _ _ _ (given_ends _) (λ v. assigned_ends t target v m)
  statement_ends t k q (C.Call n f xs use') depth fs es h m =
      then_ends _ _ _ _ (given_ends _) (λ vs. then_ends _ _ _ _ (called_ends fs es h depth _) (λ r. used_ends t use' _ _))
  statement_ends t k q (C.If e a b) depth fs es h m =
      then_ends _ _ _ _ (given_ends _) (λ v. choose_ends (is_true v) _ _ _ _ (statement_ends t k q a depth fs es h m) (statement_ends t k q b depth fs es h m))
  statement_ends t k q (C.While e a) depth fs es h m =
      loop_ends _ _ _ _ (tested_ends t (C.Tested e)) (λ fs' es' h' n. then_ends _ _ _ _ (statement_ends t k q a depth fs' es' h' n) (turned_ends _ _ (λ j. refl))) fs es h m
  statement_ends t k q (C.DoWhile i a e) depth fs es h m =
      loop_ends _ _ _ _ (tested_after_first_ends t (C.Tested e)) (λ fs' es' h' x. then_ends _ _ _ _ (statement_ends t k q a depth fs' es' h' x.1) turned_later_ends) fs es h _
  statement_ends t k q (C.For init test step a) depth fs es h m =
      then_ends _ _ _ _ (statements_end t k q init depth fs es h m) (and_next_ends _ _ (loop_ends _ _ _ _ (tested_ends t test)
      (λ fs' es' h' n. then_ends _ _ _ _ (statement_ends t k q a depth fs' es' h' n) (turned_ends _ _ (stepped_ends _ _ (statement_ends t k q step depth fs' es' h')))) fs es h))
  statement_ends t k q (C.Switch n i e gs) depth fs es h m =
      then_ends _ _ _ _ (given_ends _) (λ v. then_ends _ _ _ _ (groups_end t k q _ _ gs depth fs es h m) switched_ends)
  statement_ends t k q (C.Return e) depth fs es h m = then_ends _ _ _ _ (given_ends _) (λ v. refl)
  statement_ends _ _ _ _ _ _ _ _ _ = refl

  statements_end : (t : Setting) (k : ℕ) → Fills t k → (ss : C.Statements) (depth : Option ℕ) (fs : List Runs) (es : List CallsEnd) → AllEnd fs es → (m : Machine) → R.statements t ss depth fs m (statements t k ss depth es m)
  statements_end t k q C.no_statements depth fs es h m = refl
  statements_end t k q (C.next s ss) depth fs es h m =
      then_ends _ _ _ _ (statement_ends t k q s depth fs es h m) (and_next_ends _ _ (statements_end t k q ss depth fs es h))

  groups_end : (t : Setting) (k : ℕ) → Fills t k → (n : ℤ) (labelled : Bool) (gs : C.Groups) (depth : Option ℕ) (fs : List Runs) (es : List CallsEnd) → AllEnd fs es → (m : Machine) → R.groups t n labelled gs depth fs m (groups t k n labelled gs depth es m)
  groups_end t k q n labelled C.no_groups depth fs es h m = refl
  groups_end t k q n labelled (C.group labels is_default ss gs) depth fs es h m =
      choose_ends (if labelled then is_label n labels else is_default) _ _ _ _ (statements_end t k q ss depth fs es h m) (groups_end t k q n labelled gs depth fs es h m)

abbrev pub function_end : Layout → ℕ → (Name → Level) → Option C.TypedFn → Option ℕ → List CallsEnd → Invocation → Outcome Returned K.GuardKind
function_end l k levels None depth es c = Stopped Turns
function_end l k levels (Some f) depth es c =
    then_end (statements (setting l (levels f.name) k) k f.body depth es (machine_with (bound (C.variable_names f.params) c.arguments (R.zero_locals l f.locals)) c.state)) (ended f.result)

function_ends : (l : Layout) (k : ℕ) (levels : Name → Level) (f : Option C.TypedFn) (depth : Option ℕ) (fs : List Runs) (es : List CallsEnd) → AllEnd fs es → (c : Invocation) → R.function_runs l (Fill k) levels f depth fs c (function_end l k levels f depth es c)
function_ends l k levels None depth fs es h c = refl
function_ends l k levels (Some f) depth fs es h c = then_ends _ _ _ _ (statements_end (setting l (levels f.name) k) k refl f.body depth fs es h _) (ended_ends f.result)

abbrev pub bodies : C.TypedUnit → (Name → Level) → ℕ → List CallsEnd → CallsEnd
bodies u levels k es depth c = function_end u.layout k levels (C.typed_fn u.functions c.name) depth es c

abbrev pub c_end : C.TypedUnit → (Name → Level) → ℕ → ℕ → CallsEnd
c_end u levels k n = bodies u levels k (below_end (bodies u levels k) n)

-- what is computed is an end of the run
pub c_ends : (u : C.TypedUnit) (levels : Name → Level) (k n : ℕ) (depth : Option ℕ) (c : Invocation) → R.c_runs u levels (Fill k) n depth c (c_end u levels k n depth c)
c_ends u levels k n depth c = function_ends u.layout k levels (C.typed_fn u.functions c.name) depth _ _ (below_ends (R.bodies u levels (Fill k)) (bodies u levels k) (λ fs es h d a. function_ends u.layout k levels (C.typed_fn u.functions a.name) d fs es h a) n) c
