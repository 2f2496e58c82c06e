-- Loops: break leaves the loop, and continue its body, by an exception that is caught there.
use Rattle.std.proofs.Common.{◌≡◌, ℕ, true, List, Option, ◌⊎◌, inl, inr, refl, sym}
use Rattle.std.proofs.lemmas.Bool.{false≢true, and_parts}
use Rattle.correspondence.specs.Outcome.{Ends, done, Then, choose, loop}
use Rattle.correspondence.specs.Corresponds.{Corresponds, Either, Paired}
use Rattle.correspondence.proofs.Corresponds.{done_corresponds, then_corresponds, choose_corresponds, loop_corresponds}
use Rattle.c_values.specs.Layout.{is_scalar}
use Rattle.c_values.specs.Choice.{Choice}
use Rattle.expression_lang.specs.Sort.{Level}
use Rattle.expression_lang.specs.Signature.{Binder}
use Rattle.expression_lang.specs.Expression as Exp
use Rattle.expression_lang.specs.GuardKind.{GuardKind}
use Rattle.simpl_lang.specs.Command.{Condition, Simpl, While, Seq}
use Rattle.simpl_lang.specs.Exec as X
use Rattle.expression_lang.specs.Machine.{Machine}
use Rattle.simpl_lang.specs.Exec.{Normal, Abrupt, Runs, execs, entered, holds_on}
use Rattle.c_lang.specs.Typed as C
use Rattle.c_lang.specs.WellTyped.{Scope, Around, in_a_loop, nowhere, is_typed, is_typed_test}
use Rattle.c_meaning.specs.CValue.{value, is_true}
use Rattle.c_meaning.specs.CRun as R
use Rattle.c_meaning.specs.CRun.{Next, Broken, Continued, Returning, Ended, context, tested, turned, stepped}
use Rattle.generation.specs.Guards.{guards, truth}
use Rattle.generation.specs.Generate.{returned, broken, continued, stops_at, body_of_loop, looped, test_guards, test_truth}
use Rattle.correspondence.proofs.Steps.{same_on_right, after_done, in_brackets, right_goes_on}
use Rattle.generation.proofs.ExactGuards.{SameKind, evaluated_checked}
use Rattle.generation.proofs.ExactMachines.{Alike, setting}
use Rattle.generation.proofs.ExactEnds.{IsEnd, Flagged, SameCalls, Stands, stops_here, thrown_on}
use Rattle.generation.proofs.ExactStores.{IsValueOn, value_same}

-- the end of a loop, before a break is caught
abbrev pub IsLoopEnd : Scope → R.Flow → X.Flow → Type 0
IsLoopEnd g (Next m) (Normal n) = Alike g m n
IsLoopEnd g (Next m) (Abrupt n) = Alike g m n × Flagged broken n
IsLoopEnd g (Returning v m) f = IsEnd g nowhere (Returning v m) f
IsLoopEnd g (Broken m) f = ⊥
IsLoopEnd g (Continued m) f = ⊥

-- the end of a body, where a continue is caught
abbrev pub IsBodyEnd : Scope → R.Flow → X.Flow → Type 0
IsBodyEnd g (Next m) (Normal n) = Alike g m n
IsBodyEnd g (Continued m) (Normal n) = Alike g m n
IsBodyEnd g (Broken m) (Abrupt n) = Alike g m n × Flagged broken n
IsBodyEnd g (Returning v m) f = IsEnd g nowhere (Returning v m) f
IsBodyEnd g (Next m) (Abrupt n) = ⊥
IsBodyEnd g (Continued m) (Abrupt n) = ⊥
IsBodyEnd g (Broken m) (Normal n) = ⊥

module _ (g : Scope) (p : Choice) (locals : List Binder) (depth : Option ℕ) (fs : List Runs) where
  break_caught : (r : Around) (f : R.Flow) (f' : X.Flow) → IsLoopEnd g f f' → Corresponds (IsEnd g r) SameKind (done f) (X.handled (λ n. execs g.layout p locals (stops_at broken) depth fs n) f')
  break_caught r (Next m) (Normal n) h = done_corresponds (IsEnd g r) SameKind (Next m) (Normal n) h
  break_caught r (Next m) (Abrupt n) h = stops_here (IsEnd g r) g.layout p locals depth fs n (done (Next m)) broken broken h.1 refl (done_corresponds (IsEnd g r) SameKind (Next m) (Normal n) h.0)
  break_caught r (Returning v m) (Abrupt n) h = thrown_on (IsEnd g r) g.layout p locals depth fs n (done (Returning v m)) broken returned h.2 refl (done_corresponds (IsEnd g r) SameKind (Returning v m) (Abrupt n) h)
  break_caught _ _ _ h = absurd h

  pub looped_same : (r : Around) (gs : List Condition) (e : Exp.Exp) (s : Simpl) (n : Machine) (q : Ended) → Corresponds (IsLoopEnd g) SameKind q (execs g.layout p locals (While gs e s) depth fs n) →
      Corresponds (IsEnd g r) SameKind q (execs g.layout p locals (looped gs e s) depth fs n)
  looped_same r gs e s n q h =
      right_goes_on (IsLoopEnd g) (IsEnd g r) SameKind q (execs g.layout p locals (While gs e s) depth fs n) (X.handled (λ o. execs g.layout p locals (stops_at broken) depth fs o)) h (break_caught r)

  continue_caught : (f : R.Flow) (f' : X.Flow) → IsEnd g in_a_loop f f' → Corresponds (IsBodyEnd g) SameKind (done f) (X.handled (λ n. execs g.layout p locals (stops_at continued) depth fs n) f')
  continue_caught (Next m) (Normal n) h = done_corresponds (IsBodyEnd g) SameKind (Next m) (Normal n) h
  continue_caught (Continued m) (Abrupt n) h = stops_here (IsBodyEnd g) g.layout p locals depth fs n (done (Continued m)) continued continued h.2 refl (done_corresponds (IsBodyEnd g) SameKind (Continued m) (Normal n) h.1)
  continue_caught (Broken m) (Abrupt n) h = thrown_on (IsBodyEnd g) g.layout p locals depth fs n (done (Broken m)) continued broken h.2 refl (done_corresponds (IsBodyEnd g) SameKind (Broken m) (Abrupt n) (h.1, h.2))
  continue_caught (Returning v m) (Abrupt n) h = thrown_on (IsBodyEnd g) g.layout p locals depth fs n (done (Returning v m)) continued returned h.2 refl (done_corresponds (IsBodyEnd g) SameKind (Returning v m) (Abrupt n) h)
  continue_caught _ _ h = absurd h

  pub body_same : (s : Simpl) (n : Machine) (q : Ended) → Corresponds (IsEnd g in_a_loop) SameKind q (execs g.layout p locals s depth fs n) →
      Corresponds (IsBodyEnd g) SameKind q (execs g.layout p locals (body_of_loop s) depth fs n)
  body_same s n q h =
      right_goes_on (IsEnd g in_a_loop) (IsBodyEnd g) SameKind q (execs g.layout p locals s depth fs n) (X.handled (λ o. execs g.layout p locals (stops_at continued) depth fs o)) h continue_caught

-- one more turn, or the loop's end
abbrev pub IsTurnEnd : Scope → Machine ⊎ R.Flow → Machine ⊎ X.Flow → Type 0
IsTurnEnd g = Either (Alike g) (IsLoopEnd g)

module _ (g : Scope) where
  body_turned : (f : R.Flow) (f' : X.Flow) → IsBodyEnd g f f' → Corresponds (IsTurnEnd g) SameKind (turned (λ m. done (inl m)) f) (X.turned f')
  body_turned (Next m) (Normal n) h = done_corresponds (IsTurnEnd g) SameKind (inl m) (inl n) h
  body_turned (Continued m) (Normal n) h = done_corresponds (IsTurnEnd g) SameKind (inl m) (inl n) h
  body_turned (Broken m) (Abrupt n) h = done_corresponds (IsTurnEnd g) SameKind (inr (Next m)) (inr (Abrupt n)) h
  body_turned (Returning v m) (Abrupt n) h = done_corresponds (IsTurnEnd g) SameKind (inr (Returning v m)) (inr (Abrupt n)) h
  body_turned _ _ h = absurd h

  step_turned : (f : R.Flow) (f' : X.Flow) → IsEnd g nowhere f f' → Corresponds (IsTurnEnd g) SameKind (turned (λ m. done (inl m)) f) (X.turned f')
  step_turned (Next m) (Normal n) h = done_corresponds (IsTurnEnd g) SameKind (inl m) (inl n) h
  step_turned (Returning v m) (Abrupt n) h = done_corresponds (IsTurnEnd g) SameKind (inr (Returning v m)) (inr (Abrupt n)) h
  step_turned (Broken m) (Abrupt n) h = absurd (false≢true h.0)
  step_turned (Continued m) (Abrupt n) h = absurd (false≢true h.0)
  step_turned _ _ h = absurd h

  -- a body, and then the step of a `for`
  stepped_same : (step : Machine → Ended) (step' : Machine → Ends X.Flow GuardKind) → ((m n : Machine) → Alike g m n → Corresponds (IsEnd g nowhere) SameKind (step m) (step' n)) →
      (f : R.Flow) (f' : X.Flow) → IsBodyEnd g f f' → Corresponds (IsTurnEnd g) SameKind (turned (stepped step) f) (Then (X.normally step' f') X.turned)
  stepped_same step step' k (Next m) (Normal n) h = then_corresponds (IsEnd g nowhere) (IsTurnEnd g) SameKind (step m) (step' n) (turned (λ o. done (inl o))) X.turned (k m n h) step_turned
  stepped_same step step' k (Continued m) (Normal n) h = then_corresponds (IsEnd g nowhere) (IsTurnEnd g) SameKind (step m) (step' n) (turned (λ o. done (inl o))) X.turned (k m n h) step_turned
  stepped_same step step' k (Broken m) (Abrupt n) h = same_on_right (after_done (Abrupt n) X.turned) (done_corresponds (IsTurnEnd g) SameKind (inr (Next m)) (inr (Abrupt n)) h)
  stepped_same step step' k (Returning v m) (Abrupt n) h = same_on_right (after_done (Abrupt n) X.turned) (done_corresponds (IsTurnEnd g) SameKind (inr (Returning v m)) (inr (Abrupt n)) h)
  stepped_same _ _ _ _ _ h = absurd h

module _ (g : Scope) (level : Level) (p : Choice) (locals : List Binder) (h : Stands g level locals) where
  pub tested_same : (test : C.Test) → is_typed_test g test ≡ true → (m n : Machine) → Alike g m n →
      Corresponds (IsTurnEnd g) SameKind (tested (setting g p level) test m) (entered g.layout (test_guards g.layout level test) (test_truth g.layout test) n)
  tested_same C.Always t m n a = done_corresponds (IsTurnEnd g) SameKind (inl m) (inl n) a
  tested_same (C.Tested e) t m n a =
      let q = and_parts (is_scalar (C.type_of e)) (is_typed g e) t in
      evaluated_checked (IsTurnEnd g) g.layout n (guards g.layout level e) (value (context (setting g p level) m) e) (IsValueOn g n e) (λ v. choose (is_true v) (done (inl m)) (done (inr (Next m))))
      (choose (holds_on g.layout n (truth g.layout e)) (done (inl n)) (done (inr (Normal n)))) (value_same g level p locals h m n a e q.1)
      (λ v k. choose_corresponds (IsTurnEnd g) SameKind (is_true v) (holds_on g.layout n (truth g.layout e)) (done (inl m)) (done (inr (Next m))) (done (inl n)) (done (inr (Normal n))) (sym (k.truth q.0))
      (λ b. done_corresponds (IsTurnEnd g) SameKind (inl m) (inl n) a) (λ b. done_corresponds (IsTurnEnd g) SameKind (inr (Next m)) (inr (Normal n)) a))

  -- what a statement and its command do from machines that are alike, at every bound
  abbrev pub SameRuns : Around → Option ℕ → (List Runs → Machine → Ended) → Simpl → Type 1
  SameRuns r depth q s = (fs fs' : List Runs) → Paired (SameCalls g.layout g.globals g.functions) fs fs' → (m n : Machine) → Alike g m n → Corresponds (IsEnd g r) SameKind (q fs m) (execs g.layout p locals s depth fs' n)

  module _ (depth : Option ℕ) (a : List Runs → Machine → Ended) (s : Simpl) (same : SameRuns in_a_loop depth a s) (r : Around) (test : C.Test) (t : is_typed_test g test ≡ true) where
    pub while_same : SameRuns r depth (λ fs m. loop (tested (setting g p level) test) (λ gs n. Then (a gs n) (turned (λ k. done (inl k)))) fs m)
        (looped (test_guards g.layout level test) (test_truth g.layout test) (body_of_loop s))
    while_same fs fs' paired m n alike =
        looped_same g p locals depth fs' r (test_guards g.layout level test) (test_truth g.layout test) (body_of_loop s) n
        (loop (tested (setting g p level) test) (λ gs o. Then (a gs o) (turned (λ k. done (inl k)))) fs m)
        (loop_corresponds (SameCalls g.layout g.globals g.functions) (Alike g) (IsLoopEnd g) SameKind (tested (setting g p level) test) (entered g.layout (test_guards g.layout level test) (test_truth g.layout test))
        (λ gs o. Then (a gs o) (turned (λ k. done (inl k)))) (λ gs o. Then (execs g.layout p locals (body_of_loop s) depth gs o) X.turned)
        (tested_same test t)
        (λ gs gs' k x y e. then_corresponds (IsBodyEnd g) (IsTurnEnd g) SameKind (a gs x) (execs g.layout p locals (body_of_loop s) depth gs' y) (turned (λ o. done (inl o))) X.turned
        (body_same g p locals depth gs' s y (a gs x) (same gs gs' k x y e)) (body_turned g))
        fs fs' paired m n alike)

    pub for_same : (step : List Runs → Machine → Ended) (s' : Simpl) → SameRuns nowhere depth step s' →
        SameRuns r depth (λ fs m. loop (tested (setting g p level) test) (λ gs k. Then (a gs k) (turned (stepped (λ j. step gs j)))) fs m)
        (looped (test_guards g.layout level test) (test_truth g.layout test) (Seq (body_of_loop s) s'))
    for_same step s' same' fs fs' paired m n alike =
        looped_same g p locals depth fs' r (test_guards g.layout level test) (test_truth g.layout test) (Seq (body_of_loop s) s') n
        (loop (tested (setting g p level) test) (λ gs o. Then (a gs o) (turned (stepped (λ j. step gs j)))) fs m)
        (loop_corresponds (SameCalls g.layout g.globals g.functions) (Alike g) (IsLoopEnd g) SameKind (tested (setting g p level) test) (entered g.layout (test_guards g.layout level test) (test_truth g.layout test))
        (λ gs o. Then (a gs o) (turned (stepped (λ j. step gs j)))) (λ gs o. Then (execs g.layout p locals (Seq (body_of_loop s) s') depth gs o) X.turned)
        (tested_same test t)
        (λ gs gs' k x y e. same_on_right (in_brackets (execs g.layout p locals (body_of_loop s) depth gs' y) (X.normally (λ o. execs g.layout p locals s' depth gs' o)) X.turned)
        (then_corresponds (IsBodyEnd g) (IsTurnEnd g) SameKind (a gs x) (execs g.layout p locals (body_of_loop s) depth gs' y) (turned (stepped (λ j. step gs j)))
        (λ f. Then (X.normally (λ o. execs g.layout p locals s' depth gs' o) f) X.turned)
        (body_same g p locals depth gs' s y (a gs x) (same gs gs' k x y e)) (stepped_same g (λ j. step gs j) (λ o. execs g.layout p locals s' depth gs' o) (same' gs gs' k))))
        fs fs' paired m n alike)
