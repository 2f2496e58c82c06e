-- A function of a unit, from its arguments to what it gives.
use Rattle.std.proofs.Common.{◌≡◌, ℕ, true, false, List, ◌++◌, Option, Some, None, refl, sym, subst, ap, ap₂, ◌∙◌}
use Rattle.std.proofs.lemmas.Bool.{false≢true}
use Rattle.correspondence.specs.Outcome.{Ends, Then}
use Rattle.correspondence.specs.Corresponds.{Corresponds}
use Rattle.correspondence.proofs.Corresponds.{done_corresponds, fault_corresponds, then_corresponds}
use Rattle.c_values.specs.Name.{Name, are_distinct}
use Rattle.c_values.specs.Types.{CType}
use Rattle.c_values.specs.Value as V
use Rattle.c_values.specs.Layout.{Layout}
use Rattle.c_values.specs.Choice.{Choice}
use Rattle.expression_lang.specs.Sort.{Level, Kind}
use Rattle.expression_lang.specs.Evaluation.{Env, State}
use Rattle.expression_lang.specs.Expression as Exp
use Rattle.expression_lang.specs.Signature.{Binder, bound, kind_at, result_kind}
use Rattle.expression_lang.specs.GuardKind.{GuardKind}
use Rattle.simpl_lang.specs.Command.{Simpl, Skip, Guard, kind_of}
use Rattle.expression_lang.specs.GuardKind as K
use Rattle.simpl_lang.specs.Exec as X
use Rattle.expression_lang.specs.Machine.{Machine, Returned, machine_with}
use Rattle.simpl_lang.specs.Exec.{Runs, Normal, Abrupt, execs, result_local}
use Rattle.c_lang.specs.Typed as C
use Rattle.c_lang.specs.WellTyped.{Scope, nowhere, variable_type, are_variables}
use Rattle.c_meaning.specs.CRun as R
use Rattle.c_meaning.specs.CRun.{Next, Broken, Continued, Returning, Ended}
use Rattle.generation.specs.Guards.{when}
use Rattle.c_meaning.specs.Kinds.{variables}
use Rattle.generation.specs.Generate.{whole_body}
use Rattle.c_meaning.specs.Fitting.{IsOfType, AreOfTypes, IsResultOf, IsReturned}
use Rattle.expression_lang.specs.States.{IsState}
use Rattle.correspondence.proofs.Steps.{same_on_right, after_done, after_fault, in_brackets}
use Rattle.c_values.proofs.Options.{some_is}
use Rattle.generation.proofs.ExactGuards.{SameKind}
use Rattle.generation.proofs.ExactMachines.{Alike, declared_scalar, is_first_name, own_not_first}
use Rattle.generation.proofs.ExactEnds.{IsEnd}
use Rattle.generation.proofs.ExactEntry.{declared_before, declared_behind, bound_leaves, parameter_bound, zero_typed, c_zero, simpl_zero, zero_behind, kind_found, kind_behind, zeros_untrue}

module _ (l : Layout) (level : Level) (params locals : List C.Variable) (bs : List Binder) where
  -- a name is that of a parameter, or of a local alone
  by_place : (P : Type 0) (x : Name) (o : Option CType) → variable_type params x ≡ o → ((t : CType) → variable_type params x ≡ Some t → P) → (variable_type params x ≡ None → P) → P
  by_place P x (Some t) e h k = h t e
  by_place P x None e h k = k e

  pub locals_kind : (x : Name) (t : CType) → variable_type (params ++ locals) x ≡ Some t → kind_of (variables l.target level params ++ (variables l.target level locals ++ bs)) x ≡ Some (kind_at l.target level t)
  locals_kind x t e =
      by_place (kind_of (variables l.target level params ++ (variables l.target level locals ++ bs)) x ≡ Some (kind_at l.target level t)) x (variable_type params x) refl
      (λ u d. kind_found l level x params (variables l.target level locals ++ bs) u d ∙ ap (λ z. Some (kind_at l.target level z)) (some_is (sym (declared_before x u params locals d) ∙ e)))
      (λ d. kind_behind l level x params (variables l.target level locals ++ bs) d ∙ kind_found l level x locals bs t (sym (declared_behind x params locals d) ∙ e))

  module _ (own : are_variables (params ++ locals) ≡ true) (own_params : are_variables params ≡ true) (own_locals : are_variables locals ≡ true) (distinct : are_distinct (C.variable_names params) ≡ true)
      (vs : List V.Value) (typed : AreOfTypes l params vs) where
    abbrev c_env : Env
    c_env = bound (C.variable_names params) vs (R.zero_locals l locals)

    abbrev simpl_env : Env
    simpl_env = bound (C.variable_names params) vs (X.zero_locals (variables l.target level params ++ (variables l.target level locals ++ bs)))

    abbrev BeginsAlike : Name → CType → Type 0
    BeginsAlike x t = (simpl_env x ≡ c_env x) × IsOfType l t (c_env x)

    begins_alike : (x : Name) (t : CType) → variable_type (params ++ locals) x ≡ Some t → BeginsAlike x t
    begins_alike x t e =
        by_place (BeginsAlike x t) x (variable_type params x) refl
        (λ u d. let b = parameter_bound l x t params vs distinct typed (d ∙ ap Some (some_is (sym (declared_before x u params locals d) ∙ e))) in
        (b.2 (X.zero_locals (variables l.target level params ++ (variables l.target level locals ++ bs))) ∙ sym (b.2 (R.zero_locals l locals)), subst (λ v. IsOfType l t v) (sym (b.2 (R.zero_locals l locals))) b.1))
        (λ d. let k = sym (declared_behind x params locals d) ∙ e in
        let c = bound_leaves l x params vs typed d (R.zero_locals l locals) ∙ c_zero l level x locals t k in (
          bound_leaves l x params vs typed d (X.zero_locals (variables l.target level params ++ (variables l.target level locals ++ bs))) ∙ zero_behind l level x params (variables l.target level locals ++ bs) d
              ∙ simpl_zero l level x locals bs t own_locals k ∙ sym c,
          subst (λ v. IsOfType l t v) (sym c) (zero_typed l t),
        ))

    begins_quiet : (x : Name) → is_first_name x ≡ true → V.truth_in (simpl_env x) ≡ false
    begins_quiet x f =
        by_place (V.truth_in (simpl_env x) ≡ false) x (variable_type params x) refl
        (λ u d. absurd (false≢true (sym (own_not_first x (declared_scalar params own_params x u d).0) ∙ f)))
        (λ d. ap (λ v. V.truth_in v) (bound_leaves l x params vs typed d (X.zero_locals (variables l.target level params ++ (variables l.target level locals ++ bs)))) ∙ zeros_untrue (variables l.target level params ++ (variables l.target level locals ++ bs)) x)

    pub entered_alike : (g : Scope) (s : State) → g.layout ≡ l → g.variables ≡ params ++ locals → IsState g.layout g.globals s → Alike g (machine_with c_env s) (machine_with simpl_env s)
    entered_alike g s e d is = record {
      state = refl;
      locals = λ x t k. (begins_alike x t (sym (ap (λ z. variable_type z x) d) ∙ k)).0;
      typed = λ x t k. subst (λ z. IsOfType z t (c_env x)) (sym e) (begins_alike x t (sym (ap (λ z. variable_type z x) d) ∙ k)).1;
      can_be = is;
      quiet = begins_quiet;
    }

-- what a function gives, at the end of its body
module _ (g : Scope) (p : Choice) (locals : List Binder) (depth : Option ℕ) (fs : List Runs) where
  abbrev Gives : Option CType → Returned → Returned → Type 0
  Gives t r r' = (r' ≡ r) × IsReturned g.layout g.globals t r

  abbrev caught : X.Flow → Ends X.Flow GuardKind
  caught = X.handled (λ n. execs g.layout p locals Skip depth fs n)

  nothing_ended : g.result ≡ None → (f : R.Flow) (f' : X.Flow) → IsEnd g nowhere f f' → Corresponds (Gives None) SameKind (R.ended None f) (Then (caught f') (X.ended None))
  nothing_ended e (Next m) (Normal n) a =
      same_on_right (after_done (Normal n) (X.ended None)) (done_corresponds (Gives None) SameKind (record { result = None; state = m.state }) (record { result = None; state = n.state })
      (ap (λ (s : State). let r : Returned = record { result = None; state = s } in r) a.state, record { value = tt; state = a.can_be }))
  nothing_ended e (Returning None m) (Abrupt n) a =
      same_on_right (after_done (Normal n) (X.ended None)) (done_corresponds (Gives None) SameKind (record { result = None; state = m.state }) (record { result = None; state = n.state })
      (ap (λ (s : State). let r : Returned = record { result = None; state = s } in r) a.1.state, record { value = tt; state = a.1.can_be }))
  nothing_ended e (Returning (Some v) m) (Abrupt n) a = absurd (subst (λ z. IsResultOf g.layout z (Some v)) e a.0)
  nothing_ended e (Broken m) (Abrupt n) a = absurd (false≢true a.0)
  nothing_ended e (Continued m) (Abrupt n) a = absurd (false≢true a.0)
  nothing_ended e (Returning v m) (Normal n) a = absurd a
  nothing_ended _ _ _ a = absurd a

  abbrev unreached : Simpl
  unreached = Guard (when K.Unreached (Exp.TruthLit false)) Skip

  abbrev not_to_end : X.Flow → Ends X.Flow GuardKind
  not_to_end = X.normally (λ n. execs g.layout p locals unreached depth fs n)

  value_ended : (t : CType) (k : Kind) → g.result ≡ Some t → (f : R.Flow) (f' : X.Flow) → IsEnd g nowhere f f' →
      Corresponds (Gives (Some t)) SameKind (R.ended (Some t) f) (Then (not_to_end f') (λ q. Then (caught q) (X.ended (Some k))))
  value_ended t k e (Next m) (Normal n) a =
      same_on_right (after_fault {A = X.Flow} K.Unreached (λ q. Then (caught q) (X.ended (Some k)))) (fault_corresponds (Gives (Some t)) SameKind K.Unreached K.Unreached refl)
  value_ended t k e (Returning (Some v) m) (Abrupt n) a =
      same_on_right (after_done (Abrupt n) (λ q. Then (caught q) (X.ended (Some k))))
      (same_on_right (after_done (Normal n) (X.ended (Some k)))
      (done_corresponds (Gives (Some t)) SameKind (record { result = Some v; state = m.state }) (record { result = Some (n.locals result_local); state = n.state })
      (ap₂ (λ (w : V.Value) (s : State). let r : Returned = record { result = Some w; state = s } in r) a.3 a.1.state, record { value = subst (λ z. IsResultOf g.layout z (Some v)) e a.0; state = a.1.can_be })))
  value_ended t k e (Returning None m) (Abrupt n) a = absurd (subst (λ z. IsResultOf g.layout z None) e a.0)
  value_ended t k e (Broken m) (Abrupt n) a = absurd (false≢true a.0)
  value_ended t k e (Continued m) (Abrupt n) a = absurd (false≢true a.0)
  value_ended t k e (Returning v m) (Normal n) a = absurd a
  value_ended _ _ _ _ _ a = absurd a

  pub whole_ended : (target : _) (level : Level) (t : Option CType) → g.result ≡ t → (q : Ended) (s : Simpl) (n : Machine) → Corresponds (IsEnd g nowhere) SameKind q (execs g.layout p locals s depth fs n) →
      Corresponds (Gives t) SameKind (Then q (R.ended t)) (Then (execs g.layout p locals (whole_body t s) depth fs n) (X.ended (result_kind target level t)))
  whole_ended target level None e q s n h =
      same_on_right (in_brackets (execs g.layout p locals s depth fs n) caught (X.ended None))
      (then_corresponds (IsEnd g nowhere) (Gives None) SameKind q (execs g.layout p locals s depth fs n) (R.ended None) (λ f. Then (caught f) (X.ended None)) h (nothing_ended e))
  whole_ended target level (Some t) e q s n h =
      let k = kind_at target level t in
      same_on_right (in_brackets (Then (execs g.layout p locals s depth fs n) not_to_end) caught (X.ended (Some k)))
      (same_on_right (in_brackets (execs g.layout p locals s depth fs n) not_to_end (λ f. Then (caught f) (X.ended (Some k))))
      (then_corresponds (IsEnd g nowhere) (Gives (Some t)) SameKind q (execs g.layout p locals s depth fs n) (R.ended (Some t)) (λ f. Then (not_to_end f) (λ z. Then (caught z) (X.ended (Some k)))) h (value_ended t k e)))
