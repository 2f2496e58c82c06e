-- Returns, and calls with what becomes of their results.
use Rattle.std.proofs.Common.{◌≡◌, ℕ, true, List, Option, Some, None, refl, sym, subst}
use Rattle.std.proofs.lemmas.Bool.{false≢true, and_parts}
use Rattle.correspondence.specs.Outcome.{Ends, done, Then}
use Rattle.correspondence.specs.Bound.{called}
use Rattle.correspondence.specs.Corresponds.{Corresponds, Paired}
use Rattle.correspondence.proofs.Corresponds.{done_corresponds, then_corresponds}
use Rattle.c_values.specs.Name.{Name, same_name, with_name}
use Rattle.c_values.specs.Types.{CType, same_type}
use Rattle.c_values.specs.Value as V
use Rattle.c_values.specs.Layout.{is_scalar}
use Rattle.c_values.specs.Choice.{Choice}
use Rattle.c_values.specs.CodeSameType.{type_is}
use Rattle.c_values.proofs.Laid.{same_name-refl}
use Rattle.expression_lang.specs.Sort.{Level}
use Rattle.expression_lang.specs.Signature.{Binder, Invocation, values_of}
use Rattle.expression_lang.specs.Expression as Exp
use Rattle.expression_lang.specs.Evaluation.{Env, State}
use Rattle.expression_lang.specs.GuardKind.{GuardKind}
use Rattle.simpl_lang.specs.Command.{Simpl, Seq, Set, Call}
use Rattle.simpl_lang.specs.Exec as X
use Rattle.expression_lang.specs.Machine.{Machine, Returned, with_local, machine_with}
use Rattle.simpl_lang.specs.Exec.{Normal, Abrupt, Runs, execs, result_local, result_into, value_on}
use Rattle.c_lang.specs.Typed as C
use Rattle.c_lang.specs.WellTyped.{Scope, Around, is_type, is_result, is_use_of, is_call_of, is_typed_target, are_arguments}
use Rattle.c_meaning.specs.CValue.{values, converted}
use Rattle.c_meaning.specs.CRun.{Next, Returning, and_use, used, result_value, evaluated, context}
use Rattle.generation.specs.Guards.{exps, conversion, argument_guards}
use Rattle.generation.specs.Generate.{guarded, jump, returned, call, call_of, call_local, assignment, target_guards}
use Rattle.c_meaning.specs.Fitting.{IsOfType, IsResultOf}
use Rattle.expression_lang.specs.States.{IsState}
use Rattle.generation.proofs.ExactTests.{all_of_three, where_true}
use Rattle.correspondence.proofs.Steps.{SameEnds, same_on_right, after_done, in_brackets}
use Rattle.generation.proofs.ExactGuards.{SameKind, evaluated_guarded}
use Rattle.generation.proofs.ExactTruth.{scalar_shaped}
use Rattle.generation.proofs.ExactMachines.{Alike, setting, alike_added, alike_at, is_declared}
use Rattle.generation.proofs.ExactEnds.{IsEnd, IsGiven, SameCalls, Stands, called_same, jump_same, flagged, flag_alike}
use Rattle.generation.proofs.ExactStores.{AreValuesOn, arguments_same, assigned_same}
use Rattle.generation.proofs.ExactConversions.{conversion_exact}

itself : {A F : Type 0} (p : Ends A F) → SameEnds p p
itself p = record { there = λ o x. x; back = λ o x. x }

pub found_there : (x : Name) (v : V.Value) (env : Env) → with_name x v env x ≡ v
found_there x v env = where_true (same_name x x) v (env x) (same_name-refl x)

module _ (g : Scope) (level : Level) (p : Choice) (locals : List Binder) (h : Stands g level locals) (r : Around) (depth : Option ℕ) (fs' : List Runs) where
  -- the result is set, and then the jump
  pub return_same : (v : V.Value) (a : Exp.Exp) (m n : Machine) → Alike g m n → value_on g.layout n a ≡ v → IsResultOf g.layout g.result (Some v) →
      Corresponds (IsEnd g r) SameKind (done (Returning (Some v) m)) (execs g.layout p locals (Seq (Set result_local a) (jump returned)) depth fs' n)
  return_same v a m n x e t =
      let o : Machine = with_local result_local (value_on g.layout n a) n in
      let y : Alike g m o = alike_added g h.own m n x result_local (value_on g.layout n a) refl (λ b. absurd (false≢true b)) in
      same_on_right (after_done (Normal o) (X.normally (λ q. execs g.layout p locals (jump returned) depth fs' q)))
      (jump_same (IsEnd g r) g.layout p locals returned depth fs' o (done (Returning (Some v) m))
      (done_corresponds (IsEnd g r) SameKind (Returning (Some v) m) (Abrupt (flagged returned o)) (t, flag_alike g h.own returned m o y, refl, e)))

  module _ (n' : ℕ) (m n : Machine) (a : Alike g m n) where
    -- a call's result stands in its local
    result_kept : (v : V.Value) (s : State) → IsState g.layout g.globals s → Alike g (machine_with m.locals s) (result_into (Some (call_local n')) (record { result = Some v; state = s }) n.locals)
    result_kept v s is =
        alike_added g h.own (machine_with m.locals s) (machine_with n.locals s) (alike_at g h.own m n a s is) (call_local n') v refl (λ b. absurd (false≢true b))

    -- what comes behind a call, by what becomes of its result
    abbrev behind : C.Use → Returned → Ends X.Flow GuardKind
    behind C.NoResult q = done (Normal (result_into None q n.locals))
    behind (C.Ignored from) q = done (Normal (result_into (Some (call_local n')) q n.locals))
    behind (C.Assigned from target) q =
        execs g.layout p locals (guarded (target_guards g.layout level target) (assignment g.layout target (conversion g.layout.target (C.target_type target) from (Exp.Var (call_local n'))))) depth fs'
        (result_into (Some (call_local n')) q n.locals)
    behind (C.Returned from to) q =
        execs g.layout p locals (Seq (Set result_local (conversion g.layout.target to from (Exp.Var (call_local n')))) (jump returned)) depth fs' (result_into (Some (call_local n')) q n.locals)

    used_same : (t : Option CType) → is_result t ≡ true → (use' : C.Use) → is_use_of g t use' ≡ true → (o : Option V.Value) (s : State) → IsResultOf g.layout t o → IsState g.layout g.globals s →
        Corresponds (IsEnd g r) SameKind (used (setting g p level) use' (result_value o) (machine_with m.locals s)) (behind use' (record { result = o; state = s }))
    used_same None i C.NoResult u None s x is = done_corresponds (IsEnd g r) SameKind (Next (machine_with m.locals s)) (Normal (machine_with n.locals s)) (alike_at g h.own m n a s is)
    used_same (Some t) i (C.Ignored from) u (Some v) s x is =
        done_corresponds (IsEnd g r) SameKind (Next (machine_with m.locals s)) (Normal (result_into (Some (call_local n')) (record { result = Some v; state = s }) n.locals)) (result_kept v s is)
    used_same (Some t) i (C.Assigned from target) u (Some v) s x is =
        let q = all_of_three (same_type t from) (is_scalar (C.target_type target)) (is_typed_target g target) u in
        let o : Machine = result_into (Some (call_local n')) (record { result = Some v; state = s }) n.locals in
        let w = conversion_exact g.layout o.locals o.state (C.target_type target) from (Exp.Var (call_local n')) v q.1 (found_there (call_local n') v n.locals)
        (subst (λ z. IsOfType g.layout z v) (type_is t from q.0) x) in
        assigned_same g level p locals h r depth fs' (conversion g.layout.target (C.target_type target) from (Exp.Var (call_local n'))) (converted g.layout (C.target_type target) from v)
        (machine_with m.locals s) o (result_kept v s is) w.0 target q.2 (scalar_shaped g.layout (C.target_type target) (converted g.layout (C.target_type target) from v) q.1 w.1)
    used_same (Some t) i (C.Returned from to) u (Some v) s x is =
        let q = and_parts (same_type t from) (is_type g.result to) u in
        let o : Machine = result_into (Some (call_local n')) (record { result = Some v; state = s }) n.locals in
        let b = is_declared g.result to q.1 in
        let w = conversion_exact g.layout o.locals o.state to from (Exp.Var (call_local n')) v (subst (λ z. is_result z ≡ true) b h.result) (found_there (call_local n') v n.locals)
        (subst (λ z. IsOfType g.layout z v) (type_is t from q.0) x) in
        return_same (converted g.layout to from v) (conversion g.layout.target to from (Exp.Var (call_local n'))) (machine_with m.locals s) o (result_kept v s is) w.0
        (subst (λ z. IsResultOf g.layout z (Some (converted g.layout to from v))) (sym b) w.1)
    used_same None i C.NoResult u (Some v) s x is = absurd x
    used_same (Some t) i (C.Ignored from) u None s x is = absurd x
    used_same (Some t) i (C.Assigned from target) u None s x is = absurd x
    used_same (Some t) i (C.Returned from to) u None s x is = absurd x
    used_same _ _ _ u _ _ _ _ = absurd (false≢true u)

    abbrev calling : Name → List V.Value → Machine → Invocation
    calling f vs o = record { name = f; arguments = vs; state = o.state }

    module _ (fs : List Runs) (same : Paired (SameCalls g.layout g.globals g.functions) fs fs') (f : Name) (fn : C.TypedFn) (is : C.typed_fn g.functions f ≡ Some fn) (es : List C.Expr) (use' : C.Use)
        (u : is_use_of g fn.result use' ≡ true) where
      called_alike : (vs : List V.Value) → AreValuesOn g n fn.params es vs →
          Corresponds (IsGiven g.layout g.globals fn) SameKind (called fs depth (calling f vs m)) (called fs' depth (calling f (values_of g.layout n.locals n.state (exps g.layout es)) n))
      called_alike vs k =
          subst (λ z. Corresponds (IsGiven g.layout g.globals fn) SameKind (called fs depth (calling f vs m)) (called fs' depth (calling f z n))) (sym k.0)
          (subst (λ z. Corresponds (IsGiven g.layout g.globals fn) SameKind (called fs depth (calling f vs m)) (called fs' depth (record { name = f; arguments = vs; state = z }))) (sym a.state)
          (called_same g.layout g.globals g.functions fs fs' same depth (calling f vs m) fn is k.1 a.can_be))

      returns_same : (q : Returned → Ends X.Flow GuardKind) → ((o : Returned) → SameEnds (q o) (behind use' o)) → (vs : List V.Value) → AreValuesOn g n fn.params es vs →
          Corresponds (IsEnd g r) SameKind (Then (called fs depth (calling f vs m)) (and_use (setting g p level) use' m))
          (Then (called fs' depth (calling f (values_of g.layout n.locals n.state (exps g.layout es)) n)) q)
      returns_same q s vs k =
          then_corresponds (IsGiven g.layout g.globals fn) (IsEnd g r) SameKind (called fs depth (calling f vs m)) (called fs' depth (calling f (values_of g.layout n.locals n.state (exps g.layout es)) n))
          (and_use (setting g p level) use' m) q (called_alike vs k)
          (λ o o' w. same_on_right (s o') (subst (λ z. Corresponds (IsEnd g r) SameKind (and_use (setting g p level) use' m o) (behind use' z)) (sym w.0)
          (used_same fn.result (h.callees f fn is).1 use' u o.result o.state w.1.value w.1.state)))

    -- a call's command, by what becomes of its result
    module _ (fs : List Runs) (same : Paired (SameCalls g.layout g.globals g.functions) fs fs') (f : Name) (fn : C.TypedFn) (is : C.typed_fn g.functions f ≡ Some fn) (es : List C.Expr)
        (vs : List V.Value) (k : AreValuesOn g n fn.params es vs) where
      -- a command behind the call
      abbrev sequel : Simpl → Returned → Ends X.Flow GuardKind
      sequel s o = Then (done (Normal (result_into (Some (call_local n')) o n.locals))) (X.normally (λ q. execs g.layout p locals s depth fs' q))

      in_sequence : (s : Simpl) → SameEnds (execs g.layout p locals (Seq (Call (Some (call_local n')) f (exps g.layout es)) s) depth fs' n)
          (Then (called fs' depth (calling f (values_of g.layout n.locals n.state (exps g.layout es)) n)) (sequel s))
      in_sequence s =
          in_brackets (called fs' depth (calling f (values_of g.layout n.locals n.state (exps g.layout es)) n)) (λ o. done (Normal (result_into (Some (call_local n')) o n.locals)))
          (X.normally (λ q. execs g.layout p locals s depth fs' q))

      command_same : (use' : C.Use) → is_use_of g fn.result use' ≡ true →
          Corresponds (IsEnd g r) SameKind (Then (called fs depth (calling f vs m)) (and_use (setting g p level) use' m)) (execs g.layout p locals (call g.layout level n' f (exps g.layout es) use') depth fs' n)
      command_same C.NoResult u = returns_same fs same f fn is es C.NoResult u (behind C.NoResult) (λ o. itself (behind C.NoResult o)) vs k
      command_same (C.Ignored from) u = returns_same fs same f fn is es (C.Ignored from) u (behind (C.Ignored from)) (λ o. itself (behind (C.Ignored from) o)) vs k
      command_same (C.Assigned from target) u =
          let s = guarded (target_guards g.layout level target) (assignment g.layout target (conversion g.layout.target (C.target_type target) from (Exp.Var (call_local n')))) in
          same_on_right (in_sequence s) (returns_same fs same f fn is es (C.Assigned from target) u (sequel s) (λ o. after_done (Normal (result_into (Some (call_local n')) o n.locals)) (X.normally (λ q. execs g.layout p locals s depth fs' q))) vs k)
      command_same (C.Returned from to) u =
          let s = Seq (Set result_local (conversion g.layout.target to from (Exp.Var (call_local n')))) (jump returned) in
          same_on_right (in_sequence s) (returns_same fs same f fn is es (C.Returned from to) u (sequel s) (λ o. after_done (Normal (result_into (Some (call_local n')) o n.locals)) (X.normally (λ q. execs g.layout p locals s depth fs' q))) vs k)

    call_by_function : (fs : List Runs) → Paired (SameCalls g.layout g.globals g.functions) fs fs' → (f : Name) (es : List C.Expr) (use' : C.Use) (fn : Option C.TypedFn) → C.typed_fn g.functions f ≡ fn → is_call_of g fn es use' ≡ true →
        Corresponds (IsEnd g r) SameKind (evaluated (values (context (setting g p level) m) es) (λ vs. Then (called fs depth (calling f vs m)) (and_use (setting g p level) use' m)))
        (execs g.layout p locals (call_of g.layout level n' f es use') depth fs' n)
    call_by_function fs same f es use' None is t = absurd (false≢true t)
    call_by_function fs same f es use' (Some fn) is t =
        let q = and_parts (are_arguments g fn.params es) (is_use_of g fn.result use') t in
        evaluated_guarded (IsEnd g r) g.layout p locals depth fs' n (argument_guards g.layout level es) (call g.layout level n' f (exps g.layout es) use') (values (context (setting g p level) m) es)
        (AreValuesOn g n fn.params es) (λ vs. Then (called fs depth (calling f vs m)) (and_use (setting g p level) use' m))
        (arguments_same g level p locals h m n a fn.params (h.callees f fn is).0 es q.0) (λ vs k. command_same fs same f fn is es vs k use' q.1)

    pub call_same : (fs : List Runs) → Paired (SameCalls g.layout g.globals g.functions) fs fs' → (f : Name) (es : List C.Expr) (use' : C.Use) → is_call_of g (C.typed_fn g.functions f) es use' ≡ true →
        Corresponds (IsEnd g r) SameKind (evaluated (values (context (setting g p level) m) es) (λ vs. Then (called fs depth (calling f vs m)) (and_use (setting g p level) use' m)))
        (execs g.layout p locals (call_of g.layout level n' f es use') depth fs' n)
    call_same fs same f es use' t = call_by_function fs same f es use' (C.typed_fn g.functions f) refl t
