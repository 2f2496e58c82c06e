-- A statement and its command have the same ends, from machines that are alike, over functions that do the same at every
-- smaller bound.
use Rattle.std.proofs.Common.{◌≡◌, ℕ, true, List, Option, Some, None, ℤ, refl, sym, subst}
use Rattle.std.specs.Prelude.{◌&&◌}
use Rattle.std.proofs.lemmas.Bool.{false≢true, and_parts}
use Rattle.correspondence.specs.Outcome.{Ends, done, Then, choose, loop}
use Rattle.correspondence.specs.Corresponds.{Corresponds}
use Rattle.correspondence.proofs.Corresponds.{done_corresponds, then_corresponds, choose_corresponds}
use Rattle.c_values.specs.Types.{CType, Integer, same_type}
use Rattle.c_values.specs.Value as V
use Rattle.c_values.specs.Layout.{is_scalar, scalar_width, shape_of}
use Rattle.c_values.specs.Path.{HasShape}
use Rattle.c_values.specs.Choice.{Choice, picked}
use Rattle.c_values.specs.CodeSameType.{type_is}
use Rattle.expression_lang.specs.Sort.{Level}
use Rattle.expression_lang.specs.Signature.{Binder, kind_at}
use Rattle.expression_lang.specs.GuardKind.{GuardKind}
use Rattle.simpl_lang.specs.Command.{Simpl, Set, Seq, Cond}
use Rattle.simpl_lang.specs.Exec as X
use Rattle.expression_lang.specs.Machine.{Machine, with_local}
use Rattle.simpl_lang.specs.Exec.{Normal, Abrupt, Runs, execs, result_local, holds_on, picked_local}
use Rattle.c_lang.specs.Typed as C
use Rattle.c_lang.specs.WellTyped.{Scope, Around, in_a_loop, nowhere, in_a_switch, is_type, is_typed, is_typed_at, is_typed_scalar, is_typed_target, is_typed_test, all_labels, are_values, are_different, has_one_default, variable_type, is_statement, are_statements, are_groups, is_result, gives_nothing}
use Rattle.c_meaning.specs.CValue.{value, is_true}
use Rattle.c_meaning.specs.CRun as R
use Rattle.c_meaning.specs.CRun.{Next, Broken, Continued, Returning, Ended, and_next, assigned, context, tested, turned, stepped, statement, statements}
use Rattle.generation.specs.Guards.{guards, truth, exp}
use Rattle.generation.specs.Generate.{returned, broken, continued, jump, assignment, target_guards, test_guards, test_truth, looped, body_of_loop, before, command, commands}
use Rattle.c_meaning.specs.Fitting.{IsResultOf}
use Rattle.generation.proofs.ExactTests.{all_of_three, all_of_four, all_of_five}
use Rattle.generation.proofs.ExactPicks.{IsWordIn, kind_picked}
use Rattle.correspondence.proofs.Steps.{same_on_left, after_done, in_brackets, left_goes_on}
use Rattle.generation.proofs.ExactGuards.{SameKind, evaluated_guarded, evaluated_twice_guarded}
use Rattle.generation.proofs.ExactTruth.{scalar_bits}
use Rattle.generation.proofs.ExactMachines.{Alike, setting, is_declared, declared_scalar, alike_declared}
use Rattle.generation.proofs.ExactEnds.{IsEnd, Stands, next_same, jump_same, flagged, flag_alike}
use Rattle.generation.proofs.ExactStores.{IsValueOn, value_same, assigned_same}
use Rattle.generation.proofs.ExactCalls.{return_same, call_same}
use Rattle.generation.proofs.ExactLoops.{SameRuns, while_same, for_same}
use Rattle.generation.proofs.ExactDoWhile.{do_while_same}
use Rattle.generation.proofs.ExactSwitch.{SameGroups, switch_same}

module _ (g : Scope) (level : Level) (p : Choice) (locals : List Binder) (h : Stands g level locals) where
  -- each statement of a list does what its command does
  abbrev pub SameStatements : Around → Option ℕ → C.Statements → Type 1
  SameStatements r depth C.no_statements = Unit {1}
  SameStatements r depth (C.next s ss) = SameRuns g level p locals h r depth (λ fs m. statement (setting g p level) s depth fs m) (command g.layout level s) × SameStatements r depth ss

  module _ (r : Around) (depth : Option ℕ) where
    abbrev Same : C.Statement → Type 1
    Same s = SameRuns g level p locals h r depth (λ fs m. statement (setting g p level) s depth fs m) (command g.layout level s)

    abbrev SameAll : C.Statements → Type 1
    SameAll ss = SameRuns g level p locals h r depth (λ fs m. statements (setting g p level) ss depth fs m) (commands g.layout level ss)

    last_ended : (f : R.Flow) (f' : X.Flow) → IsEnd g r f f' → Corresponds (IsEnd g r) SameKind (and_next (λ m. done (Next m)) f) (done f')
    last_ended (Next m) (Normal n) e = done_corresponds (IsEnd g r) SameKind (Next m) (Normal n) e
    last_ended (Broken m) (Abrupt n) e = done_corresponds (IsEnd g r) SameKind (Broken m) (Abrupt n) e
    last_ended (Continued m) (Abrupt n) e = done_corresponds (IsEnd g r) SameKind (Continued m) (Abrupt n) e
    last_ended (Returning v m) (Abrupt n) e = done_corresponds (IsEnd g r) SameKind (Returning v m) (Abrupt n) e
    last_ended _ _ e = absurd e

    in_order_same : (s : C.Statement) (ss : C.Statements) → Same s → SameAll ss → SameAll (C.next s ss)
    in_order_same s C.no_statements k ks fs fs' paired m n a =
        left_goes_on (IsEnd g r) (IsEnd g r) SameKind (statement (setting g p level) s depth fs m) (and_next (λ o. done (Next o))) (execs g.layout p locals (command g.layout level s) depth fs' n)
        (k fs fs' paired m n a) last_ended
    in_order_same s (C.next s' ss) k ks fs fs' paired m n a =
        then_corresponds (IsEnd g r) (IsEnd g r) SameKind (statement (setting g p level) s depth fs m) (execs g.layout p locals (command g.layout level s) depth fs' n)
        (and_next (λ o. statements (setting g p level) (C.next s' ss) depth fs o)) (X.normally (λ o. execs g.layout p locals (commands g.layout level (C.next s' ss)) depth fs' o))
        (k fs fs' paired m n a)
        (next_same g r (λ o. statements (setting g p level) (C.next s' ss) depth fs o) (λ o. execs g.layout p locals (commands g.layout level (C.next s' ss)) depth fs' o) (ks fs fs' paired))

    all_same : (ss : C.Statements) → SameStatements r depth ss → SameAll ss
    all_same C.no_statements k fs fs' paired m n a = done_corresponds (IsEnd g r) SameKind (Next m) (Normal n) a
    all_same (C.next s ss) k fs fs' paired m n a = in_order_same s ss k.0 (all_same ss k.1) fs fs' paired m n a

  -- what a `for` does first, and then its loop
  module _ (r : Around) (depth : Option ℕ) (rest : List Runs → Machine → Ended) (s : Simpl) (same : SameRuns g level p locals h r depth rest s) where
    before_then : (fs : List Runs) (q : Machine → Ended) (q' : Machine → Ends X.Flow GuardKind) →
        ((m n : Machine) → Alike g m n → Corresponds (IsEnd g r) SameKind (Then (q m) (and_next (λ o. rest fs o))) (q' n)) →
        (f : R.Flow) (f' : X.Flow) → IsEnd g nowhere f f' → Corresponds (IsEnd g r) SameKind (Then (and_next q f) (and_next (λ o. rest fs o))) (X.normally q' f')
    before_then fs q q' k (Next m) (Normal n) e = k m n e
    before_then fs q q' k (Returning v m) (Abrupt n) e = same_on_left (after_done (Returning v m) (and_next (λ o. rest fs o))) (done_corresponds (IsEnd g r) SameKind (Returning v m) (Abrupt n) e)
    before_then fs q q' k (Broken m) (Abrupt n) e = absurd (false≢true e.0)
    before_then fs q q' k (Continued m) (Abrupt n) e = absurd (false≢true e.0)
    before_then _ _ _ _ _ _ e = absurd e

    before_same : (ss : C.Statements) → SameStatements nowhere depth ss →
        SameRuns g level p locals h r depth (λ fs m. Then (statements (setting g p level) ss depth fs m) (and_next (λ n. rest fs n))) (before g.layout level ss s)
    before_same C.no_statements k fs fs' paired m n a = same_on_left (after_done (Next m) (and_next (λ o. rest fs o))) (same fs fs' paired m n a)
    before_same (C.next b ss) k fs fs' paired m n a =
        same_on_left (in_brackets (statement (setting g p level) b depth fs m) (and_next (λ o. statements (setting g p level) ss depth fs o)) (and_next (λ o. rest fs o)))
        (then_corresponds (IsEnd g nowhere) (IsEnd g r) SameKind (statement (setting g p level) b depth fs m) (execs g.layout p locals (command g.layout level b) depth fs' n)
        (λ f. Then (and_next (λ o. statements (setting g p level) ss depth fs o) f) (and_next (λ o. rest fs o))) (X.normally (λ o. execs g.layout p locals (before g.layout level ss s) depth fs' o))
        (k.0 fs fs' paired m n a)
        (before_then fs (λ o. statements (setting g p level) ss depth fs o) (λ o. execs g.layout p locals (before g.layout level ss s) depth fs' o) (before_same ss k.1 fs fs' paired)))

  module _ (r : Around) (depth : Option ℕ) where
    jumps : (k : ℤ) (f : Machine → R.Flow) → ((m n : Machine) → Alike g m n → IsEnd g r (f m) (Abrupt (flagged k n))) → SameRuns g level p locals h r depth (λ fs m. done (f m)) (jump k)
    jumps k f e fs fs' paired m n a = jump_same (IsEnd g r) g.layout p locals k depth fs' n (done (f m)) (done_corresponds (IsEnd g r) SameKind (f m) (Abrupt (flagged k n)) (e m n a))

    nothing_given : (t : Option CType) → gives_nothing t ≡ true → IsResultOf g.layout t None
    nothing_given None e = tt
    nothing_given (Some t) e = absurd (false≢true e)

    declare_same : (x : _) (u : CType) → is_type (variable_type g.variables x) u ≡ true → Same r depth (C.Declare x u)
    declare_same x u t fs fs' paired m n a =
        let d = is_declared (variable_type g.variables x) u t in
        let w = scalar_width g.layout.target u in
        subst (λ k. Corresponds (IsEnd g r) SameKind (Then (picked p w) (λ v. done (Next (with_local x (V.Bits v) m)))) (Then (picked_local p k) (λ v. done (Normal (with_local x v n))))) (sym (h.kinds x u d))
        (then_corresponds (IsWordIn w) (IsEnd g r) SameKind (picked p w) (picked_local p (Some (kind_at g.layout.target level u))) (λ v. done (Next (with_local x (V.Bits v) m))) (λ v. done (Normal (with_local x v n)))
        (kind_picked p g.layout.target level u (declared_scalar g.variables h.own x u d).1)
        (λ v v' k. done_corresponds (IsEnd g r) SameKind (Next (with_local x (V.Bits v) m)) (Normal (with_local x v' n))
        (subst (λ z. Alike g (with_local x (V.Bits v) m) (with_local x z n)) (sym k.0) (alike_declared g h.own m n a x u (V.Bits v) d k.1))))

    assign_same : (target : C.Destination) (e : C.Expr) → (is_typed_target g target && is_typed_at g (C.target_type target) e) ≡ true → Same r depth (C.Assign target e)
    assign_same target e t fs fs' paired m n a =
        let q = and_parts (is_typed_target g target) (is_typed_at g (C.target_type target) e) t in
        let y = and_parts (same_type (C.type_of e) (C.target_type target)) (is_typed g e) q.1 in
        evaluated_twice_guarded (IsEnd g r) g.layout p locals depth fs' n (guards g.layout level e) (target_guards g.layout level target) (assignment g.layout target (exp g.layout e)) (value (context (setting g p level) m) e)
        (IsValueOn g n e) (λ v. assigned (setting g p level) target v m) (value_same g level p locals h m n a e y.1)
        (λ v k. assigned_same g level p locals h r depth fs' (exp g.layout e) v m n a k.is target q.0 (subst (λ z. HasShape (shape_of g.layout z) v) (type_is (C.type_of e) (C.target_type target) y.0) k.shaped))

    if_same : (e : C.Expr) (a b : C.Statement) → is_typed_scalar g e ≡ true → Same r depth a → Same r depth b → Same r depth (C.If e a b)
    if_same e a b t k j fs fs' paired m n x =
        let y = and_parts (is_scalar (C.type_of e)) (is_typed g e) t in
        evaluated_guarded (IsEnd g r) g.layout p locals depth fs' n (guards g.layout level e) (Cond (truth g.layout e) (command g.layout level a) (command g.layout level b)) (value (context (setting g p level) m) e)
        (IsValueOn g n e) (λ v. choose (is_true v) (statement (setting g p level) a depth fs m) (statement (setting g p level) b depth fs m)) (value_same g level p locals h m n x e y.1)
        (λ v z. choose_corresponds (IsEnd g r) SameKind (is_true v) (holds_on g.layout n (truth g.layout e)) (statement (setting g p level) a depth fs m) (statement (setting g p level) b depth fs m)
        (execs g.layout p locals (command g.layout level a) depth fs' n) (execs g.layout p locals (command g.layout level b) depth fs' n) (sym (z.truth y.0)) (λ c. k fs fs' paired m n x) (λ c. j fs fs' paired m n x))

    value_returned_same : (e : C.Expr) → (is_type g.result (C.type_of e) && is_typed g e) ≡ true → Same r depth (C.Return e)
    value_returned_same e t fs fs' paired m n a =
        let y = and_parts (is_type g.result (C.type_of e)) (is_typed g e) t in
        let d = is_declared g.result (C.type_of e) y.0 in
        evaluated_guarded (IsEnd g r) g.layout p locals depth fs' n (guards g.layout level e) (Seq (Set result_local (exp g.layout e)) (jump returned)) (value (context (setting g p level) m) e)
        (IsValueOn g n e) (λ v. done (Returning (Some v) m)) (value_same g level p locals h m n a e y.1)
        (λ v k. return_same g level p locals h r depth fs' v (exp g.layout e) m n a k.is
        (subst (λ z. IsResultOf g.layout z (Some v)) (sym d) (scalar_bits g.layout (C.type_of e) v (subst (λ z. is_result z ≡ true) d h.result) k.shaped)))

  mutual
    pub statement_same : (s : C.Statement) (r : Around) → is_statement g r s ≡ true → (depth : Option ℕ) → Same r depth s
    statement_same C.Empty r t depth = λ fs fs' paired m n a. done_corresponds (IsEnd g r) SameKind (Next m) (Normal n) a
    statement_same (C.Block ss) r t depth = all_same r depth ss (statements_same ss r t depth)
    statement_same (C.Declare x u) r t depth = declare_same r depth x u t
    statement_same (C.Assign target e) r t depth = assign_same r depth target e t
    statement_same (C.Call n f es use') r t depth = λ fs fs' paired m k a. call_same g level p locals h r depth fs' n m k a fs paired f es use' t
    statement_same (C.If e a b) r t depth =
        let q = all_of_three (is_typed_scalar g e) (is_statement g r a) (is_statement g r b) t in
        if_same r depth e a b q.0 (statement_same a r q.1 depth) (statement_same b r q.2 depth)
    statement_same (C.While e a) r t depth =
        let q = and_parts (is_typed_scalar g e) (is_statement g in_a_loop a) t in
        while_same g level p locals h depth (λ fs m. statement (setting g p level) a depth fs m) (command g.layout level a) (statement_same a in_a_loop q.1 depth) r (C.Tested e) q.0
    statement_same (C.DoWhile k a e) r t depth =
        let q = and_parts (is_statement g in_a_loop a) (is_typed_scalar g e) t in
        do_while_same g level p locals h k e q.1 depth (λ fs m. statement (setting g p level) a depth fs m) (command g.layout level a) (statement_same a in_a_loop q.0 depth) r
    statement_same (C.For init test step a) r t depth =
        let q = all_of_four (are_statements g nowhere init) (is_typed_test g test) (is_statement g nowhere step) (is_statement g in_a_loop a) t in
        before_same r depth
        (λ fs m. loop (tested (setting g p level) test) (λ gs k. Then (statement (setting g p level) a depth gs k) (turned (stepped (λ j. statement (setting g p level) step depth gs j)))) fs m)
        (looped (test_guards g.layout level test) (test_truth g.layout test) (Seq (body_of_loop (command g.layout level a)) (command g.layout level step)))
        (for_same g level p locals h depth (λ fs m. statement (setting g p level) a depth fs m) (command g.layout level a) (statement_same a in_a_loop q.3 depth) r test q.1
        (λ fs m. statement (setting g p level) step depth fs m) (command g.layout level step) (statement_same step nowhere q.2 depth)) init (statements_same init nowhere q.0 depth)
    statement_same (C.Switch n i e gs) r t depth =
        let q = all_of_five (is_typed_at g (Integer i) e) (are_values g.layout.target i (all_labels gs)) (are_different (all_labels gs)) (has_one_default gs) (are_groups g (in_a_switch r) gs) t in
        switch_same g level p locals h (in_a_switch r) depth n i e gs q.0 q.1 q.2 q.3 r refl (groups_same gs (in_a_switch r) q.4 depth)
    statement_same C.Break r t depth = jumps r depth broken (λ m. Broken m) (λ m n a. (t, flag_alike g h.own broken m n a, refl))
    statement_same C.Continue r t depth = jumps r depth continued (λ m. Continued m) (λ m n a. (t, flag_alike g h.own continued m n a, refl))
    statement_same C.ReturnNothing r t depth = jumps r depth returned (λ m. Returning None m) (λ m n a. (nothing_given r depth g.result t, flag_alike g h.own returned m n a, refl, tt))
    statement_same (C.Return e) r t depth = value_returned_same r depth e t

    pub statements_same : (ss : C.Statements) (r : Around) → are_statements g r ss ≡ true → (depth : Option ℕ) → SameStatements r depth ss
    statements_same C.no_statements r t depth = tt
    statements_same (C.next s ss) r t depth =
        let q = and_parts (is_statement g r s) (are_statements g r ss) t in
        (statement_same s r q.0 depth, statements_same ss r q.1 depth)

    groups_same : (gs : C.Groups) (r : Around) → are_groups g r gs ≡ true → (depth : Option ℕ) → SameGroups g level p locals h r depth gs
    groups_same C.no_groups r t depth = tt
    groups_same (C.group ks d ss gs) r t depth =
        let q = and_parts (are_statements g r ss) (are_groups g r gs) t in
        (all_same r depth ss (statements_same ss r q.0 depth), groups_same gs r q.1 depth)

  -- a function's statements
  pub body_same : (ss : C.Statements) → are_statements g nowhere ss ≡ true → (depth : Option ℕ) → SameAll nowhere depth ss
  body_same ss t depth = all_same nowhere depth ss (statements_same ss nowhere t depth)
