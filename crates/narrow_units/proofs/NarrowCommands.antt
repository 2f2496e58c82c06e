-- The commands of a well-typed statement have no wide operation.
use Rattle.std.proofs.Common.{◌≡◌, ℕ, Bool, true, false, List, [], ◌∷◌, ◌++◌, Option, Some, None, ℤ, refl}
use Rattle.std.proofs.lemmas.Bool.{false≢true}
use Rattle.std.specs.Cmp.{first_so, second_so}
use Rattle.c_values.specs.Name.{Name}
use Rattle.c_values.specs.Types.{Target, IntType, CType}
use Rattle.c_values.specs.Layout.{Layout}
use Rattle.expression_lang.specs.Expression as E
use Rattle.expression_lang.specs.Evaluation.{Env, State}
use Rattle.expression_lang.specs.Sort as S
use Rattle.expression_lang.specs.Sort.{Level}
use Rattle.expression_lang.specs.States.{IsEnvironment, IsState}
use Rattle.expression_lang.specs.Wide.{wide}
use Rattle.simpl_lang.specs.Command.{Condition, Simpl, Set, Seq, Cond, Catch}
use Rattle.simpl_lang.specs.Exec.{result_local}
use Rattle.c_lang.specs.Typed as C
use Rattle.c_lang.specs.WellTyped.{Scope, Around, is_typed, is_typed_target, is_typed_test, are_arguments, is_use_of, is_call_of, is_statement, are_statements, are_groups, nowhere, in_a_loop, in_a_switch}
use Rattle.generation.specs.Guards.{conversion, exp, exps, truth, path_of, guards, argument_guards}
use Rattle.generation.specs.Generate.{call_local, switch_local, first_local, returned, broken, continued, jump, stops_at, body_of_loop, looped, guarded, assignment, target_guards, call, call_of, test_guards, test_truth, after_first, do_while, is_one_of, cases, in_order, is_empty, command, commands, before, cases_of, default_of, whole_body}
use Rattle.generation.proofs.SortedExpressions.{IsScope, simpl_scope}
use Rattle.narrow.specs.Narrow.{IsNarrow, IsNarrowAlong, AreNarrow, AreConditionsNarrow, IsCommandNarrow}
use Rattle.narrow_units.proofs.NarrowValues.{none_chosen, number_quiet, conversion_quiet, value_quiet, truth_quiet}
use Rattle.narrow_units.proofs.NarrowGuards.{AreQuiet, none, more, quiet_append, guards_quiet, place_guards_quiet, accesses_quiet}

-- conditions at one environment and state

module _ (l : Layout) (env : Env) (s : State) where
  first_quiet : {c : Condition} {cs : List Condition} → AreQuiet l env s (c ∷ cs) → wide l env s c.exp ≡ None
  first_quiet (more h r) = h.none

  others_quiet : {c : Condition} {cs : List Condition} → AreQuiet l env s (c ∷ cs) → AreQuiet l env s cs
  others_quiet (more h r) = r

  after_first_quiet : {cs : List Condition} (n : ℕ) → AreQuiet l env s cs → AreQuiet l env s (after_first n cs)
  after_first_quiet n none = none
  after_first_quiet n (more h r) = more (record { none = none_chosen _ _ _ h.none refl }) (after_first_quiet n r)

module _ (g : Scope) (names : Name → Option S.Scalar) (is : IsScope g names) (level : Level) where
  abbrev sg : S.Scope
  sg = simpl_scope g names

  abbrev l : Layout
  l = g.layout

  abbrev Narrow : E.Exp → Type 0
  Narrow e = IsNarrow sg g.globals e

  abbrev Good : Simpl → Type 0
  Good c = IsCommandNarrow sg g.globals c

  -- no operation of the conditions is wide, wherever they are evaluated
  abbrev Quiet : List Condition → Type 0
  Quiet cs = (env : Env) (s : State) → IsEnvironment sg env → IsState l g.globals s → AreQuiet l env s cs

  -- rows of commands

  guarded_narrow : (cs : List Condition) (c : Simpl) → Quiet cs → Good c → Good (guarded cs c)
  guarded_narrow [] c h k = k
  guarded_narrow (d ∷ cs) c h k =
      ((λ env s i j. first_quiet l env s (h env s i j)), guarded_narrow cs c (λ env s i j. others_quiet l env s (h env s i j)) k)

  conditions_narrow : (cs : List Condition) → Quiet cs → AreConditionsNarrow sg g.globals cs
  conditions_narrow [] h = tt
  conditions_narrow (d ∷ cs) h =
      ((λ env s i j. first_quiet l env s (h env s i j)), conditions_narrow cs (λ env s i j. others_quiet l env s (h env s i j)))

  jump_narrow : (k : ℤ) → Good (jump k)
  jump_narrow k = ((λ env s i j. refl), tt)

  stops_narrow : (k : ℤ) → Good (stops_at k)
  stops_narrow k = ((λ env s i j. refl), tt, tt)

  body_narrow : (c : Simpl) → Good c → Good (body_of_loop c)
  body_narrow c h = (h, stops_narrow continued)

  looped_narrow : (cs : List Condition) (e : E.Exp) (c : Simpl) → Quiet cs → Narrow e → Good c → Good (looped cs e c)
  looped_narrow cs e c h k j = ((conditions_narrow cs h, k, j), stops_narrow broken)

  do_while_narrow : (n : ℕ) (cs : List Condition) (e : E.Exp) (c : Simpl) → Quiet cs → Narrow e → Good c →
      Good (do_while n cs e c)
  do_while_narrow n cs e c h k j = (
    (λ env s i o. refl),
    looped_narrow (after_first n cs) (E.Or (E.Var (first_local n)) e) (Seq (Set (first_local n) (E.TruthLit false)) (body_of_loop c))
        (λ env s i o. after_first_quiet l env s n (h env s i o))
        (λ env s i o. none_chosen _ _ _ refl (k env s i o))
        ((λ env s i o. refl), body_narrow c j),
  )

  in_order_narrow : (c : Simpl) (last : Bool) (rest : Simpl) → Good c → Good rest → Good (in_order c last rest)
  in_order_narrow c true rest h k = h
  in_order_narrow c false rest h k = (h, k)

  labels_narrow : (t : Target) (i : IntType) (n : ℕ) (ks : List ℤ) → Narrow (is_one_of t i n ks)
  labels_narrow t i n [] env s h k = refl
  labels_narrow t i n (z ∷ []) env s h k = refl
  labels_narrow t i n (z ∷ y ∷ ks) env s h k = none_chosen _ _ _ refl (labels_narrow t i n (y ∷ ks) env s h k)

  -- expressions of the text

  value : (e : C.Expr) → Narrow (exp l e)
  value e env s i k = (value_quiet l env s e).none

  test : (e : C.Expr) → Narrow (truth l e)
  test e env s i k = (truth_quiet l env s e).none

  along : (path : C.Path) → IsNarrowAlong sg g.globals (path_of l path)
  along C.Here = tt
  along (C.Member n path) = along path
  along (C.Element n e path) = ((λ env s i k. (number_quiet (C.type_of e) (exp l e) (value_quiet l env s e)).none), along path)

  values : (es : List C.Expr) → AreNarrow sg g.globals (exps l es)
  values [] = tt
  values (e ∷ es) = (value e, values es)

  conditions : (e : C.Expr) → is_typed g e ≡ true → Quiet (guards l level e)
  conditions e h env s i k = guards_quiet g names is env s i k level e h

  both : (cs ds : List Condition) → Quiet cs → Quiet ds → Quiet (cs ++ ds)
  both cs ds h k env s i j = quiet_append (h env s i j) (k env s i j)

  converted : (to from : CType) (x : Name) → Narrow (conversion l.target to from (E.Var x))
  converted to from x env s i k = (conversion_quiet {l = l} {env = env} {s = s} l.target to from (E.Var x) (record { none = refl })).none

  -- assignments

  target_quiet : (d : C.Destination) → is_typed_target g d ≡ true → Quiet (target_guards l level d)
  target_quiet (C.ToLocal y t) h env s i k = none
  target_quiet (C.ToPlace p) h env s i k =
      quiet_append (place_guards_quiet g names is env s i k level p h) (accesses_quiet g names is env s i k level p)

  assignment_narrow : (d : C.Destination) (e : E.Exp) → Narrow e → Good (assignment l d e)
  assignment_narrow (C.ToLocal y t) e h = h
  assignment_narrow (C.ToPlace (C.Through t p path u)) e h = (value p, along path, h)
  assignment_narrow (C.ToPlace (C.InGlobal x path u)) e h = (along path, h)

  -- calls

  arguments_quiet : (vs : List C.Variable) (es : List C.Expr) → are_arguments g vs es ≡ true → Quiet (argument_guards l level es)
  arguments_quiet [] [] h env s i k = none
  arguments_quiet (v ∷ vs) (e ∷ es) h env s i k =
      quiet_append (conditions e (second_so _ _ (first_so _ _ h)) env s i k) (arguments_quiet vs es (second_so _ _ h) env s i k)
  arguments_quiet [] (e ∷ es) h env s i k = absurd (false≢true h)
  arguments_quiet (v ∷ vs) [] h env s i k = absurd (false≢true h)

  use_narrow : (r : Option CType) (n : ℕ) (f : Name) (es : List E.Exp) (u : C.Use) → is_use_of g r u ≡ true →
      AreNarrow sg g.globals es → Good (call l level n f es u)
  use_narrow r n f es C.NoResult h k = k
  use_narrow r n f es (C.Ignored from) h k = k
  use_narrow None n f es (C.Assigned from d) h k = absurd (false≢true h)
  use_narrow (Some t) n f es (C.Assigned from d) h k = (
    k,
    guarded_narrow (target_guards l level d) _ (target_quiet d (second_so _ _ h))
        (assignment_narrow d _ (converted (C.target_type d) from (call_local n))),
  )
  use_narrow r n f es (C.Returned from to) h k = (k, (converted to from (call_local n), jump_narrow returned))

  call_narrow : (o : Option C.TypedFn) (n : ℕ) (f : Name) (es : List C.Expr) (u : C.Use) → is_call_of g o es u ≡ true →
      Good (call_of l level n f es u)
  call_narrow None n f es u h = absurd (false≢true h)
  call_narrow (Some fn) n f es u h =
      guarded_narrow (argument_guards l level es) (call l level n f (exps l es) u) (arguments_quiet fn.params es (first_so _ _ h))
      (use_narrow fn.result n f (exps l es) u (second_so _ _ h) (values es))

  -- tests

  test_quiet : (t : C.Test) → is_typed_test g t ≡ true → Quiet (test_guards l level t)
  test_quiet C.Always h env s i k = none
  test_quiet (C.Tested e) h env s i k = conditions e (second_so _ _ h) env s i k

  tested : (t : C.Test) → Narrow (test_truth l t)
  tested C.Always env s i k = refl
  tested (C.Tested e) env s i k = test e env s i k

  mutual
    command_narrow : (r : Around) (c : C.Statement) → is_statement g r c ≡ true → Good (command l level c)
    command_narrow r (C.Block ss) h = commands_narrow r ss h
    command_narrow r (C.Assign d e) h =
        guarded_narrow (guards l level e ++ target_guards l level d) _
        (both _ _ (conditions e (second_so _ _ (second_so _ _ h))) (target_quiet d (first_so _ _ h))) (assignment_narrow d _ (value e))
    command_narrow r (C.Call n f es u) h = call_narrow (C.typed_fn g.functions f) n f es u h
    command_narrow r (C.If e b c) h =
        let k = first_so _ _ h in
        guarded_narrow (guards l level e) (Cond (truth l e) (command l level b) (command l level c))
        (conditions e (second_so _ _ (first_so _ _ k)))
        (test e, command_narrow r b (second_so _ _ k), command_narrow r c (second_so _ _ h))
    command_narrow r (C.While e b) h =
        looped_narrow (guards l level e) (truth l e) (body_of_loop (command l level b)) (conditions e (second_so _ _ (first_so _ _ h)))
        (test e) (body_narrow (command l level b) (command_narrow in_a_loop b (second_so _ _ h)))
    command_narrow r (C.DoWhile n b e) h =
        do_while_narrow n (guards l level e) (truth l e) (command l level b) (conditions e (second_so _ _ (second_so _ _ h))) (test e)
        (command_narrow in_a_loop b (first_so _ _ h))
    command_narrow r (C.For init t step b) h =
        let k = first_so _ _ h in
        let j = first_so _ _ k in
        let turn = Seq (body_of_loop (command l level b)) (command l level step) in
        before_narrow init _ (first_so _ _ j)
        (looped_narrow (test_guards l level t) (test_truth l t) turn (test_quiet t (second_so _ _ j)) (tested t)
        (body_narrow (command l level b) (command_narrow in_a_loop b (second_so _ _ h)), command_narrow nowhere step (second_so _ _ k)))
    command_narrow r (C.Switch n i e gs) h =
        let typed = first_so _ _ (first_so _ _ (first_so _ _ (first_so _ _ h))) in
        guarded_narrow (guards l level e)
        (Seq (Set (switch_local n) (exp l e)) (Catch (cases (default_of l level gs) (cases_of l level n i gs)) (stops_at broken)))
        (conditions e (second_so _ _ typed)) (
          value e,
          (
            cases_narrow (default_of l level gs) (default_narrow (in_a_switch r) gs (second_so _ _ h)) (in_a_switch r) n i gs
                (second_so _ _ h),
            stops_narrow broken,
          ),
        )
    command_narrow r C.Break h = jump_narrow broken
    command_narrow r C.Continue h = jump_narrow continued
    command_narrow r C.ReturnNothing h = jump_narrow returned
    command_narrow r (C.Return e) h =
        guarded_narrow (guards l level e) (Seq (Set result_local (exp l e)) (jump returned)) (conditions e (second_so _ _ h))
        (value e, jump_narrow returned)
    command_narrow _ _ _ = tt

    pub commands_narrow : (r : Around) (ss : C.Statements) → are_statements g r ss ≡ true →
        IsCommandNarrow (simpl_scope g names) g.globals (commands g.layout level ss)
    commands_narrow r C.no_statements h = tt
    commands_narrow r (C.next c ss) h =
        in_order_narrow (command l level c) (is_empty ss) (commands l level ss) (command_narrow r c (first_so _ _ h))
        (commands_narrow r ss (second_so _ _ h))

    before_narrow : (ss : C.Statements) (rest : Simpl) → are_statements g nowhere ss ≡ true → Good rest →
        Good (before l level ss rest)
    before_narrow C.no_statements rest h k = k
    before_narrow (C.next c ss) rest h k = (command_narrow nowhere c (first_so _ _ h), before_narrow ss rest (second_so _ _ h) k)

    cases_narrow : (default' : Simpl) → Good default' → (r : Around) (n : ℕ) (i : IntType) (gs : C.Groups) →
        are_groups g r gs ≡ true → Good (cases default' (cases_of l level n i gs))
    cases_narrow default' d r n i C.no_groups h = d
    cases_narrow default' d r n i (C.group labels true ss gs) h = cases_narrow default' d r n i gs (second_so _ _ h)
    cases_narrow default' d r n i (C.group labels false ss gs) h =
        (labels_narrow l.target i n labels, commands_narrow r ss (first_so _ _ h), cases_narrow default' d r n i gs (second_so _ _ h))

    default_narrow : (r : Around) (gs : C.Groups) → are_groups g r gs ≡ true → Good (default_of l level gs)
    default_narrow r C.no_groups h = tt
    default_narrow r (C.group labels true ss gs) h = commands_narrow r ss (first_so _ _ h)
    default_narrow r (C.group labels false ss gs) h = default_narrow r gs (second_so _ _ h)

  pub whole_narrow : (t : Option CType) (c : Simpl) → IsCommandNarrow (simpl_scope g names) g.globals c →
      IsCommandNarrow (simpl_scope g names) g.globals (whole_body t c)
  whole_narrow None c h = (h, tt)
  whole_narrow (Some t) c h = ((h, ((λ env s i k. refl), tt)), tt)
