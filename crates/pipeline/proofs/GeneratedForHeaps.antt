-- Generated commands are ready: the conditions of each statement stand in order around its command, in which its expressions are ready.
use Rattle.std.proofs.Common.{◌≡◌, ℕ, Bool, true, false, ◌&&◌, List, [], ◌∷◌, ◌++◌, Option, Some, None, ℤ, refl, sym, ap, subst}
use Rattle.std.proofs.lemmas.Bool.{and_parts, false≢true}
use Rattle.c_values.specs.Name.{Name}
use Rattle.c_values.specs.Types.{IntType, CType, Integer, same_type}
use Rattle.c_values.specs.Layout.{Layout, is_scalar, scalar_width}
use Rattle.expression_lang.specs.Expression as E
use Rattle.expression_lang.specs.Sort.{Level, is_lifted}
use Rattle.simpl_lang.specs.Command.{Condition, Simpl, Set, Seq, Cond, Catch}
use Rattle.ac_expr.specs.Fact.{Fact}
use Rattle.rule_heap.specs.ExpLifted.{IsReady}
use Rattle.rule_heap.specs.HeapLifted.{AreReady}
use Rattle.c_lang.specs.Typed as C
use Rattle.c_lang.specs.WellTyped.{Scope, Around, nowhere, in_a_loop, in_a_switch, is_typed, is_typed_at, is_typed_scalar, is_typed_target, is_typed_test, has_type, has_scalar_type, are_arguments, is_use_of, is_call_of, is_type, are_values, are_different, has_one_default, all_labels, is_statement, are_statements, are_groups}
use Rattle.generation.specs.Guards.{when, exp, exps, truth, conversion, is_signed_type, guards, argument_guards, place_guards, accesses, under}
use Rattle.generation.specs.Generate.{call_local, switch_local, first_local, returned, broken, continued, jump, stops_at, body_of_loop, looped, guarded, assignment, target_guards, call, call_of, test_guards, test_truth, after_first, do_while, is_one_of, cases, in_order, is_empty, command, commands, before, cases_of, default_of, whole_body}
use Rattle.pipeline.specs.CommandReady.{AllGiven, Under, AreInOrder, IsCommandReady}
use Rattle.pipeline.proofs.ExpressionsForHeaps.{split, under_not, under_whole_order, cast_ready, content_ready}
use Rattle.pipeline.proofs.GuardsForHeaps.{two, truth_there, value_there, guards_ready}
use Rattle.pipeline.proofs.CommandsReady.{guarded_ready}

pub after_is_under : (k : ℕ) (gs : List Condition) → after_first k gs ≡ under (E.Not (E.Var (first_local k))) gs
after_is_under k [] = refl
after_is_under k (g ∷ gs) = ap (λ hs. when g.kind (E.Imp (E.Not (E.Var (first_local k))) g.exp) ∷ hs) (after_is_under k gs)

label_ready : (l : Layout) (i : IntType) (n : ℕ) (ks : List ℤ) (fs : List Fact) → IsReady l fs (is_one_of l.target i n ks)
label_ready l i n [] fs = tt
label_ready l i n (k ∷ []) fs = (tt, tt)
label_ready l i n (k ∷ j ∷ ks) fs = ((tt, tt), label_ready l i n (j ∷ ks) _)

module _ (g : Scope) (level : Level) (lifted : is_lifted level ≡ true) where
  abbrev l : Layout
  l = g.layout

  abbrev Ready : Simpl → Type 0
  Ready c = IsCommandReady l [] c

  abbrev InOrder : List Condition → Type 0
  InOrder gs = AreInOrder l [] gs

  around : (gs : List Condition) (c : Simpl) → InOrder gs → IsCommandReady l gs c → Ready (guarded gs c)
  around gs c h k = guarded_ready l [] gs c h k

  at_type : (t : CType) (e : C.Expr) → is_typed_at g t e ≡ true → is_typed g e ≡ true
  at_type t e h = (and_parts (has_type t e) (is_typed g e) h).1

  scalar : (e : C.Expr) → is_typed_scalar g e ≡ true → is_typed g e ≡ true
  scalar e h = (and_parts (has_scalar_type e) (is_typed g e) h).1

  -- jumps and loops

  jump_ready : (k : ℤ) → Ready (jump k)
  jump_ready k = ((λ fs a. tt), tt)

  stops_ready : (k : ℤ) → Ready (stops_at k)
  stops_ready k = ((λ fs a. (tt, tt)), tt, tt)

  looped_ready : (gs : List Condition) (e : E.Exp) (s : Simpl) → InOrder gs → Under gs (λ fs. IsReady l fs e) → Ready s → Ready (looped gs e s)
  looped_ready gs e s h k i = ((h, k, i), stops_ready broken)

  body_ready : (s : Simpl) → Ready s → Ready (body_of_loop s)
  body_ready s h = (h, stops_ready continued)

  do_while_ready : (k : ℕ) (gs : List Condition) (e : E.Exp) (s : Simpl) → InOrder gs → Under gs (λ fs. IsReady l fs e) → Ready s → Ready (do_while k gs e s)
  do_while_ready k gs e s h i j = (
    (λ fs a. tt),
    looped_ready (after_first k gs) (E.Or (E.Var (first_local k)) e) (Seq (Set (first_local k) (E.TruthLit false)) (body_of_loop s))
        (subst (λ hs. InOrder hs) (sym (after_is_under k gs)) (under_whole_order l (E.Not (E.Var (first_local k))) [] (λ fs a. tt) [] [] (λ fs a. (tt, tt)) gs h))
        (λ fs a. (tt, i _ (under_not fs (E.Var (first_local k)) gs (subst (λ hs. AllGiven fs hs) (after_is_under k gs) a))))
        ((λ fs a. tt), body_ready s j),
  )

  -- targets

  target_in_order : (d : C.Destination) → is_typed_target g d ≡ true → InOrder (target_guards l level d)
  target_in_order (C.ToLocal x t) w = tt
  target_in_order (C.ToPlace p) w = guards_ready g level lifted (C.Value p) w

  assignment_ready : (gs : List Condition) (d : C.Destination) (e : E.Exp) → is_typed_target g d ≡ true → Under gs (λ fs. AllGiven fs (target_guards l level d)) → Under gs (λ fs. IsReady l fs e) →
      IsCommandReady l gs (assignment l d e)
  assignment_ready gs (C.ToLocal x t) e w h k = k
  assignment_ready gs (C.ToPlace (C.Through t p path u)) e w h k = λ fs a.
      let s = split fs (place_guards l level (C.Through t p path u)) (accesses l level (C.Through t p path u)) (h fs a) in
      (content_ready g level lifted (C.Through t p path u) fs w s.0 s.1, k fs a)
  assignment_ready gs (C.ToPlace (C.InGlobal x path u)) e w h k = λ fs a.
      let s = split fs (place_guards l level (C.InGlobal x path u)) (accesses l level (C.InGlobal x path u)) (h fs a) in
      (content_ready g level lifted (C.InGlobal x path u) fs w s.0 s.1, k fs a)

  conversion_ready : (fs : List Fact) (to from : CType) (x : Name) → IsReady l fs (conversion l.target to from (E.Var x))
  conversion_ready fs to from x = cast_ready l fs (scalar_width l.target to) (scalar_width l.target from) (is_signed_type from) (E.Var x) tt

  -- calls

  arguments_in_order : (vs : List C.Variable) (es : List C.Expr) → are_arguments g vs es ≡ true → InOrder (argument_guards l level es)
  arguments_in_order [] [] h = tt
  arguments_in_order [] (e ∷ es) h = absurd (false≢true h)
  arguments_in_order (v ∷ vs) [] h = tt
  arguments_in_order (v ∷ vs) (e ∷ es) h =
      let p = and_parts (is_typed_at g v.type e) (are_arguments g vs es) h in
      two g level lifted (guards l level e) (argument_guards l level es) (guards_ready g level lifted e (at_type v.type e p.0)) (arguments_in_order vs es p.1)

  arguments_ready : (vs : List C.Variable) (es : List C.Expr) → are_arguments g vs es ≡ true → (fs : List Fact) → AllGiven fs (argument_guards l level es) → AreReady l fs (exps l es)
  arguments_ready [] [] h fs k = tt
  arguments_ready [] (e ∷ es) h fs k = absurd (false≢true h)
  arguments_ready (v ∷ vs) [] h fs k = tt
  arguments_ready (v ∷ vs) (e ∷ es) h fs k =
      let p = and_parts (is_typed_at g v.type e) (are_arguments g vs es) h in
      let s = split fs (guards l level e) (argument_guards l level es) k in
      (value_there g level lifted e (at_type v.type e p.0) fs s.0, arguments_ready vs es p.1 fs s.1)

  use_ready : (gs : List Condition) (n : ℕ) (f : Name) (es : List E.Exp) (o : Option CType) (u : C.Use) → is_use_of g o u ≡ true → Under gs (λ fs. AreReady l fs es) →
      IsCommandReady l gs (call l level n f es u)
  use_ready gs n f es None (C.Assigned from d) w h = absurd (false≢true w)
  use_ready gs n f es (Some t) (C.Assigned from d) w h =
      let typed = (and_parts (same_type t from && is_scalar (C.target_type d)) (is_typed_target g d) w).1 in
      let e = conversion l.target (C.target_type d) from (E.Var (call_local n)) in (
        h,
        around (target_guards l level d) (assignment l d e) (target_in_order d typed)
            (assignment_ready (target_guards l level d) d e typed (λ fs a. a) (λ fs a. conversion_ready fs (C.target_type d) from (call_local n))),
      )
  use_ready gs n f es o (C.Returned from to) w h = (h, ((λ fs a. conversion_ready fs to from (call_local n)), jump_ready returned))
  use_ready _ _ _ _ _ _ _ h = h

  called_ready : (n : ℕ) (f : Name) (es : List C.Expr) (u : C.Use) (o : Option C.TypedFn) → is_call_of g o es u ≡ true → Ready (call_of l level n f es u)
  called_ready n f es u None w = absurd (false≢true w)
  called_ready n f es u (Some fn) w =
      let p = and_parts (are_arguments g fn.params es) (is_use_of g fn.result u) w in
      around (argument_guards l level es) (call l level n f (exps l es) u) (arguments_in_order fn.params es p.0)
      (use_ready (argument_guards l level es) n f (exps l es) fn.result u p.1 (λ fs a. arguments_ready fn.params es p.0 fs a))

  -- tests

  tested_in_order : (t : C.Test) → is_typed_test g t ≡ true → InOrder (test_guards l level t)
  tested_in_order C.Always w = tt
  tested_in_order (C.Tested e) w = guards_ready g level lifted e (scalar e w)

  tested_ready : (t : C.Test) → is_typed_test g t ≡ true → Under (test_guards l level t) (λ fs. IsReady l fs (test_truth l t))
  tested_ready C.Always w = λ fs a. tt
  tested_ready (C.Tested e) w = λ fs a. truth_there g level lifted e (scalar e w) fs a

  in_order_ready : (a : Simpl) (b : Bool) (c : Simpl) → Ready a → Ready c → Ready (in_order a b c)
  in_order_ready a true c h k = h
  in_order_ready a false c h k = (h, k)

  mutual
    pub command_ready : (r : Around) (s : C.Statement) → is_statement g r s ≡ true → Ready (command l level s)
    command_ready r (C.Block ss) w = commands_ready r ss w
    command_ready r (C.Assign d e) w =
        let p = and_parts (is_typed_target g d) (is_typed_at g (C.target_type d) e) w in
        let typed = at_type (C.target_type d) e p.1 in
        let gs = guards l level e ++ target_guards l level d in
        around gs (assignment l d (exp l e))
        (two g level lifted (guards l level e) (target_guards l level d) (guards_ready g level lifted e typed) (target_in_order d p.0))
        (assignment_ready gs d (exp l e) p.0 (λ fs a. (split fs (guards l level e) (target_guards l level d) a).1)
        (λ fs a. value_there g level lifted e typed fs (split fs (guards l level e) (target_guards l level d) a).0))
    command_ready r (C.Call n f es u) w = called_ready n f es u (C.typed_fn g.functions f) w
    command_ready r (C.If e a b) w =
        let p = and_parts (is_typed_scalar g e && is_statement g r a) (is_statement g r b) w in
        let q = and_parts (is_typed_scalar g e) (is_statement g r a) p.0 in
        around (guards l level e) (Cond (truth l e) (command l level a) (command l level b)) (guards_ready g level lifted e (scalar e q.0))
        ((λ fs k. truth_there g level lifted e (scalar e q.0) fs k), command_ready r a q.1, command_ready r b p.1)
    command_ready r (C.While e a) w =
        let p = and_parts (is_typed_scalar g e) (is_statement g in_a_loop a) w in
        looped_ready (guards l level e) (truth l e) (body_of_loop (command l level a)) (guards_ready g level lifted e (scalar e p.0))
        (λ fs k. truth_there g level lifted e (scalar e p.0) fs k) (body_ready (command l level a) (command_ready in_a_loop a p.1))
    command_ready r (C.DoWhile k a e) w =
        let p = and_parts (is_statement g in_a_loop a) (is_typed_scalar g e) w in
        do_while_ready k (guards l level e) (truth l e) (command l level a) (guards_ready g level lifted e (scalar e p.1))
        (λ fs i. truth_there g level lifted e (scalar e p.1) fs i) (command_ready in_a_loop a p.0)
    command_ready r (C.For init test step a) w =
        let p = and_parts (are_statements g nowhere init && is_typed_test g test && is_statement g nowhere step) (is_statement g in_a_loop a) w in
        let q = and_parts (are_statements g nowhere init && is_typed_test g test) (is_statement g nowhere step) p.0 in
        let i = and_parts (are_statements g nowhere init) (is_typed_test g test) q.0 in
        let turn = Seq (body_of_loop (command l level a)) (command l level step) in
        before_ready nowhere init (looped (test_guards l level test) (test_truth l test) turn) i.0
        (looped_ready (test_guards l level test) (test_truth l test) turn (tested_in_order test i.1) (tested_ready test i.1)
        (body_ready (command l level a) (command_ready in_a_loop a p.1), command_ready nowhere step q.1))
    command_ready r (C.Switch n i e gs) w =
        let p = and_parts (is_typed_at g (Integer i) e && are_values l.target i (all_labels gs) && are_different (all_labels gs) && has_one_default gs) (are_groups g (in_a_switch r) gs) w in
        let q = and_parts (is_typed_at g (Integer i) e && are_values l.target i (all_labels gs) && are_different (all_labels gs)) (has_one_default gs) p.0 in
        let o = and_parts (is_typed_at g (Integer i) e && are_values l.target i (all_labels gs)) (are_different (all_labels gs)) q.0 in
        let typed = at_type (Integer i) e (and_parts (is_typed_at g (Integer i) e) (are_values l.target i (all_labels gs)) o.0).0 in
        around (guards l level e) (Seq (Set (switch_local n) (exp l e)) (Catch (cases (default_of l level gs) (cases_of l level n i gs)) (stops_at broken))) (guards_ready g level lifted e typed) (
          (λ fs k. value_there g level lifted e typed fs k),
          (cases_ready (default_of l level gs) (default_ready (in_a_switch r) gs p.1) n i (in_a_switch r) gs p.1, stops_ready broken),
        )
    command_ready r C.Break w = jump_ready broken
    command_ready r C.Continue w = jump_ready continued
    command_ready r C.ReturnNothing w = jump_ready returned
    command_ready r (C.Return e) w =
        let typed = (and_parts (is_type g.result (C.type_of e)) (is_typed g e) w).1 in
        around (guards l level e) _ (guards_ready g level lifted e typed) ((λ fs k. value_there g level lifted e typed fs k), jump_ready returned)
    command_ready _ _ _ = tt

    pub commands_ready : (r : Around) (ss : C.Statements) → are_statements g r ss ≡ true → Ready (commands l level ss)
    commands_ready r C.no_statements w = tt
    commands_ready r (C.next s ss) w =
        let p = and_parts (is_statement g r s) (are_statements g r ss) w in
        in_order_ready (command l level s) (is_empty ss) (commands l level ss) (command_ready r s p.0) (commands_ready r ss p.1)

    before_ready : (r : Around) (ss : C.Statements) (rest : Simpl) → are_statements g r ss ≡ true → Ready rest → Ready (before l level ss rest)
    before_ready r C.no_statements rest w h = h
    before_ready r (C.next s ss) rest w h = let p = and_parts (is_statement g r s) (are_statements g r ss) w in (command_ready r s p.0, before_ready r ss rest p.1 h)

    cases_ready : (default' : Simpl) → Ready default' → (n : ℕ) (i : IntType) (r : Around) (gs : C.Groups) → are_groups g r gs ≡ true → Ready (cases default' (cases_of l level n i gs))
    cases_ready default' d n i r C.no_groups w = d
    cases_ready default' d n i r (C.group labels true ss gs) w = cases_ready default' d n i r gs (and_parts (are_statements g r ss) (are_groups g r gs) w).1
    cases_ready default' d n i r (C.group labels false ss gs) w =
        let p = and_parts (are_statements g r ss) (are_groups g r gs) w in ((λ fs a. label_ready l i n labels fs), commands_ready r ss p.0, cases_ready default' d n i r gs p.1)

    default_ready : (r : Around) (gs : C.Groups) → are_groups g r gs ≡ true → Ready (default_of l level gs)
    default_ready r C.no_groups w = tt
    default_ready r (C.group labels true ss gs) w = commands_ready r ss (and_parts (are_statements g r ss) (are_groups g r gs) w).0
    default_ready r (C.group labels false ss gs) w = default_ready r gs (and_parts (are_statements g r ss) (are_groups g r gs) w).1

  pub whole_ready : (o : Option CType) (s : Simpl) → Ready s → Ready (whole_body o s)
  whole_ready None s h = (h, tt)
  whole_ready (Some t) s h = ((h, ((λ fs a. tt), tt)), tt)
