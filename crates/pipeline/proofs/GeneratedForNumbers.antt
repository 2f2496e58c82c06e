-- Generated commands are ready for numbers: the conditions of each statement stand in order around its command, in which its
-- expressions are ready.
use Rattle.std.proofs.Common.{◌≡◌, ℕ, Bool, true, false, ◌&&◌, List, [], ◌∷◌, ◌++◌, Option, Some, None, ℤ, sym, subst}
use Rattle.std.proofs.lemmas.Bool.{and_parts, false≢true}
use Rattle.c_values.specs.Name.{Name}
use Rattle.c_values.specs.Types.{Target, IntType, CType, Integer, same_type}
use Rattle.c_values.specs.Layout.{Layout, is_scalar, scalar_width}
use Rattle.expression_lang.specs.Expression as E
use Rattle.expression_lang.specs.Sort as S
use Rattle.expression_lang.specs.Sort.{Numbers}
use Rattle.expression_lang.specs.Signature.{Binder}
use Rattle.simpl_lang.specs.Command.{Condition, Simpl, Set, Seq, Cond, Catch}
use Rattle.rule_word.specs.Bases.{Surroundings}
use Rattle.c_lang.specs.Typed as C
use Rattle.c_lang.specs.WellTyped.{Scope, Around, nowhere, in_a_loop, in_a_switch, is_typed, is_typed_at, is_typed_scalar, is_typed_target, is_typed_test, has_type, has_scalar_type, are_arguments, is_use_of, is_call_of, is_type, are_values, are_different, has_one_default, all_labels, is_statement, are_statements, are_groups}
use Rattle.generation.specs.Guards.{exp, exps, truth, conversion, is_signed_type, guards, argument_guards}
use Rattle.generation.specs.Generate.{call_local, switch_local, first_local, returned, broken, continued, jump, stops_at, body_of_loop, looped, guarded, assignment, target_guards, call, call_of, test_guards, test_truth, after_first, do_while, is_one_of, cases, in_order, is_empty, command, commands, before, cases_of, default_of, whole_body}
use Rattle.generation.proofs.SortedExpressions.{IsScope, simpl_scope}
use Rattle.pipeline.proofs.GeneratedForHeaps.{after_is_under}
use Rattle.pipeline.proofs.ReadyWords.{IsReady}
use Rattle.pipeline.proofs.GivenRanges.{AllThere, split, all_under_not}
use Rattle.pipeline.proofs.ExpressionsForNumbers.{cast_ready, reading_ready}
use Rattle.pipeline.proofs.CommandReady.{Under, AreInOrder, AreReady, AreSingle, IsCommandReady, guarded_ready}
use Rattle.pipeline.proofs.SingleGuards.{single_under, single_guards}
use Rattle.pipeline.proofs.OrdersReady.{under_order}
use Rattle.pipeline.proofs.GuardsForNumbers.{two, truth_there, value_there, guards_ready}

label_ready : (same : E.Exp → E.Exp → Bool) (sg : S.Scope) (names : List Binder) (t : Target) (i : IntType) (n : ℕ) (ks : List ℤ)
    (k : Surroundings) → IsReady same sg names k (is_one_of t i n ks)
label_ready same sg names t i n [] k = tt
label_ready same sg names t i n (z ∷ []) k = (tt, tt)
label_ready same sg names t i n (z ∷ y ∷ zs) k = ((tt, tt), label_ready same sg names t i n (y ∷ zs) _)

module _ (same : E.Exp → E.Exp → Bool) (finds : (e : E.Exp) → same e e ≡ true) (g : Scope) (ns : Name → Option S.Scalar)
    (is : IsScope g ns) where
  abbrev l : Layout
  l = g.layout

  abbrev sg : S.Scope
  sg = simpl_scope g ns

  abbrev Ready : Simpl → Type 0
  Ready c = IsCommandReady same finds sg [] c

  abbrev InOrder : List Condition → Type 0
  InOrder gs = AreInOrder same finds sg [] gs

  abbrev After : List Condition → (List Binder → Surroundings → Type 0) → Type 0
  After gs P = Under same finds sg gs P

  abbrev Is : E.Exp → List Binder → Surroundings → Type 0
  Is e names k = IsReady same sg names k e

  around : (gs : List Condition) (c : Simpl) → InOrder gs → IsCommandReady same finds sg gs c → Ready (guarded gs c)
  around gs c h i = guarded_ready same finds sg [] gs c h i

  parted : (names : List Binder) (k : Surroundings) (cs ds : List Condition) → AllThere same finds sg names k (cs ++ ds) →
      AllThere same finds sg names k cs × AllThere same finds sg names k ds
  parted names k cs ds h = split same finds sg names k cs ds h

  in_order_of : (e : C.Expr) → is_typed g e ≡ true → InOrder (guards l Numbers e)
  in_order_of e t = guards_ready same finds g ns is e t

  value_of : (e : C.Expr) → is_typed g e ≡ true → After (guards l Numbers e) (λ names k. IsReady same sg names k (exp l e))
  value_of e t = value_there same finds g ns is e t

  truth_of : (e : C.Expr) → is_typed g e ≡ true → After (guards l Numbers e) (λ names k. IsReady same sg names k (truth l e))
  truth_of e t = truth_there same finds g ns is e t

  at_type : (t : CType) (e : C.Expr) → is_typed_at g t e ≡ true → is_typed g e ≡ true
  at_type t e h = (and_parts (has_type t e) (is_typed g e) h).1

  scalar : (e : C.Expr) → is_typed_scalar g e ≡ true → is_typed g e ≡ true
  scalar e h = (and_parts (has_scalar_type e) (is_typed g e) h).1

  -- jumps and loops

  jump_ready : (z : ℤ) → Ready (jump z)
  jump_ready z = ((λ names k a. tt), tt)

  stops_ready : (z : ℤ) → Ready (stops_at z)
  stops_ready z = ((λ names k a. (tt, tt)), tt, tt)

  looped_ready : (gs : List Condition) (e : E.Exp) (s : Simpl) → AreSingle gs → InOrder gs → After gs (Is e) → Ready s →
      Ready (looped gs e s)
  looped_ready gs e s single h i j = ((h, i, j, single), stops_ready broken)

  body_ready : (s : Simpl) → Ready s → Ready (body_of_loop s)
  body_ready s h = (h, stops_ready continued)

  do_while_ready : (n : ℕ) (gs : List Condition) (e : E.Exp) (s : Simpl) → InOrder gs → After gs (Is e) → Ready s →
      Ready (do_while n gs e s)
  do_while_ready n gs e s h i j = (
    (λ names k a. tt),
    looped_ready (after_first n gs) (E.Or (E.Var (first_local n)) e)
        (Seq (Set (first_local n) (E.TruthLit false)) (body_of_loop s))
        (subst AreSingle (sym (after_is_under n gs)) (single_under (E.Not (E.Var (first_local n))) gs))
        (subst (λ hs. InOrder hs) (sym (after_is_under n gs))
        (under_order same finds sg (E.Not (E.Var (first_local n))) [] (λ names k a. tt) [] [] (λ names k a. (tt, tt)) gs h))
        (λ names k a. (
          tt,
          i names _ (all_under_not same finds sg names k (E.Var (first_local n)) gs
              (subst (λ hs. AllThere same finds sg names k hs) (after_is_under n gs) a)),
        ))
        ((λ names k a. tt), body_ready s j),
  )

  -- targets

  target_in_order : (d : C.Destination) → is_typed_target g d ≡ true → InOrder (target_guards l Numbers d)
  target_in_order (C.ToLocal x t) w = tt
  target_in_order (C.ToPlace p) w = in_order_of (C.Value p) w

  assignment_ready : (gs : List Condition) (d : C.Destination) (e : E.Exp) → is_typed_target g d ≡ true →
      After gs (λ names k. AllThere same finds sg names k (target_guards l Numbers d)) → After gs (Is e) →
      IsCommandReady same finds sg gs (assignment l d e)
  assignment_ready gs (C.ToLocal x t) e w h i = i
  assignment_ready gs (C.ToPlace (C.Through t p path u)) e w h i =
      λ names k a. (
        (reading_ready same finds g ns is names (C.Value (C.Through t p path u)) k w (h names k a)).value,
        i names k a,
      )
  assignment_ready gs (C.ToPlace (C.InGlobal x path u)) e w h i =
      λ names k a. ((reading_ready same finds g ns is names (C.Value (C.InGlobal x path u)) k w (h names k a)).value, i names k a)

  conversion_ready : (names : List Binder) (k : Surroundings) (to from : CType) (x : Name) →
      IsReady same sg names k (conversion l.target to from (E.Var x))
  conversion_ready names k to from x =
      cast_ready same sg names k (scalar_width l.target to) (scalar_width l.target from) (is_signed_type from) (E.Var x) tt

  -- calls

  arguments_in_order : (vs : List C.Variable) (es : List C.Expr) → are_arguments g vs es ≡ true →
      InOrder (argument_guards l Numbers es)
  arguments_in_order [] [] h = tt
  arguments_in_order [] (e ∷ es) h = absurd (false≢true h)
  arguments_in_order (v ∷ vs) [] h = tt
  arguments_in_order (v ∷ vs) (e ∷ es) h =
      let p = and_parts (is_typed_at g v.type e) (are_arguments g vs es) h in
      two same finds sg (guards l Numbers e) (argument_guards l Numbers es) (in_order_of e (at_type v.type e p.0))
      (arguments_in_order vs es p.1)

  arguments_ready : (vs : List C.Variable) (es : List C.Expr) → are_arguments g vs es ≡ true →
      After (argument_guards l Numbers es) (λ names k. AreReady same finds sg names k (exps l es))
  arguments_ready [] [] h names k a = tt
  arguments_ready [] (e ∷ es) h names k a = absurd (false≢true h)
  arguments_ready (v ∷ vs) [] h names k a = tt
  arguments_ready (v ∷ vs) (e ∷ es) h names k a =
      let p = and_parts (is_typed_at g v.type e) (are_arguments g vs es) h in
      let s = parted names k (guards l Numbers e) (argument_guards l Numbers es) a in
      (value_of e (at_type v.type e p.0) names k s.0, arguments_ready vs es p.1 names k s.1)

  use_ready : (gs : List Condition) (n : ℕ) (f : Name) (es : List E.Exp) (o : Option CType) (u : C.Use) → is_use_of g o u ≡ true →
      After gs (λ names k. AreReady same finds sg names k es) →
      IsCommandReady same finds sg gs (call l Numbers n f es u)
  use_ready gs n f es None (C.Assigned from d) w h = absurd (false≢true w)
  use_ready gs n f es (Some t) (C.Assigned from d) w h =
      let typed = (and_parts (same_type t from && is_scalar (C.target_type d)) (is_typed_target g d) w).1 in
      let e = conversion l.target (C.target_type d) from (E.Var (call_local n)) in (
        h,
        around (target_guards l Numbers d) (assignment l d e) (target_in_order d typed)
            (assignment_ready (target_guards l Numbers d) d e typed (λ names k a. a)
            (λ names k a. conversion_ready names k (C.target_type d) from (call_local n))),
      )
  use_ready gs n f es o (C.Returned from to) w h =
      (h, ((λ names k a. conversion_ready names k to from (call_local n)), jump_ready returned))
  use_ready _ _ _ _ _ _ _ h = h

  called_ready : (n : ℕ) (f : Name) (es : List C.Expr) (u : C.Use) (o : Option C.TypedFn) → is_call_of g o es u ≡ true →
      Ready (call_of l Numbers n f es u)
  called_ready n f es u None w = absurd (false≢true w)
  called_ready n f es u (Some fn) w =
      let p = and_parts (are_arguments g fn.params es) (is_use_of g fn.result u) w in
      around (argument_guards l Numbers es) (call l Numbers n f (exps l es) u) (arguments_in_order fn.params es p.0)
      (use_ready (argument_guards l Numbers es) n f (exps l es) fn.result u p.1 (arguments_ready fn.params es p.0))

  -- tests

  single_test : (t : C.Test) → AreSingle (test_guards l Numbers t)
  single_test C.Always = tt
  single_test (C.Tested e) = single_guards l e

  tested_in_order : (t : C.Test) → is_typed_test g t ≡ true → InOrder (test_guards l Numbers t)
  tested_in_order C.Always w = tt
  tested_in_order (C.Tested e) w = in_order_of e (scalar e w)

  tested_ready : (t : C.Test) → is_typed_test g t ≡ true → After (test_guards l Numbers t) (Is (test_truth l t))
  tested_ready C.Always w = λ names k a. tt
  tested_ready (C.Tested e) w = truth_of e (scalar e w)

  in_order_ready : (a : Simpl) (b : Bool) (c : Simpl) → Ready a → Ready c → Ready (in_order a b c)
  in_order_ready a true c h i = h
  in_order_ready a false c h i = (h, i)

  mutual
    pub command_ready : (r : Around) (s : C.Statement) → is_statement g r s ≡ true →
        IsCommandReady same finds (simpl_scope g ns) [] (command g.layout Numbers s)
    command_ready r (C.Block ss) w = commands_ready r ss w
    command_ready r (C.Assign d e) w =
        let p = and_parts (is_typed_target g d) (is_typed_at g (C.target_type d) e) w in
        let typed = at_type (C.target_type d) e p.1 in
        let gs = guards l Numbers e ++ target_guards l Numbers d in
        around gs (assignment l d (exp l e)) (two same finds sg (guards l Numbers e) (target_guards l Numbers d)
        (in_order_of e typed) (target_in_order d p.0))
        (assignment_ready gs d (exp l e) p.0 (λ names k a. (parted names k (guards l Numbers e) (target_guards l Numbers d) a).1)
        (λ names k a. value_of e typed names k (parted names k (guards l Numbers e) (target_guards l Numbers d) a).0))
    command_ready r (C.Call n f es u) w = called_ready n f es u (C.typed_fn g.functions f) w
    command_ready r (C.If e a b) w =
        let p = and_parts (is_typed_scalar g e && is_statement g r a) (is_statement g r b) w in
        let q = and_parts (is_typed_scalar g e) (is_statement g r a) p.0 in
        around (guards l Numbers e) (Cond (truth l e) (command l Numbers a) (command l Numbers b)) (in_order_of e (scalar e q.0))
        (truth_of e (scalar e q.0), command_ready r a q.1, command_ready r b p.1)
    command_ready r (C.While e a) w =
        let p = and_parts (is_typed_scalar g e) (is_statement g in_a_loop a) w in
        looped_ready (guards l Numbers e) (truth l e) (body_of_loop (command l Numbers a)) (single_guards l e)
        (in_order_of e (scalar e p.0))
        (truth_of e (scalar e p.0)) (body_ready (command l Numbers a) (command_ready in_a_loop a p.1))
    command_ready r (C.DoWhile n a e) w =
        let p = and_parts (is_statement g in_a_loop a) (is_typed_scalar g e) w in
        do_while_ready n (guards l Numbers e) (truth l e) (command l Numbers a) (in_order_of e (scalar e p.1))
        (truth_of e (scalar e p.1)) (command_ready in_a_loop a p.0)
    command_ready r (C.For init test step a) w =
        let p = and_parts (are_statements g nowhere init && is_typed_test g test && is_statement g nowhere step)
        (is_statement g in_a_loop a) w in
        let q = and_parts (are_statements g nowhere init && is_typed_test g test) (is_statement g nowhere step) p.0 in
        let i = and_parts (are_statements g nowhere init) (is_typed_test g test) q.0 in
        let turn = Seq (body_of_loop (command l Numbers a)) (command l Numbers step) in
        before_ready nowhere init (looped (test_guards l Numbers test) (test_truth l test) turn) i.0
        (looped_ready (test_guards l Numbers test) (test_truth l test) turn (single_test test) (tested_in_order test i.1)
        (tested_ready test i.1)
        (body_ready (command l Numbers a) (command_ready in_a_loop a p.1), command_ready nowhere step q.1))
    command_ready r (C.Switch n i e gs) w =
        let p = and_parts (is_typed_at g (Integer i) e && are_values l.target i (all_labels gs) && are_different (all_labels gs)
        && has_one_default gs) (are_groups g (in_a_switch r) gs) w in
        let q = and_parts (is_typed_at g (Integer i) e && are_values l.target i (all_labels gs) && are_different (all_labels gs))
        (has_one_default gs) p.0 in
        let o = and_parts (is_typed_at g (Integer i) e && are_values l.target i (all_labels gs))
        (are_different (all_labels gs)) q.0 in
        let typed = at_type (Integer i) e (and_parts (is_typed_at g (Integer i) e)
        (are_values l.target i (all_labels gs)) o.0).0 in
        around (guards l Numbers e) (Seq (Set (switch_local n) (exp l e))
        (Catch (cases (default_of l Numbers gs) (cases_of l Numbers n i gs)) (stops_at broken))) (in_order_of e typed) (
          value_of e typed,
          (
            cases_ready (default_of l Numbers gs) (default_ready (in_a_switch r) gs p.1) n i
                (in_a_switch r) gs p.1,
            stops_ready broken,
          ),
        )
    command_ready r C.Break w = jump_ready broken
    command_ready r C.Continue w = jump_ready continued
    command_ready r C.ReturnNothing w = jump_ready returned
    command_ready r (C.Return e) w =
        let typed = (and_parts (is_type g.result (C.type_of e)) (is_typed g e) w).1 in
        around (guards l Numbers e) _ (in_order_of e typed) (value_of e typed, jump_ready returned)
    command_ready _ _ _ = tt

    pub commands_ready : (r : Around) (ss : C.Statements) → are_statements g r ss ≡ true →
        IsCommandReady same finds (simpl_scope g ns) [] (commands g.layout Numbers ss)
    commands_ready r C.no_statements w = tt
    commands_ready r (C.next s ss) w =
        let p = and_parts (is_statement g r s) (are_statements g r ss) w in
        in_order_ready (command l Numbers s) (is_empty ss) (commands l Numbers ss) (command_ready r s p.0)
        (commands_ready r ss p.1)

    before_ready : (r : Around) (ss : C.Statements) (rest : Simpl) → are_statements g r ss ≡ true → Ready rest →
        Ready (before l Numbers ss rest)
    before_ready r C.no_statements rest w h = h
    before_ready r (C.next s ss) rest w h =
        let p = and_parts (is_statement g r s) (are_statements g r ss) w in (command_ready r s p.0, before_ready r ss rest p.1 h)

    cases_ready : (default' : Simpl) → Ready default' → (n : ℕ) (i : IntType) (r : Around) (gs : C.Groups) →
        are_groups g r gs ≡ true → Ready (cases default' (cases_of l Numbers n i gs))
    cases_ready default' d n i r C.no_groups w = d
    cases_ready default' d n i r (C.group labels true ss gs) w =
        cases_ready default' d n i r gs (and_parts (are_statements g r ss) (are_groups g r gs) w).1
    cases_ready default' d n i r (C.group labels false ss gs) w =
        let p = and_parts (are_statements g r ss) (are_groups g r gs) w in (
          (λ names k a. label_ready same sg names l.target i n labels k),
          commands_ready r ss p.0,
          cases_ready default' d n i r gs p.1,
        )

    default_ready : (r : Around) (gs : C.Groups) → are_groups g r gs ≡ true → Ready (default_of l Numbers gs)
    default_ready r C.no_groups w = tt
    default_ready r (C.group labels true ss gs) w =
        commands_ready r ss (and_parts (are_statements g r ss) (are_groups g r gs) w).0
    default_ready r (C.group labels false ss gs) w =
        default_ready r gs (and_parts (are_statements g r ss) (are_groups g r gs) w).1

  pub whole_ready : (o : Option CType) (s : Simpl) → IsCommandReady same finds (simpl_scope g ns) [] s →
      IsCommandReady same finds (simpl_scope g ns) [] (whole_body o s)
  whole_ready None s h = (h, tt)
  whole_ready (Some t) s h = ((h, ((λ names k a. tt), tt)), tt)
