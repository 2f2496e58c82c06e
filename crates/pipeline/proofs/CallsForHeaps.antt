-- Which functions are called: those that the text calls, through generation, without exceptions, and as programs.
use Rattle.std.proofs.Common.{◌≡◌, ℕ, Bool, true, false, List, [], ◌∷◌, ◌++◌, Option, Some, None, refl, sym, ◌∙◌}
use Rattle.std.specs.List.{list_all}
use Rattle.std.proofs.lemmas.Bool.{and_parts, and_from}
use Rattle.std.proofs.lemmas.List.Folds.{list_all-append}
use Rattle.c_values.specs.Name.{Name, is_among}
use Rattle.c_values.specs.Types.{IntType, CType}
use Rattle.c_values.specs.Layout.{Layout}
use Rattle.expression_lang.specs.Expression as E
use Rattle.expression_lang.specs.Sort.{Level}
use Rattle.expression_lang.specs.Signature.{Binder}
use Rattle.simpl_lang.specs.Command.{Condition, Simpl, Skip, Throw, Set, SetGlobal, Store, Pick, Seq, Cond, Guard, Catch, While, Call}
use Rattle.rule_exn.specs.Quiet.{quiet}
use Rattle.rule_exn.specs.Eliminated.{Eliminated, exceptions_eliminated, in_sequence, caught, repeated}
use Rattle.rule_local.specs.Rule.{Context}
use Rattle.rule_local.specs.Lifted.{Lifted, set_lifted, lifted, begun, locals_lifted}
use Rattle.monad_lang.specs.Calls.{calls_only}
use Rattle.c_lang.specs.Typed as C
use Rattle.c_meaning.specs.Levels.{callees, callees_in, callees_of}
use Rattle.generation.specs.Guards.{exp, exps, truth, guards, argument_guards}
use Rattle.generation.specs.Generate.{guarded, assignment, target_guards, call, in_order, is_empty, cases, command, commands, before, cases_of, default_of, whole_body}

module _ (test : Name → Bool) where
  -- each function that a command calls passes the test
  abbrev pub CallsOnly : Simpl → Type 0
  CallsOnly Skip = Unit {0}
  CallsOnly Throw = Unit {0}
  CallsOnly (Set x e) = Unit {0}
  CallsOnly (SetGlobal x path e) = Unit {0}
  CallsOnly (Store t p path e) = Unit {0}
  CallsOnly (Pick x) = Unit {0}
  CallsOnly (Seq a b) = CallsOnly a × CallsOnly b
  CallsOnly (Cond e a b) = CallsOnly a × CallsOnly b
  CallsOnly (Guard c a) = CallsOnly a
  CallsOnly (Catch a b) = CallsOnly a × CallsOnly b
  CallsOnly (While cs e a) = CallsOnly a
  CallsOnly (Call x f es) = test f ≡ true

  -- generation

  parts : (xs ys : List Name) → list_all test (xs ++ ys) ≡ true → (list_all test xs ≡ true) × (list_all test ys ≡ true)
  parts xs ys h = let p = and_parts (list_all test xs) (list_all test ys) (sym (list_all-append test xs ys) ∙ h) in (p.0, p.1)

  guarded_calls : (gs : List Condition) (a : Simpl) → CallsOnly a → CallsOnly (guarded gs a)
  guarded_calls [] a h = h
  guarded_calls (g ∷ gs) a h = guarded_calls gs a h

  module _ (l : Layout) (level : Level) where
    assignment_calls : (d : C.Destination) (e : E.Exp) → CallsOnly (assignment l d e)
    assignment_calls (C.ToPlace (C.Through t p path u)) e = tt
    assignment_calls _ _ = tt

    use_calls : (n : ℕ) (f : Name) (es : List E.Exp) (u : C.Use) → test f ≡ true → CallsOnly (call l level n f es u)
    use_calls n f es (C.Assigned from d) h = (h, guarded_calls (target_guards l level d) _ (assignment_calls d _))
    use_calls n f es (C.Returned from to) h = (h, (tt, (tt, tt)))
    use_calls _ _ _ _ h = h

    in_order_calls : (a : Simpl) (b : Bool) (c : Simpl) → CallsOnly a → CallsOnly c → CallsOnly (in_order a b c)
    in_order_calls a true c h k = h
    in_order_calls a false c h k = (h, k)

    mutual
      command_calls : (s : C.Statement) → list_all test (callees s) ≡ true → CallsOnly (command l level s)
      command_calls (C.Block ss) h = commands_calls ss h
      command_calls (C.Assign d e) h = guarded_calls (guards l level e ++ target_guards l level d) _ (assignment_calls d (exp l e))
      command_calls (C.Call n f es u) h = guarded_calls (argument_guards l level es) _ (use_calls n f (exps l es) u (and_parts (test f) true h).0)
      command_calls (C.If e a b) h =
          let p = parts (callees a) (callees b) h in
          guarded_calls (guards l level e) (Cond (truth l e) (command l level a) (command l level b)) (command_calls a p.0, command_calls b p.1)
      command_calls (C.While e a) h = ((command_calls a h, (tt, tt)), (tt, tt))
      command_calls (C.DoWhile k a e) h = (tt, ((tt, (command_calls a h, (tt, tt))), (tt, tt)))
      command_calls (C.For init t step a) h =
          let p = parts (callees_in init ++ callees step) (callees a) h in
          let q = parts (callees_in init) (callees step) p.0 in
          before_calls init _ q.0 (((command_calls a p.1, (tt, tt)), command_calls step q.1), (tt, tt))
      command_calls (C.Switch n i e gs) h = guarded_calls (guards l level e) _ (tt, (cases_calls (default_of l level gs) (default_calls gs h) n i gs h, (tt, tt)))
      command_calls C.Break h = (tt, tt)
      command_calls C.Continue h = (tt, tt)
      command_calls C.ReturnNothing h = (tt, tt)
      command_calls (C.Return e) h = guarded_calls (guards l level e) _ (tt, (tt, tt))
      command_calls _ _ = tt

      pub commands_calls : (ss : C.Statements) → list_all test (callees_in ss) ≡ true → CallsOnly (commands l level ss)
      commands_calls C.no_statements h = tt
      commands_calls (C.next s ss) h =
          let p = parts (callees s) (callees_in ss) h in in_order_calls (command l level s) (is_empty ss) (commands l level ss) (command_calls s p.0) (commands_calls ss p.1)

      before_calls : (ss : C.Statements) (rest : Simpl) → list_all test (callees_in ss) ≡ true → CallsOnly rest → CallsOnly (before l level ss rest)
      before_calls C.no_statements rest h k = k
      before_calls (C.next s ss) rest h k = let p = parts (callees s) (callees_in ss) h in (command_calls s p.0, before_calls ss rest p.1 k)

      cases_calls : (default' : Simpl) → CallsOnly default' → (n : ℕ) (i : IntType) (gs : C.Groups) → list_all test (callees_of gs) ≡ true → CallsOnly (cases default' (cases_of l level n i gs))
      cases_calls default' d n i C.no_groups h = d
      cases_calls default' d n i (C.group labels true ss gs) h = cases_calls default' d n i gs (parts (callees_in ss) (callees_of gs) h).1
      cases_calls default' d n i (C.group labels false ss gs) h = let p = parts (callees_in ss) (callees_of gs) h in (commands_calls ss p.0, cases_calls default' d n i gs p.1)

      default_calls : (gs : C.Groups) → list_all test (callees_of gs) ≡ true → CallsOnly (default_of l level gs)
      default_calls C.no_groups h = tt
      default_calls (C.group labels true ss gs) h = commands_calls ss (parts (callees_in ss) (callees_of gs) h).0
      default_calls (C.group labels false ss gs) h = default_calls gs (parts (callees_in ss) (callees_of gs) h).1

  pub whole_calls : (o : Option CType) (s : Simpl) → CallsOnly s → CallsOnly (whole_body o s)
  whole_calls None s h = (h, tt)
  whole_calls (Some t) s h = ((h, tt), tt)

  -- exceptions

  sequence_calls : (q : Bool) (r s : Eliminated) → CallsOnly r.right → CallsOnly s.right → CallsOnly (in_sequence q r s).right
  sequence_calls true r s h k = (h, k)
  sequence_calls false r s h k = (h, (tt, k))

  caught_calls : (q : Bool) (b : Simpl) (r s : Eliminated) → CallsOnly r.right → CallsOnly s.right → CallsOnly (caught q b r s).right
  caught_calls true b r s h k = h
  caught_calls false Skip r s h k = (h, tt)
  caught_calls false b r s h k = (h, ((tt, k), tt))

  repeated_calls : (q : Bool) (cs : List Condition) (e : E.Exp) (r : Eliminated) → CallsOnly r.right → CallsOnly (repeated q cs e r).right
  repeated_calls true cs e r h = h
  repeated_calls false cs e r h = h

  pub eliminated_calls : (a : Simpl) → CallsOnly a → CallsOnly (exceptions_eliminated a).right
  eliminated_calls (Call x f es) h = h
  eliminated_calls (Seq a b) h = sequence_calls (quiet a) _ _ (eliminated_calls a h.0) (eliminated_calls b h.1)
  eliminated_calls (Cond e a b) h = (eliminated_calls a h.0, eliminated_calls b h.1)
  eliminated_calls (Guard c a) h = eliminated_calls a h
  eliminated_calls (Catch a b) h = caught_calls (quiet a) b _ _ (eliminated_calls a h.0) (eliminated_calls b h.1)
  eliminated_calls (While cs e a) h = repeated_calls (quiet a) cs e _ (eliminated_calls a h)
  eliminated_calls _ _ = tt

  -- programs

  set_calls : (b : Bool) (x : Name) (e : E.Exp) (vs : List Name) → calls_only test (set_lifted b x e vs).right ≡ true
  set_calls true x e vs = refl
  set_calls false x e vs = refl

  lifted_calls : (bs : List Binder) (a : Simpl) (vs : List Name) → CallsOnly a → calls_only test (lifted bs a vs).right ≡ true
  lifted_calls bs (Set x e) vs h = set_calls (is_among x vs) x e vs
  lifted_calls bs (Seq a b) vs h = and_from _ _ (lifted_calls bs a _ h.0) (lifted_calls bs b vs h.1)
  lifted_calls bs (Cond e a b) vs h = and_from _ _ (lifted_calls bs a vs h.0) (lifted_calls bs b vs h.1)
  lifted_calls bs (Guard c a) vs h = lifted_calls bs a vs h
  lifted_calls bs (Catch a b) vs h = lifted_calls bs a vs h.0
  lifted_calls bs (While cs e a) vs h = and_from _ true (lifted_calls bs a _ h) refl
  lifted_calls bs (Call (Some x) f es) vs h = and_from (test f) true h refl
  lifted_calls bs (Call None f es) vs h = and_from (test f) true h refl
  lifted_calls _ _ _ _ = refl

  begun_calls : (ctx : Context) (xs : List Name) (inner : Lifted) → calls_only test inner.right ≡ true → calls_only test (begun ctx xs inner).right ≡ true
  begun_calls ctx [] inner h = h
  begun_calls ctx (x ∷ xs) inner h = h

  pub locals_lifted_calls : (ctx : Context) (a : Simpl) (vs : List Name) → CallsOnly a → calls_only test (locals_lifted ctx a vs).right ≡ true
  locals_lifted_calls ctx a vs h = begun_calls ctx _ (lifted ctx.locals a vs) (lifted_calls ctx.locals a vs h)
