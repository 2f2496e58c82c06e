-- Under a fill number a command has exactly one end.
use Rattle.std.proofs.Common.{ℕ, Option, Some, None, List, [], ◌∷◌}
use Rattle.correspondence.specs.Outcome.{Ends}
use Rattle.correspondence.specs.OneEnd.{OneEnd, HaveOneEnd}
use Rattle.correspondence.proofs.OneEnd.{done_once, fault_once, stop_once, choose_once, then_once, loop_once, called_once, below_once}
use Rattle.c_values.specs.Choice.{Fill}
use Rattle.c_values.specs.Layout.{Layout}
use Rattle.expression_lang.specs.Expression.{Exp}
use Rattle.expression_lang.specs.Sort.{Kind}
use Rattle.expression_lang.specs.Signature.{Binder, Signature, Invocation, signature}
use Rattle.expression_lang.proofs.Picked.{picked_word_at_once}
use Rattle.expression_lang.specs.GuardKind.{GuardKind}
use Rattle.simpl_lang.specs.Command.{Condition, Simpl, Skip, Throw, Set, SetGlobal, Store, Pick, Seq, Cond, Guard, Catch, While, Call, SimplFn, SimplUnit, simpl_fn, kind_of}
use Rattle.expression_lang.specs.Machine.{Machine}
use Rattle.simpl_lang.specs.Exec.{Flow, Normal, Abrupt, Runs, normally, handled, turned, checked, entered, picked_local, execs, ended, function_runs, bodies, functions_below, simpl_runs}

normally_once : (next : Machine → Ends Flow GuardKind) → ((m : Machine) → OneEnd (next m)) → (f : Flow) → OneEnd (normally next f)
normally_once next h (Normal m) = h m
normally_once next h (Abrupt m) = done_once _

handled_once : (next : Machine → Ends Flow GuardKind) → ((m : Machine) → OneEnd (next m)) → (f : Flow) → OneEnd (handled next f)
handled_once next h (Normal m) = done_once _
handled_once next h (Abrupt m) = h m

turned_once : (f : Flow) → OneEnd (turned f)
turned_once (Normal m) = done_once _
turned_once (Abrupt m) = done_once _

checked_once : {A : Type 0} (l : Layout) (cs : List Condition) (m : Machine) (next : Ends A GuardKind) → OneEnd next → OneEnd (checked l cs m next)
checked_once l [] m next h = h
checked_once l (c ∷ cs) m next h = choose_once _ _ _ (checked_once l cs m next h) (fault_once _)

entered_once : (l : Layout) (cs : List Condition) (test : Exp) (m : Machine) → OneEnd (entered l cs test m)
entered_once l cs test m = checked_once l cs m _ (choose_once _ _ _ (done_once _) (done_once _))

picked_local_once : (k : ℕ) (q : Option Kind) → OneEnd (picked_local (Fill k) q)
picked_local_once k None = done_once _
picked_local_once k (Some q) = picked_word_at_once k q

ended_once : (result : Option Kind) (f : Flow) → OneEnd (ended result f)
ended_once result (Normal m) = done_once _
ended_once result (Abrupt m) = done_once _

module _ (l : Layout) (k : ℕ) where
  pub execs_once : (locals : List Binder) (a : Simpl) (depth : Option ℕ) (fs : List Runs) → HaveOneEnd fs → (m : Machine) → OneEnd (execs l (Fill k) locals a depth fs m)
  execs_once locals Skip depth fs h m = done_once _
  execs_once locals Throw depth fs h m = done_once _
  execs_once locals (Set x e) depth fs h m = done_once _
  execs_once locals (SetGlobal x path e) depth fs h m = done_once _
  execs_once locals (Store t a path e) depth fs h m = done_once _
  execs_once locals (Pick x) depth fs h m = then_once _ _ (λ v. done_once _) (picked_local_once k (kind_of locals x))
  execs_once locals (Seq a b) depth fs h m = then_once _ _ (normally_once _ (execs_once locals b depth fs h)) (execs_once locals a depth fs h m)
  execs_once locals (Cond e a b) depth fs h m = choose_once _ _ _ (execs_once locals a depth fs h m) (execs_once locals b depth fs h m)
  execs_once locals (Guard c a) depth fs h m = choose_once _ _ _ (execs_once locals a depth fs h m) (fault_once _)
  execs_once locals (Catch a b) depth fs h m = then_once _ _ (handled_once _ (execs_once locals b depth fs h)) (execs_once locals a depth fs h m)
  execs_once locals (While cs e a) depth fs h m =
      loop_once _ _ (entered_once l cs e) (λ gs hs n. then_once _ _ turned_once (execs_once locals a depth gs hs n)) fs h m
  execs_once locals (Call x f es) depth fs h m = then_once _ _ (λ r. done_once _) (called_once fs h depth _)

  function_once : (f : Option SimplFn) (s : Option Signature) (depth : Option ℕ) (fs : List Runs) → HaveOneEnd fs → (c : Invocation) → OneEnd (function_runs l (Fill k) f s depth fs c)
  function_once (Some f) (Some s) depth fs h c = then_once _ _ (ended_once s.result) (execs_once f.locals f.body depth fs h _)
  function_once (Some f) None depth fs h c = stop_once _
  function_once None s depth fs h c = stop_once _

module _ (u : SimplUnit) (k : ℕ) where
  bodies_once : (fs : List Runs) → HaveOneEnd fs → (depth : Option ℕ) (c : Invocation) → OneEnd (bodies u (Fill k) fs depth c)
  bodies_once fs h depth c = function_once u.layout k (simpl_fn u.functions c.name) (signature u.signatures c.name) depth fs h c

  pub functions_once : (n : ℕ) → HaveOneEnd (functions_below u (Fill k) n)
  functions_once n = below_once (bodies u (Fill k)) bodies_once n

  pub call_once : (n : ℕ) (depth : Option ℕ) (c : Invocation) → OneEnd (simpl_runs u (Fill k) n depth c)
  call_once n depth c = bodies_once _ (functions_once n) depth c
