-- Commands at a larger bound, and with a deeper limit of nested calls.
use Rattle.std.proofs.Common.{ℕ, ◌≤◌, Option, Some, None, List}
use Rattle.correspondence.specs.Outcome.{Ends, fault}
use Rattle.correspondence.specs.OneEnd.{Continues, Deeper, AllContinue}
use Rattle.correspondence.proofs.Continues.{continues_itself, then_continues, choose_continues, loop_continues, called_continues, below_continues}
use Rattle.c_values.specs.Choice.{Choice}
use Rattle.c_values.specs.Layout.{Layout}
use Rattle.expression_lang.specs.Signature.{Binder, Signature, Invocation, signature}
use Rattle.expression_lang.specs.GuardKind.{GuardKind}
use Rattle.simpl_lang.specs.Command.{Simpl, Skip, Throw, Set, SetGlobal, Store, Pick, Seq, Cond, Guard, Catch, While, Call, SimplFn, SimplUnit, simpl_fn}
use Rattle.expression_lang.specs.Machine.{Machine}
use Rattle.simpl_lang.specs.Exec.{Flow, Normal, Abrupt, Runs, normally, handled, holds_on, execs, function_runs, bodies, functions_below, simpl_runs}

normally_continues : (r r' : Machine → Ends Flow GuardKind) → ((m : Machine) → Continues (r m) (r' m)) → (f : Flow) → Continues (normally r f) (normally r' f)
normally_continues r r' h (Normal m) = h m
normally_continues r r' h (Abrupt m) = continues_itself _

handled_continues : (r r' : Machine → Ends Flow GuardKind) → ((m : Machine) → Continues (r m) (r' m)) → (f : Flow) → Continues (handled r f) (handled r' f)
handled_continues r r' h (Normal m) = continues_itself _
handled_continues r r' h (Abrupt m) = h m

module _ (l : Layout) (p : Choice) where
  pub execs_continue : (locals : List Binder) (a : Simpl) (d e : Option ℕ) → Deeper d e → (fs gs : List Runs) → AllContinue fs gs → (m : Machine) → Continues (execs l p locals a d fs m) (execs l p locals a e gs m)
  execs_continue locals Skip d e h fs gs k m = continues_itself _
  execs_continue locals Throw d e h fs gs k m = continues_itself _
  execs_continue locals (Set x v) d e h fs gs k m = continues_itself _
  execs_continue locals (SetGlobal x path v) d e h fs gs k m = continues_itself _
  execs_continue locals (Store t a path v) d e h fs gs k m = continues_itself _
  execs_continue locals (Pick x) d e h fs gs k m = continues_itself _
  execs_continue locals (Seq a b) d e h fs gs k m =
      then_continues _ _ _ _ (execs_continue locals a d e h fs gs k m) (normally_continues _ _ (execs_continue locals b d e h fs gs k))
  execs_continue locals (Cond t a b) d e h fs gs k m = choose_continues _ _ _ _ _ (execs_continue locals a d e h fs gs k m) (execs_continue locals b d e h fs gs k m)
  execs_continue locals (Guard c a) d e h fs gs k m = choose_continues (holds_on l m c.exp) _ (fault c.kind) _ (fault c.kind) (execs_continue locals a d e h fs gs k m) (continues_itself _)
  execs_continue locals (Catch a b) d e h fs gs k m =
      then_continues _ _ _ _ (execs_continue locals a d e h fs gs k m) (handled_continues _ _ (execs_continue locals b d e h fs gs k))
  execs_continue locals (While cs t a) d e h fs gs k m =
      loop_continues _ _ _ (λ fs' gs' k' n. then_continues _ _ _ _ (execs_continue locals a d e h fs' gs' k' n) (λ f. continues_itself _)) fs gs k m
  execs_continue locals (Call x f es) d e h fs gs k m = then_continues _ _ _ _ (called_continues fs gs k d e h _) (λ r. continues_itself _)

  function_continues : (f : Option SimplFn) (s : Option Signature) (d e : Option ℕ) → Deeper d e → (fs gs : List Runs) → AllContinue fs gs → (c : Invocation) → Continues (function_runs l p f s d fs c) (function_runs l p f s e gs c)
  function_continues (Some f) (Some s) d e h fs gs k c = then_continues _ _ _ _ (execs_continue f.locals f.body d e h fs gs k _) (λ r. continues_itself _)
  function_continues (Some f) None d e h fs gs k c = continues_itself _
  function_continues None s d e h fs gs k c = continues_itself _

module _ (u : SimplUnit) (p : Choice) where
  bodies_continue : (fs gs : List Runs) → AllContinue fs gs → (d e : Option ℕ) (c : Invocation) → Deeper d e → Continues (bodies u p fs d c) (bodies u p gs e c)
  bodies_continue fs gs k d e c h = function_continues u.layout p (simpl_fn u.functions c.name) (signature u.signatures c.name) d e h fs gs k c

  pub functions_continue : (m n : ℕ) → m ≤ n → AllContinue (functions_below u p m) (functions_below u p n)
  functions_continue m n h = below_continues (bodies u p) bodies_continue m n h

  pub call_continues : (m n : ℕ) → m ≤ n → (d e : Option ℕ) → Deeper d e → (c : Invocation) → Continues (simpl_runs u p m d c) (simpl_runs u p n e c)
  call_continues m n h d e k c = bodies_continue _ _ (functions_continue m n h) d e c k
