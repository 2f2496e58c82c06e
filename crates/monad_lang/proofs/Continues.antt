-- Programs at a larger bound, and with a deeper limit of nested calls.
use Rattle.std.proofs.Common.{ℕ, ◌≤◌, Option, Some, None, List}
use Rattle.correspondence.specs.OneEnd.{Continues, Deeper, AllContinue}
use Rattle.correspondence.proofs.Continues.{continues_itself, then_continues, choose_continues, loop_continues, called_continues, below_continues}
use Rattle.c_values.specs.Choice.{Choice}
use Rattle.c_values.specs.Layout.{Layout}
use Rattle.expression_lang.specs.Evaluation.{Env, State}
use Rattle.expression_lang.specs.Signature.{Invocation}
use Rattle.monad_lang.specs.Program.{Mon, Ret, Bind, Guard, If, Write, Loop, Call, Pick, FinalFn, FinalUnit, final_fn}
use Rattle.monad_lang.specs.Run.{Runs, runs, function_runs, bodies, functions_below, program_runs}

module _ (l : Layout) (p : Choice) where
  pub runs_continue : (m : Mon) (env : Env) (d e : Option ℕ) → Deeper d e → (fs gs : List Runs) → AllContinue fs gs → (s : State) → Continues (runs l p m env d fs s) (runs l p m env e gs s)
  runs_continue (Ret es) env d e h fs gs k s = continues_itself _
  runs_continue (Bind m xs n) env d e h fs gs k s = then_continues _ _ _ _ (runs_continue m env d e h fs gs k s) (λ a. runs_continue n _ d e h fs gs k a.state)
  runs_continue (Guard x) env d e h fs gs k s = continues_itself _
  runs_continue (If x m n) env d e h fs gs k s = choose_continues _ _ _ _ _ (runs_continue m env d e h fs gs k s) (runs_continue n env d e h fs gs k s)
  runs_continue (Write place x) env d e h fs gs k s = continues_itself _
  runs_continue (Loop starts guard test m) env d e h fs gs k s =
      loop_continues _ _ _ (λ fs' gs' k' a. then_continues _ _ _ _ (runs_continue m _ d e h fs' gs' k' a.state) (λ b. continues_itself _)) fs gs k _
  runs_continue (Call f es) env d e h fs gs k s = called_continues fs gs k d e h _
  runs_continue (Pick q) env d e h fs gs k s = continues_itself _

  function_continues : (f : Option FinalFn) (d e : Option ℕ) → Deeper d e → (fs gs : List Runs) → AllContinue fs gs → (c : Invocation) → Continues (function_runs l p f d fs c) (function_runs l p f e gs c)
  function_continues None d e h fs gs k c = continues_itself _
  function_continues (Some f) d e h fs gs k c = runs_continue f.body _ d e h fs gs k c.state

module _ (u : FinalUnit) (p : Choice) where
  bodies_continue : (fs gs : List Runs) → AllContinue fs gs → (d e : Option ℕ) (c : Invocation) → Deeper d e → Continues (bodies u p fs d c) (bodies u p gs e c)
  bodies_continue fs gs k d e c h = function_continues u.layout p (final_fn u.functions c.name) d e h fs gs k c

  pub functions_continue : (m n : ℕ) → m ≤ n → AllContinue (functions_below u p m) (functions_below u p n)
  functions_continue m n h = below_continues (bodies u p) bodies_continue m n h

  pub program_continues : (m n : ℕ) → m ≤ n → (d e : Option ℕ) → Deeper d e → (c : Invocation) → Continues (program_runs u p m d c) (program_runs u p n e c)
  program_continues m n h d e k c = bodies_continue _ _ (functions_continue m n h) d e c k
