-- Under a fill number a program has exactly one end.
use Rattle.std.proofs.Common.{ℕ, Option, Some, None, List}
use Rattle.correspondence.specs.OneEnd.{OneEnd, HaveOneEnd}
use Rattle.correspondence.proofs.OneEnd.{done_once, fault_once, stop_once, choose_once, then_once, loop_once, called_once, below_once}
use Rattle.c_values.specs.Choice.{Fill}
use Rattle.c_values.specs.Layout.{Layout}
use Rattle.expression_lang.specs.Expression.{Exp}
use Rattle.expression_lang.specs.Evaluation.{Env, State}
use Rattle.expression_lang.specs.Signature.{Invocation}
use Rattle.expression_lang.proofs.Picked.{picked_at_once}
use Rattle.monad_lang.specs.Program.{Mon, Ret, Bind, Guard, If, Write, Loop, Call, Pick, FinalFn, FinalUnit, final_fn}
use Rattle.monad_lang.specs.Run.{Answer, Runs, entered, runs, function_runs, bodies, functions_below, program_runs}

module _ (l : Layout) (k : ℕ) where
  entered_once : (guard test : Exp) (env : Answer → Env) (a : Answer) → OneEnd (entered l guard test env a)
  entered_once guard test env a = choose_once _ _ _ (choose_once _ _ _ (done_once _) (done_once _)) (fault_once _)

  pub runs_once : (m : Mon) (env : Env) (depth : Option ℕ) (fs : List Runs) → HaveOneEnd fs → (s : State) → OneEnd (runs l (Fill k) m env depth fs s)
  runs_once (Ret es) env depth fs h s = done_once _
  runs_once (Bind m xs n) env depth fs h s = then_once _ _ (λ a. runs_once n _ depth fs h a.state) (runs_once m env depth fs h s)
  runs_once (Guard e) env depth fs h s = choose_once _ _ _ (done_once _) (fault_once _)
  runs_once (If e m n) env depth fs h s = choose_once _ _ _ (runs_once m env depth fs h s) (runs_once n env depth fs h s)
  runs_once (Write place e) env depth fs h s = done_once _
  runs_once (Loop starts guard test m) env depth fs h s =
      loop_once _ _ (entered_once guard test _) (λ gs hs a. then_once _ _ (λ b. done_once _) (runs_once m _ depth gs hs a.state)) fs h _
  runs_once (Call f es) env depth fs h s = called_once fs h depth _
  runs_once (Pick q) env depth fs h s = then_once _ _ (λ v. done_once _) (picked_at_once k q)

  function_once : (f : Option FinalFn) (depth : Option ℕ) (fs : List Runs) → HaveOneEnd fs → (c : Invocation) → OneEnd (function_runs l (Fill k) f depth fs c)
  function_once None depth fs h c = stop_once _
  function_once (Some f) depth fs h c = runs_once f.body _ depth fs h c.state

module _ (u : FinalUnit) (k : ℕ) where
  bodies_once : (fs : List Runs) → HaveOneEnd fs → (depth : Option ℕ) (c : Invocation) → OneEnd (bodies u (Fill k) fs depth c)
  bodies_once fs h depth c = function_once u.layout k (final_fn u.functions c.name) depth fs h c

  pub functions_once : (n : ℕ) → HaveOneEnd (functions_below u (Fill k) n)
  functions_once n = below_once (bodies u (Fill k)) bodies_once n

  pub program_once : (n : ℕ) (depth : Option ℕ) (c : Invocation) → OneEnd (program_runs u (Fill k) n depth c)
  program_once n depth c = bodies_once _ (functions_once n) depth c
