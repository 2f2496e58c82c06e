-- Under a fill number a program has exactly one end in 128 bits too.
use Rattle.std.proofs.Common.{ℕ, Option, Some, None, List, inl, inr}
use Rattle.correspondence.specs.Outcome.{Ends}
use Rattle.correspondence.specs.OneEnd.{OneEnd, HaveOneEnd}
use Rattle.correspondence.proofs.OneEnd.{done_once, fault_once, stop_once, choose_once, then_once, loop_once, called_once, below_once}
use Rattle.c_values.specs.Choice.{Fill}
use Rattle.c_values.specs.Layout.{Layout}
use Rattle.expression_lang.specs.Expression.{Exp}
use Rattle.expression_lang.specs.Evaluation.{Env, State, holds}
use Rattle.expression_lang.specs.Signature.{Invocation, bound, values_of}
use Rattle.expression_lang.specs.Wide.{Operation, wide, or_else}
use Rattle.expression_lang.proofs.Picked.{picked_at_once}
use Rattle.monad_lang.specs.Program.{Mon, Ret, Bind, Guard, If, Write, Loop, Call, Pick, FinalFn, FinalUnit, final_fn}
use Rattle.monad_lang.specs.Run.{Answer, start_names, start_values}
use Rattle.program_runs.specs.WideRun.{Trouble, Fails, IsWide, WideRuns, unless, wide_among, wide_at_place, wide_at_starts, wide_entered, wide_runs, wide_function_runs, wide_bodies, wide_program_runs}

unless_once : {A : Type 0} (o : Option Operation) (p : Ends A Trouble) → OneEnd p → OneEnd (unless o p)
unless_once None p h = h
unless_once (Some x) p h = fault_once (IsWide x)

module _ (l : Layout) (k : ℕ) where
  entered_once : (guard test : Exp) (env : Answer → Env) (a : Answer) → OneEnd (wide_entered l guard test env a)
  entered_once guard test env a =
      unless_once (wide l (env a) a.state guard) _
      (choose_once (holds l (env a) a.state guard) _ _ (unless_once (wide l (env a) a.state test) _ (choose_once (holds l (env a) a.state test) _ _ (done_once (inl a)) (done_once (inr a)))) (fault_once Fails))

  runs_once : (m : Mon) (env : Env) (depth : Option ℕ) (fs : List WideRuns) → HaveOneEnd fs → (s : State) → OneEnd (wide_runs l (Fill k) m env depth fs s)
  runs_once (Ret es) env depth fs h s = unless_once (wide_among l env s es) _ (done_once _)
  runs_once (Bind m xs n) env depth fs h s = then_once _ _ (λ a. runs_once n _ depth fs h a.state) (runs_once m env depth fs h s)
  runs_once (Guard e) env depth fs h s = unless_once (wide l env s e) _ (choose_once (holds l env s e) _ _ (done_once _) (fault_once _))
  runs_once (If e m n) env depth fs h s = unless_once (wide l env s e) _ (choose_once (holds l env s e) _ _ (runs_once m env depth fs h s) (runs_once n env depth fs h s))
  runs_once (Write place e) env depth fs h s = unless_once (or_else (wide_at_place l env s place) (wide l env s e)) _ (done_once _)
  runs_once (Loop starts guard test m) env depth fs h s =
      unless_once (wide_at_starts l env s starts) _
      (loop_once _ _ (entered_once guard test (λ a. bound (start_names starts) a.values env)) (λ gs hs a. then_once _ _ (λ b. done_once (inl b)) (runs_once m (bound (start_names starts) a.values env) depth gs hs a.state)) fs h (record { values = start_values l env s starts; state = s }))
  runs_once (Call f es) env depth fs h s = unless_once (wide_among l env s es) _ (called_once fs h depth (record { name = f; arguments = values_of l env s es; state = s }))
  runs_once (Pick q) env depth fs h s = then_once _ _ (λ v. done_once _) (picked_at_once k q)

  function_once : (f : Option FinalFn) (depth : Option ℕ) (fs : List WideRuns) → HaveOneEnd fs → (c : Invocation) → OneEnd (wide_function_runs l (Fill k) f depth fs c)
  function_once None depth fs h c = stop_once _
  function_once (Some f) depth fs h c = runs_once f.body _ depth fs h c.state

module _ (u : FinalUnit) (k : ℕ) where
  bodies_once : (fs : List WideRuns) → HaveOneEnd fs → (depth : Option ℕ) (c : Invocation) → OneEnd (wide_bodies u (Fill k) fs depth c)
  bodies_once fs h depth c = function_once u.layout k (final_fn u.functions c.name) depth fs h c

  pub program_once : (n : ℕ) (depth : Option ℕ) (c : Invocation) → OneEnd (wide_program_runs u (Fill k) n depth c)
  program_once n depth c = bodies_once _ (below_once (wide_bodies u (Fill k)) bodies_once n) depth c
