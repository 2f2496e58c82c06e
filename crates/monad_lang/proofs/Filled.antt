-- What a program does under a fill number it may do under any choice.
use Rattle.std.proofs.Common.{ℕ, Option, Some, None, List}
use Rattle.correspondence.specs.Included.{Included, AllIncluded}
use Rattle.correspondence.proofs.Included.{included_itself, then_included, choose_included, loop_included, called_included, below_included}
use Rattle.c_values.specs.Choice.{Any, Fill}
use Rattle.c_values.specs.Layout.{Layout}
use Rattle.expression_lang.specs.Evaluation.{Env, State}
use Rattle.expression_lang.specs.Signature.{Invocation}
use Rattle.expression_lang.proofs.Filled.{picked_at_included}
use Rattle.monad_lang.specs.Program.{Mon, Ret, Bind, Guard, If, Write, Loop, Call, Pick, FinalFn, FinalUnit, final_fn}
use Rattle.monad_lang.specs.Run.{Runs, runs, function_runs, bodies, functions_below, program_runs}

module _ (l : Layout) (n : ℕ) where
  pub runs_included : (m : Mon) (env : Env) (d : Option ℕ) (fs gs : List Runs) → AllIncluded fs gs → (s : State) → Included (runs l (Fill n) m env d fs s) (runs l Any m env d gs s)
  runs_included (Ret es) env d fs gs k s = included_itself _
  runs_included (Bind m xs b) env d fs gs k s = then_included _ _ _ _ (runs_included m env d fs gs k s) (λ a. runs_included b _ d fs gs k a.state)
  runs_included (Guard x) env d fs gs k s = included_itself _
  runs_included (If x m b) env d fs gs k s = choose_included _ _ _ _ _ (runs_included m env d fs gs k s) (runs_included b env d fs gs k s)
  runs_included (Write place x) env d fs gs k s = included_itself _
  runs_included (Loop starts guard test m) env d fs gs k s =
      loop_included _ _ _ _ (λ x. included_itself _) (λ fs' gs' k' a. then_included _ _ _ _ (runs_included m _ d fs' gs' k' a.state) (λ b. included_itself _)) fs gs k _
  runs_included (Call f es) env d fs gs k s = called_included fs gs k d _
  runs_included (Pick q) env d fs gs k s = then_included _ _ _ _ (picked_at_included n q) (λ v. included_itself _)

  function_included : (f : Option FinalFn) (d : Option ℕ) (fs gs : List Runs) → AllIncluded fs gs → (c : Invocation) → Included (function_runs l (Fill n) f d fs c) (function_runs l Any f d gs c)
  function_included None d fs gs k c = included_itself _
  function_included (Some f) d fs gs k c = runs_included f.body _ d fs gs k c.state

module _ (u : FinalUnit) (k : ℕ) where
  bodies_included : (fs gs : List Runs) → AllIncluded fs gs → (d : Option ℕ) (c : Invocation) → Included (bodies u (Fill k) fs d c) (bodies u Any gs d c)
  bodies_included fs gs h d c = function_included u.layout k (final_fn u.functions c.name) d fs gs h c

  pub functions_included : (n : ℕ) → AllIncluded (functions_below u (Fill k) n) (functions_below u Any n)
  functions_included n = below_included (bodies u (Fill k)) (bodies u Any) bodies_included n

  pub program_included : (n : ℕ) (d : Option ℕ) (c : Invocation) → Included (program_runs u (Fill k) n d c) (program_runs u Any n d c)
  program_included n d c = bodies_included _ _ (functions_included n) d c
