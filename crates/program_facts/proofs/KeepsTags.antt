-- Runs keep the tags of the heap, whatever they are called with.
use Rattle.std.proofs.Common.{◌≡◌, ℕ, zero, suc, List, Option, Some, None, inl, inr, refl, ◌∙◌}
use Rattle.correspondence.specs.Always.{Always}
use Rattle.correspondence.proofs.Always.{then_always}
use Rattle.program_facts.proofs.KeptAlong.{Keeps, loop_keeps, choose_always, done_always, called_always}
use Rattle.c_values.specs.Types.{CType}
use Rattle.c_values.specs.Value.{Value}
use Rattle.c_values.specs.Layout.{Layout}
use Rattle.c_values.specs.Path.{Step}
use Rattle.c_values.specs.Choice.{Choice}
use Rattle.c_memory.specs.Heap.{Heap, OnBytes, OnTypes, heap_tags, write_heap}
use Rattle.c_memory.proofs.Cells.{tags_written}
use Rattle.expression_lang.specs.Evaluation.{Env, State, value, holds}
use Rattle.expression_lang.specs.Signature.{Invocation, values_of}
use Rattle.monad_lang.specs.Program.{Place, Stored, Written, Global, Mon, Ret, Bind, Guard, If, Write, Loop, Call, Pick, FinalFn, FinalUnit, final_fn}
use Rattle.monad_lang.specs.Run.{Runs, written, runs, function_runs, bodies, functions_below, program_runs}
use Rattle.program_facts.specs.Lasting.{KeepsTags, FunctionKeepsTags, AllKeepTags}

pub heap_written : (l : Layout) (h : Heap) (t : CType) (a : ℕ) (path : List Step) (v : Value) → heap_tags (write_heap l h t a path v) ≡ heap_tags h
heap_written l (OnBytes m) t a path v = refl
heap_written l (OnTypes cells) t a path v = tags_written l cells t a path v

pub place_keeps_tags : (l : Layout) (env : Env) (s : State) (place : Place) (v : Value) → heap_tags (written l env s place v).heap ≡ heap_tags s.heap
place_keeps_tags l env s (Stored t p path) v = heap_written l s.heap t _ _ v
place_keeps_tags l env s (Written t p path) v = heap_written l s.heap t _ _ v
place_keeps_tags l env s (Global x path) v = refl

module _ (l : Layout) (p : Choice) where
  pub runs_keep_tags : (m : Mon) (env : Env) (depth : Option ℕ) (gs : List Runs) → AllKeepTags gs → (s : State) → Always (KeepsTags s) (runs l p m env depth gs s)
  runs_keep_tags (Ret es) env depth gs h s = done_always (KeepsTags s) _ refl
  runs_keep_tags (Bind m xs n) env depth gs h s =
      then_always (KeepsTags s) (KeepsTags s) _ _ (runs_keep_tags m env depth gs h s) (λ a k b e. runs_keep_tags n _ depth gs h a.state b e ∙ k)
  runs_keep_tags (Guard e) env depth gs h s = choose_always (KeepsTags s) (holds l env s e) _ _ (λ k. done_always (KeepsTags s) _ refl) (λ k b e. absurd e)
  runs_keep_tags (If e m n) env depth gs h s = choose_always (KeepsTags s) (holds l env s e) _ _ (λ k. runs_keep_tags m env depth gs h s) (λ k. runs_keep_tags n env depth gs h s)
  runs_keep_tags (Write place e) env depth gs h s = done_always (KeepsTags s) _ (place_keeps_tags l env s place (value l env s e))
  runs_keep_tags (Loop starts guard test m) env depth gs h s =
      loop_keeps AllKeepTags (λ f fs k. k.1) (KeepsTags s) (KeepsTags s) _ _
      (λ a k. choose_always (Keeps (KeepsTags s) (KeepsTags s)) (holds l _ a.state guard) _ _
      (λ i. choose_always (Keeps (KeepsTags s) (KeepsTags s)) (holds l _ a.state test) _ _ (λ j. done_always (Keeps (KeepsTags s) (KeepsTags s)) (inl a) k) (λ j. done_always (Keeps (KeepsTags s) (KeepsTags s)) (inr a) k))
      (λ i b e. absurd e))
      (λ fs q a k. then_always (KeepsTags s) (Keeps (KeepsTags s) (KeepsTags s)) _ _ (λ b e. runs_keep_tags m _ depth fs q a.state b e ∙ k) (λ b j. done_always (Keeps (KeepsTags s) (KeepsTags s)) (inl b) j))
      gs h _ refl
  runs_keep_tags (Call f es) env depth gs h s =
      called_always (λ c. Unit {0}) (λ c. KeepsTags c.state) AllKeepTags (λ g fs k d c u. k.0 d c) gs h depth (record { name = f; arguments = values_of l env s es; state = s }) tt
  runs_keep_tags (Pick k) env depth gs h s = then_always (λ v. Unit {0}) (KeepsTags s) _ _ (λ v e. tt) (λ v u. done_always (KeepsTags s) _ refl)

  function_keeps_tags : (f : Option FinalFn) (depth : Option ℕ) (gs : List Runs) → AllKeepTags gs → (c : Invocation) → Always (KeepsTags c.state) (function_runs l p f depth gs c)
  function_keeps_tags None depth gs h c = λ b e. absurd e
  function_keeps_tags (Some f) depth gs h c = runs_keep_tags f.body _ depth gs h c.state

module _ (u : FinalUnit) (p : Choice) where
  bodies_keep_tags : (gs : List Runs) → AllKeepTags gs → FunctionKeepsTags (bodies u p gs)
  bodies_keep_tags gs h depth c = function_keeps_tags u.layout p (final_fn u.functions c.name) depth gs h c

  pub units_keep_tags : (n : ℕ) → AllKeepTags (functions_below u p n)
  units_keep_tags zero = tt
  units_keep_tags (suc n) = (bodies_keep_tags (functions_below u p n) (units_keep_tags n), units_keep_tags n)

  pub calls_keep_tags : (n : ℕ) → FunctionKeepsTags (program_runs u p n)
  calls_keep_tags n = bodies_keep_tags (functions_below u p n) (units_keep_tags n)
