-- Runs that begin on bytes end on bytes, and those that begin on typed heaps end on typed heaps.
use Rattle.std.proofs.Common.{◌≡◌, ℕ, zero, suc, Bool, true, false, List, [], ◌∷◌, Option, Some, None, inl, inr, refl, ◌∙◌}
use Rattle.correspondence.specs.Always.{Always}
use Rattle.correspondence.proofs.Always.{then_always}
use Rattle.program_facts.proofs.KeptAlong.{Keeps, loop_keeps, choose_always, done_always, called_always}
use Rattle.c_values.specs.Types.{CType}
use Rattle.c_values.specs.Value.{Value}
use Rattle.c_values.specs.Layout.{Layout}
use Rattle.c_values.specs.Path.{Step}
use Rattle.c_values.specs.Choice.{Choice}
use Rattle.c_memory.specs.Heap.{Heap, OnBytes, OnTypes, IsHeap, write_heap}
use Rattle.expression_lang.specs.Evaluation.{Env, State, value, holds}
use Rattle.expression_lang.specs.Signature.{Invocation, values_of}
use Rattle.monad_lang.specs.Program.{Place, Stored, Written, Global, Mon, Ret, Bind, Guard, If, Write, Loop, Call, Pick, FinalFn, FinalUnit, final_fn}
use Rattle.monad_lang.specs.Run.{Answer, Runs, written, runs, function_runs, functions_below}
use Rattle.exactness.specs.Triple.{IsHeapFor}

abbrev pub is_typed : Heap → Bool
is_typed (OnBytes m) = false
is_typed (OnTypes cells) = true

pub heap_for : (l : Layout) (b : Bool) (h : Heap) → is_typed h ≡ b → IsHeap l h → IsHeapFor l b h
heap_for l true (OnTypes cells) e k = k
heap_for l false (OnBytes m) e k = k
heap_for l true (OnBytes m) e k = absurd cc
heap_for l false (OnTypes cells) e k = absurd cc

pub heap_of : (l : Layout) (b : Bool) (h : Heap) → IsHeapFor l b h → (is_typed h ≡ b) × IsHeap l h
heap_of l true (OnTypes cells) k = (refl, k)
heap_of l false (OnBytes m) k = (refl, k)
heap_of l true (OnBytes m) k = absurd k
heap_of l false (OnTypes cells) k = absurd k

abbrev pub KeepsHeap : State → Answer → Type 0
KeepsHeap s a = is_typed a.state.heap ≡ is_typed s.heap

abbrev FunctionKeeps : Runs → Type 0
FunctionKeeps f = (depth : Option ℕ) (c : Invocation) → Always (KeepsHeap c.state) (f depth c)

abbrev AllKeep : List Runs → Type 0
AllKeep [] = Unit {0}
AllKeep (f ∷ fs) = FunctionKeeps f × AllKeep fs

heap_kept : (l : Layout) (h : Heap) (t : CType) (a : ℕ) (path : List Step) (v : Value) → is_typed (write_heap l h t a path v) ≡ is_typed h
heap_kept l (OnBytes m) t a path v = refl
heap_kept l (OnTypes cells) t a path v = refl

place_keeps : (l : Layout) (env : Env) (s : State) (place : Place) (v : Value) → is_typed (written l env s place v).heap ≡ is_typed s.heap
place_keeps l env s (Stored t p path) v = heap_kept l s.heap t _ _ v
place_keeps l env s (Written t p path) v = heap_kept l s.heap t _ _ v
place_keeps l env s (Global x path) v = refl

module _ (l : Layout) (p : Choice) where
  runs_keep : (m : Mon) (env : Env) (depth : Option ℕ) (gs : List Runs) → AllKeep gs → (s : State) → Always (KeepsHeap s) (runs l p m env depth gs s)
  runs_keep (Ret es) env depth gs h s = done_always (KeepsHeap s) _ refl
  runs_keep (Bind m xs n) env depth gs h s =
      then_always (KeepsHeap s) (KeepsHeap s) _ _ (runs_keep m env depth gs h s) (λ a k b e. runs_keep n _ depth gs h a.state b e ∙ k)
  runs_keep (Guard e) env depth gs h s = choose_always (KeepsHeap s) (holds l env s e) _ _ (λ k. done_always (KeepsHeap s) _ refl) (λ k b e. absurd e)
  runs_keep (If e m n) env depth gs h s =
      choose_always (KeepsHeap s) (holds l env s e) _ _ (λ k. runs_keep m env depth gs h s) (λ k. runs_keep n env depth gs h s)
  runs_keep (Write place e) env depth gs h s = done_always (KeepsHeap s) _ (place_keeps l env s place (value l env s e))
  runs_keep (Loop starts guard test m) env depth gs h s =
      let K = Keeps (KeepsHeap s) (KeepsHeap s) in
      loop_keeps AllKeep (λ f fs k. k.1) (KeepsHeap s) (KeepsHeap s) _ _
      (λ a k. choose_always K (holds l _ a.state guard) _ _
      (λ i. choose_always K (holds l _ a.state test) _ _ (λ j. done_always K (inl a) k) (λ j. done_always K (inr a) k)) (λ i b e. absurd e))
      (λ fs q a k. then_always (KeepsHeap s) K _ _ (λ b e. runs_keep m _ depth fs q a.state b e ∙ k) (λ b j. done_always K (inl b) j))
      gs h _ refl
  runs_keep (Call f es) env depth gs h s =
      called_always (λ c. Unit {0}) (λ c. KeepsHeap c.state) AllKeep (λ g fs k d c u. k.0 d c) gs h depth
      (record { name = f; arguments = values_of l env s es; state = s }) tt
  runs_keep (Pick k) env depth gs h s = then_always (λ v. Unit {0}) (KeepsHeap s) _ _ (λ v e. tt) (λ v u. done_always (KeepsHeap s) _ refl)

  function_keeps : (f : Option FinalFn) (depth : Option ℕ) (gs : List Runs) → AllKeep gs → (c : Invocation) → Always (KeepsHeap c.state)
      (function_runs l p f depth gs c)
  function_keeps None depth gs h c = λ b e. absurd e
  function_keeps (Some f) depth gs h c = runs_keep f.body _ depth gs h c.state

module _ (u : FinalUnit) (p : Choice) where
  units_keep : (n : ℕ) → AllKeep (functions_below u p n)
  units_keep zero = tt
  units_keep (suc n) = (λ depth c. function_keeps u.layout p (final_fn u.functions c.name) depth (functions_below u p n) (units_keep n) c, units_keep n)

  -- a run ends on a heap as it began on
  pub programs_keep_heaps : (n : ℕ) (m : Mon) (env : Env) (depth : Option ℕ) (s : State) → Always (KeepsHeap s)
      (runs u.layout p m env depth (functions_below u p n) s)
  programs_keep_heaps n m env depth s = runs_keep u.layout p m env depth (functions_below u p n) (units_keep n) s
