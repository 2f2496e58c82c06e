-- Exactness of the last programs of a whole chain: the six laws, one after the other, from where a function begins.
use Rattle.std.proofs.Common.{◌≡◌, Bool, List, map, Option, Some, None, refl, sym, subst, ap, ◌∙◌}
use Rattle.correspondence.specs.Outcome.{Ends}
use Rattle.correspondence.specs.Corresponds.{Corresponds}
use Rattle.correspondence.specs.Related.{Same, BothFail}
use Rattle.correspondence.proofs.Corresponds.{corresponds_weaker}
use Rattle.c_values.specs.Name.{Name}
use Rattle.c_values.specs.Value.{Value}
use Rattle.c_values.specs.Layout.{Layout}
use Rattle.c_memory.specs.Memory.{Memory}
use Rattle.c_memory.specs.Footprint.{KeepsMemory}
use Rattle.c_memory.specs.Heap.{Heap, OnBytes, IsHeap}
use Rattle.c_memory.specs.LevelHeap.{heap_for}
use Rattle.expression_lang.specs.Sort.{Level, Kind, is_lifted, sort_of_kind, word_sort_of}
use Rattle.expression_lang.specs.States.{IsState, state_with}
use Rattle.expression_lang.specs.View.{AreOfKinds, views_at}
use Rattle.expression_lang.specs.Signature.{Invocation, kinds_of, result_kind, signature}
use Rattle.expression_lang.specs.Machine.{Returned}
use Rattle.simpl_lang.specs.Command.{SimplUnit}
use Rattle.monad_lang.specs.Program.{FinalUnit}
use Rattle.monad_lang.specs.Run.{Answer, Failure, program_runs}
use Rattle.monad_lang.specs.Sorted.{signature_of}
use Rattle.program_facts.specs.Lasting.{AreOfSorts}
use Rattle.rule_local.specs.Kept.{as_values, SameResult, IsFilled}
use Rattle.rule_heap.specs.Kept.{IsCall, AnswersOnItsHeap}
use Rattle.rule_heap.proofs.Standing.{same_bytes}
use Rattle.rule_word.specs.Scopes.{result_as_list}
use Rattle.rule_word.specs.Kept.{context_of, kinds_taken, kinds_given, parameter_kinds, result_kinds, AnswersAtItsKinds}
use Rattle.c_lang.specs.Typed.{TypedUnit, TypedFn, typed_fn}
use Rattle.c_meaning.specs.Kinds.{variables}
use Rattle.generation.proofs.UnitParts.{signature_found}
use Rattle.exactness.specs.Exact.{Begin, IsBegin, c_ends, program_ends, seen, ExactFrom, IsExact}
use Rattle.pipeline.specs.Chain.{IsChain}
use Rattle.pipeline.specs.Whole.{IsWhole}
use Rattle.pipeline.proofs.Composed.{composed}
use Rattle.pipeline.proofs.GivenEnds.{Gives, exact_from}
use Rattle.pipeline.proofs.Begins.{kinds_are_words, types_sorted, types_fill, kinds_sorted, views_are_of_kinds, heap_can_be}
use Rattle.pipeline.proofs.Begins.{found_name, WordsThere, words_there, ProgramThere, program_there, results_there}

-- an answer on bytes, and the same answer on what the bytes after it are seen as
record StepsTo (l : Layout) (lifted : Bool) (before : Memory) (heap : Memory → Heap) (a a' : Answer) : Type 0 where
  pub after : Memory
  pub bytes : a.state.heap ≡ OnBytes after
  pub heap_is : a'.state.heap ≡ heap after
  pub values : a'.values ≡ a.values
  pub globals : a'.state.globals ≡ a.state.globals
  pub keeps : KeepsMemory l lifted before after

-- what a C run returns, and the same as values, words still
record GivesWords (l : Layout) (lifted : Bool) (before : Memory) (heap : Memory → Heap) (r : Returned) (a : Answer) : Type 0 where
  pub after : Memory
  pub bytes : r.state.heap ≡ OnBytes after
  pub heap_is : a.state.heap ≡ heap after
  pub values : a.values ≡ as_values r.result
  pub globals : a.state.globals ≡ r.state.globals
  pub keeps : KeepsMemory l lifted before after

-- the values of a result, at its kind
seen_values : (k : Option Kind) (v : Option Value) → views_at (result_as_list k) (as_values v) ≡ seen k v
seen_values None None = refl
seen_values (Some k) None = refl
seen_values _ _ = refl

module _ (u : TypedUnit) (levels : Name → Level) (generated flat : SimplUnit) (local heaps words last : FinalUnit)
    (chain : IsChain u levels generated flat local heaps words last) (whole : IsWhole u levels flat local words last)
    (f : TypedFn) (there : typed_fn u.functions f.name ≡ Some f) (b : Begin) (begin : IsBegin u f b) where
  abbrev lifted : Bool
  lifted = is_lifted (levels f.name)

  abbrev kinds : List Kind
  kinds = kinds_of (variables u.layout.target (levels f.name) f.params)

  abbrev result : Option Kind
  result = result_kind u.layout.target (levels f.name) f.result

  abbrev its_heap : Memory → Heap
  its_heap = heap_for u.layout (is_lifted (levels f.name))

  -- Calls

  -- with words, and with what stands for them
  abbrev with_words : Heap → Invocation
  with_words h = record { name = f.name; arguments = b.arguments; state = state_with h b.globals }

  abbrev with_views : Heap → Invocation
  with_views h = record { name = f.name; arguments = views_at kinds b.arguments; state = state_with h b.globals }

  callee : WordsThere u.layout.target f.name f (signature (map signature_of local.functions) f.name)
  callee = words_there u.layout.target f.name f u.functions local.functions whole.words there

  program : ProgramThere u.layout.target f.name f levels (signature (map signature_of last.functions) f.name)
  program = program_there u.layout.target f.name f levels u.functions last.functions whole.programs.functions there

  kinds_there : parameter_kinds (context_of last) f.name ≡ kinds
  kinds_there = ap (λ o. kinds_taken o) program.found ∙ ap (λ bs. kinds_of bs) program.is_program.params

  kinds_back : result_kinds (context_of last) f.name ≡ result_as_list result
  kinds_back =
      ap (λ o. kinds_given o) program.found ∙ results_there program.program result program.is_program.results

  arguments_sorted : AreOfSorts (map word_sort_of kinds) b.arguments
  arguments_sorted =
      subst (λ ss. AreOfSorts ss b.arguments) (sym (kinds_are_words u.layout.target (levels f.name) f.params))
      (types_sorted u.layout f.params b.arguments begin.arguments)

  views_in_range : AreOfKinds kinds (views_at kinds b.arguments)
  views_in_range = views_are_of_kinds u.layout (levels f.name) f.params b.arguments begin.arguments

  state_there : (w : FinalUnit) (h : Heap) → w.layout ≡ u.layout → w.globals ≡ u.globals → IsHeap u.layout h →
      IsState w.layout w.globals (state_with h b.globals)
  state_there w h e g can =
      subst (λ k. IsState k w.globals (state_with h b.globals)) (sym e)
      (subst (λ vs. IsState u.layout vs (state_with h b.globals)) (sym g) (record { heap = can; globals = begin.globals }))

  filled : IsFilled (signature flat.signatures f.name) b.arguments
  filled =
      subst (λ o. IsFilled o b.arguments)
      (sym (ap (λ ss. signature ss f.name) whole.signatures ∙ signature_found u.layout levels f.name f u.functions there))
      (types_fill u.layout (levels f.name) f.params b.arguments begin.arguments)

  is_call : IsCall local (with_words (OnBytes b.memory))
  is_call = record {
    function = callee.callee;
    found = callee.found;
    sorted = subst (λ ss. AreOfSorts ss b.arguments) (sym callee.sorts)
        (types_sorted u.layout f.params b.arguments begin.arguments);
    state = state_there local (OnBytes b.memory) whole.layout whole.globals begin.tagged;
  }

  -- Runs

  abbrev runs_on_bytes : Ends Answer Failure
  runs_on_bytes = program_runs local b.choice b.turns b.depth (with_words (OnBytes b.memory))

  abbrev runs_on : Heap → Ends Answer Failure
  runs_on h = program_runs heaps b.choice b.turns b.depth (with_words h)

  abbrev runs_of_views : FinalUnit → Heap → Ends Answer Failure
  runs_of_views w h = program_runs w b.choice b.turns b.depth (with_views h)

  abbrev Steps : (Memory → Heap) → Answer → Answer → Type 0
  Steps heap = StepsTo u.layout lifted b.memory heap

  -- from C to programs on bytes
  to_bytes : Corresponds SameResult BothFail (c_ends u levels f b) runs_on_bytes
  to_bytes =
      let c = with_words (OnBytes b.memory) in
      let state : IsState u.layout u.globals c.state = record { heap = begin.tagged; globals = begin.globals } in
      composed Same SameResult SameResult (λ r q a h k. subst (λ x. SameResult x a) h k)
      (composed Same Same Same (λ r q s h k. k ∙ h)
      (chain.generation b.choice b.turns b.depth c f there begin.arguments state)
      (chain.exceptions b.choice b.turns b.depth c c refl))
      (chain.locals b.choice b.turns b.depth c c (record { same = refl; filled = filled }))

  -- from bytes to the heap of the level
  its_step : (a a' : Answer) → AnswersOnItsHeap local.layout levels (with_words (OnBytes b.memory)) a a' → Steps its_heap a a'
  its_step a a' h = record {
    after = h.after;
    bytes = h.bytes;
    heap_is = subst (λ k. a'.state.heap ≡ heap_for k lifted h.after) whole.layout h.heap;
    values = h.values;
    globals = h.globals;
    keeps = subst (λ k. KeepsMemory k lifted b.memory h.after) whole.layout
        (subst (λ m. KeepsMemory local.layout lifted m h.after) (sym (same_bytes b.memory h.before h.began)) h.keeps);
  }

  on_its_heap : Corresponds (Steps its_heap) BothFail runs_on_bytes (runs_on (its_heap b.memory))
  on_its_heap =
      let c = with_words (OnBytes b.memory) in
      corresponds_weaker (AnswersOnItsHeap local.layout levels c) (Steps its_heap) BothFail BothFail _ _ its_step (λ i j t. t)
      ((chain.heaps b.choice b.turns).on_its_heap b.depth c (with_words (its_heap b.memory)) (record {
        memory = b.memory;
        call = is_call;
        bytes = refl;
        heap = ap (λ k. heap_for k lifted b.memory) (sym whole.layout);
        name = refl;
        arguments = refl;
        globals = refl;
      }))

  -- from bytes to the bytes themselves: what the step to the level's heap tells of the bytes after holds too
  stays : (a a' a'' : Answer) → Steps its_heap a a' → Same a a'' → Steps OnBytes a a''
  stays a a' a'' h e = record {
    after = h.after;
    bytes = h.bytes;
    heap_is = ap (λ (x : Answer). x.state.heap) e ∙ h.bytes;
    values = ap (λ (x : Answer). x.values) e;
    globals = ap (λ (x : Answer). x.state.globals) e;
    keeps = h.keeps;
  }

  on_bytes : Corresponds (Steps OnBytes) BothFail runs_on_bytes (runs_on (OnBytes b.memory))
  on_bytes =
      let c = with_words (OnBytes b.memory) in
      let one = (chain.heaps b.choice b.turns).on_one_heap b.depth c c (record { same = refl; call = is_call }) in
      record {
        done = λ a x. let y = on_its_heap.done a x in let z = one.done a x in (z.0, stays a y.0 z.0 y.1 z.1, z.2);
        done_back = λ a x.
            let z = one.done_back a x in let y = on_its_heap.done z.0 z.2 in (z.0, stays z.0 y.0 a y.1 z.1, z.2);
        failed = one.failed;
        failed_back = one.failed_back;
        stopped = one.stopped;
        stopped_back = one.stopped_back;
      }

  -- from words to the last programs, on either heap
  module _ (heap : Memory → Heap) (can : IsHeap u.layout (heap b.memory))
      (step : Corresponds (Steps heap) BothFail runs_on_bytes (runs_on (heap b.memory))) where
    abbrev AtKinds : Answer → Answer → Type 0
    AtKinds = AnswersAtItsKinds (context_of last) (with_words (heap b.memory))

    abbrev Words : Returned → Answer → Type 0
    Words = GivesWords u.layout lifted b.memory heap

    abbrev Views : Returned → Answer → Type 0
    Views = Gives u.layout lifted b.memory heap result

    to_views : Corresponds AtKinds BothFail (runs_on (heap b.memory)) (runs_of_views words (heap b.memory))
    to_views =
        chain.words b.choice b.turns b.depth (with_words (heap b.memory)) (with_views (heap b.memory)) (record {
          name = refl;
          words = subst (λ ks. AreOfSorts (map word_sort_of ks) b.arguments) (sym kinds_there) arguments_sorted;
          arguments = ap (λ ks. views_at ks b.arguments) (sym kinds_there);
          in_range = subst (λ ks. AreOfKinds ks (views_at kinds b.arguments)) (sym kinds_there) views_in_range;
          state = refl;
          can_be = state_there last (heap b.memory) whole.programs.layout whole.programs.globals can;
        })

    to_last : Corresponds Same BothFail (runs_of_views words (heap b.memory)) (runs_of_views last (heap b.memory))
    to_last =
        chain.equality b.choice b.turns b.depth (with_views (heap b.memory)) (with_views (heap b.memory)) (record {
          same = refl;
          call = record {
            function = signature_of program.program;
            found = ap (λ ss. signature ss f.name) (sym whole.alike.functions) ∙ program.found;
            sorted = subst (λ bs. AreOfSorts (map sort_of_kind (kinds_of bs)) (views_at kinds b.arguments))
                (sym program.is_program.params) (kinds_sorted kinds (views_at kinds b.arguments) views_in_range);
            state = state_there words (heap b.memory) (sym whole.alike.layout ∙ whole.programs.layout)
                (sym whole.alike.globals ∙ whole.programs.globals) can;
          };
        })

    gives_words : (r : Returned) (x y : Answer) → SameResult r x → Steps heap x y → Words r y
    gives_words r x y h k = record {
      after = k.after;
      bytes = sym (ap (λ s. s.heap) h.state) ∙ k.bytes;
      heap_is = k.heap_is;
      values = k.values ∙ h.values;
      globals = k.globals ∙ ap (λ s. s.globals) h.state;
      keeps = k.keeps;
    }

    gives_views : (r : Returned) (x y : Answer) → Words r x → AtKinds x y → Views r y
    gives_views r x y h k = record {
      after = h.after;
      bytes = h.bytes;
      heap_is = ap (λ s. s.heap) k.state ∙ h.heap_is;
      values = k.values ∙ ap (λ ks. views_at ks x.values) kinds_back
          ∙ ap (λ vs. views_at (result_as_list result) vs) h.values ∙ seen_values result r.result;
      globals = ap (λ s. s.globals) k.state ∙ h.globals;
      keeps = h.keeps;
    }

    c_gives : Corresponds Views BothFail (c_ends u levels f b) (program_ends u (levels f.name) last f b (heap b.memory))
    c_gives =
        composed Words AtKinds Views gives_views (composed SameResult (Steps heap) Words gives_words to_bytes step)
        (composed AtKinds Same AtKinds (λ a x y h k. subst (λ z. AtKinds a z) (sym k) h) to_views to_last)

    exact_on : ExactFrom u levels last f b heap
    exact_on = exact_from u levels last f b heap c_gives

  exact_on_its_heap : ExactFrom u levels last f b (heap_for u.layout (is_lifted (levels f.name)))
  exact_on_its_heap =
      exact_on its_heap (heap_can_be u.layout lifted b.memory whole.typed.layout begin.tagged) on_its_heap

  exact_on_bytes : ExactFrom u levels last f b OnBytes
  exact_on_bytes = exact_on OnBytes begin.tagged on_bytes

pub chain_is_exact : (u : TypedUnit) (levels : Name → Level) (generated flat : SimplUnit)
    (local heaps words last : FinalUnit) → IsChain u levels generated flat local heaps words last →
    IsWhole u levels flat local words last → IsExact u levels last
chain_is_exact u levels generated flat local heaps words last chain whole x f e =
    let there = subst (λ y. typed_fn u.functions y ≡ Some f) (sym (found_name u.functions x f e)) e in
    record {
      on_its_heap = exact_on_its_heap u levels generated flat local heaps words last chain whole f there;
      on_bytes = λ lifted. exact_on_bytes u levels generated flat local heaps words last chain whole f there;
    }
