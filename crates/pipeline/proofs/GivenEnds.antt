-- A program is exact from where it begins, if what it gives corresponds to what the C run gives that its level watches.
use Rattle.std.proofs.Common.{◌≡◌, Bool, List, Option, sym, subst, ap, ap₂, ◌∙◌}
use Rattle.correspondence.specs.Outcome.{Done, Ends}
use Rattle.correspondence.specs.Corresponds.{Corresponds}
use Rattle.correspondence.specs.Related.{BothFail}
use Rattle.c_values.specs.Name.{Name}
use Rattle.c_values.specs.Value.{Value}
use Rattle.c_values.specs.Layout.{Layout}
use Rattle.c_memory.specs.Memory.{Memory}
use Rattle.c_memory.specs.Footprint.{KeepsMemory}
use Rattle.c_memory.specs.Heap.{Heap, OnBytes}
use Rattle.expression_lang.specs.Sort.{Level, Kind, is_lifted}
use Rattle.expression_lang.specs.States.{state_with}
use Rattle.expression_lang.specs.Signature.{result_kind}
use Rattle.expression_lang.specs.GuardKind.{GuardKind, Tag, Wrap}
use Rattle.expression_lang.specs.Machine.{Returned}
use Rattle.monad_lang.specs.Program.{FinalUnit}
use Rattle.monad_lang.specs.Run.{Answer, Failure}
use Rattle.rule_heap.proofs.Standing.{same_bytes}
use Rattle.c_lang.specs.Typed.{TypedUnit, TypedFn}
use Rattle.c_meaning.specs.CRun.{plain}
use Rattle.c_meaning.proofs.WatchedRun.{watched_same}
use Rattle.exactness.specs.Exact.{Begin, c_ends, program_ends, Fails, IsUndefined, seen, ReturnsAs, ExactFrom}

-- What a C run returns, from a memory, and what its program gives: the view of the result, at the heap of the memory after.
-- What can't be reached is kept.
pub record Gives (l : Layout) (lifted : Bool) (before : Memory) (heap : Memory → Heap) (result : Option Kind)
    (r : Returned) (a : Answer) : Type 0 where
  pub after : Memory
  pub bytes : r.state.heap ≡ OnBytes after
  pub heap_is : a.state.heap ≡ heap after
  pub values : a.values ≡ seen result r.result
  pub globals : a.state.globals ≡ r.state.globals
  pub keeps : KeepsMemory l lifted before after

abbrev returned : Option Value → Memory → (Name → Value) → Returned
returned v m globals = record { result = v; state = state_with (OnBytes m) globals }

returned_is : (r : Returned) (m : Memory) (globals : Name → Value) → r.state.heap ≡ OnBytes m → globals ≡ r.state.globals →
    r ≡ returned r.result m globals
returned_is r m globals h k =
    let on : Heap → (Name → Value) → Returned = λ x y. record { result = r.result; state = state_with x y } in ap₂ on h (sym k)

abbrev answer : List Value → Heap → (Name → Value) → Answer
answer vs h globals = record { values = vs; state = state_with h globals }

answer_is : (a a' : Answer) → a'.values ≡ a.values → a'.state.heap ≡ a.state.heap → a'.state.globals ≡ a.state.globals → a' ≡ a
answer_is a a' v h g =
    ap (λ vs. answer vs a'.state.heap a'.state.globals) v ∙ ap₂ (λ x globals. answer a.values x globals) h g

module _ (u : TypedUnit) (levels : Name → Level) (last : FinalUnit) (f : TypedFn) (b : Begin) (heap : Memory → Heap) where
  abbrev lifted : Bool
  lifted = is_lifted (levels f.name)

  abbrev result : Option Kind
  result = result_kind u.layout.target (levels f.name) f.result

  -- the C run as its levels watch it, the plain C run, and the program
  abbrev watched : Ends Returned GuardKind
  watched = c_ends u levels f b

  abbrev unwatched : Ends Returned GuardKind
  unwatched = c_ends u plain f b

  abbrev program : Ends Answer Failure
  program = program_ends u (levels f.name) last f b (heap b.memory)

  module _ (given : Corresponds (Gives u.layout lifted b.memory heap result) BothFail watched program) where
    fails : Fails program → IsUndefined watched
    fails h = let x = given.failed_back tt h in (x.0, x.2)

    fails_back : IsUndefined watched → Fails program
    fails_back h = let x = given.failed h.0 h.1 in x.2

    -- where the program doesn't fail
    module _ (passes : Fails program → ⊥) where
      plain_same : Corresponds (λ r q. r ≡ q) (λ j k. j ≡ k) watched unwatched
      plain_same =
          watched_same u levels b.choice b.turns b.depth _ (λ h. passes (fails_back (Tag, h)))
          (λ h. passes (fails_back (Wrap, h)))

      -- a plain run's return is watched
      return_watched : (r : Returned) → unwatched (Done r) → watched (Done r)
      return_watched r h = let x = plain_same.done_back r h in subst (λ q. watched (Done q)) x.1 x.2

      defined : IsUndefined unwatched → ⊥
      defined h = let x = plain_same.failed_back h.0 h.1 in passes (fails_back (x.0, x.2))

      results : (a : Answer) → program (Done a) → ReturnsAs u.layout result heap unwatched a
      results a h =
          let x = given.done_back a h in
          let y = plain_same.done x.0 x.2 in
          let is : x.0 ≡ returned x.0.result x.1.after a.state.globals =
          returned_is x.0 x.1.after a.state.globals x.1.bytes x.1.globals in
          record {
            value = x.0.result;
            memory = x.1.after;
            returns = subst (λ q. unwatched (Done q)) (sym y.1 ∙ is) y.2;
            values = x.1.values;
            heap_is = x.1.heap_is;
          }

      results_back : (a : Answer) → ReturnsAs u.layout result heap unwatched a → program (Done a)
      results_back a h =
          let r = returned h.value h.memory a.state.globals in
          let x = given.done r (return_watched r h.returns) in
          subst (λ q. program (Done q))
          (answer_is a x.0 (x.1.values ∙ sym h.values)
          (x.1.heap_is ∙ ap heap (sym (same_bytes h.memory x.1.after x.1.bytes)) ∙ sym h.heap_is) x.1.globals) x.2

      keeps : (r : Returned) (m : Memory) → unwatched (Done r) → r.state.heap ≡ OnBytes m → KeepsMemory u.layout lifted b.memory m
      keeps r m h e =
          let x = given.done r (return_watched r h) in
          subst (λ n. KeepsMemory u.layout lifted b.memory n) (same_bytes x.1.after m (sym x.1.bytes ∙ e)) x.1.keeps

    pub exact_from : ExactFrom u levels last f b heap
    exact_from = record {
      fails = fails;
      fails_back = fails_back;
      defined = defined;
      results = results;
      results_back = results_back;
      keeps = keeps;
    }
