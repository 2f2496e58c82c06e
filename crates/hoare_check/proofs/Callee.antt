-- What a triple says of the body of a called function, on the caller's heap: on the same kind of heap, or on bytes where the callee
-- is on typed heaps.
use Rattle.std.proofs.Common.{◌≡◌, ℕ, Bool, true, false, List, [], ◌∷◌, Option, Some, refl, sym, ap, ◌∙◌, subst}
use Rattle.correspondence.specs.Outcome.{Done, Failed}
use Rattle.correspondence.specs.Corresponds.{Corresponds}
use Rattle.c_values.specs.Value.{Value}
use Rattle.c_values.specs.Layout.{Layout, IsLayout}
use Rattle.c_values.specs.Choice.{Choice}
use Rattle.c_memory.specs.Memory.{Memory}
use Rattle.c_memory.specs.Tags.{AreTags, IsWellTagged}
use Rattle.c_memory.specs.TypedHeap.{view}
use Rattle.c_memory.specs.Heap.{Heap, OnBytes, OnTypes, heap_tags}
use Rattle.c_memory.proofs.Cells.{tags_viewed, view_fits}
use Rattle.expression_lang.specs.Expression.{Exp}
use Rattle.expression_lang.specs.Evaluation.{Env, State, holds}
use Rattle.expression_lang.specs.Sort.{is_lifted}
use Rattle.expression_lang.specs.Signature.{names_of, kinds_of, bound, no_env}
use Rattle.expression_lang.specs.States.{AreGlobals, state_with}
use Rattle.expression_lang.specs.View.{AreOfKinds}
use Rattle.monad_lang.specs.Program.{FinalFn, FinalUnit, final_fn}
use Rattle.monad_lang.specs.Run.{Answer, runs, functions_below}
use Rattle.monad_lang.specs.Steady.{Viewed, Alike}
use Rattle.exactness.specs.SteadyUnits.{begins, IsFunctionSteady}
use Rattle.exactness.specs.Triple.{Assertions, AreLogicals, MeetsBefore, MeetsAfter, IsHeapFor, logical_names, result_name}
use Rattle.hoare_check.specs.Accepted.{HoldsAt}
use Rattle.hoare_check.proofs.Triples.{body_meets}

-- the view of a well-tagged memory is a typed heap that can be
pub viewed_heap : (l : Layout) (m : Memory) → IsLayout l → IsWellTagged l m → IsHeapFor l true (OnTypes (view l m))
viewed_heap l m h tagged = (subst (λ ts. AreTags l ts) (sym (tags_viewed l m.bytes m.tags)) tagged.tags, view_fits l h m.bytes tagged.bytes m.tags tagged.tags)

memory_of : (l : Layout) (h : Heap) → IsHeapFor l false h → (m : Memory) × (h ≡ OnBytes m) × IsWellTagged l m
memory_of l (OnBytes m) k = (m, refl, k)
memory_of l (OnTypes cells) k = absurd k

-- it has one value on bytes and on the typed heaps that view them
abbrev pub IsOnBoth : Layout → Exp → Type 0
IsOnBoth l e = (env : Env) (s s' : State) → heap_tags s.heap ≡ heap_tags s'.heap → s.globals ≡ s'.globals → holds l env s e ≡ holds l env s' e

module _ (u : FinalUnit) (laid : IsLayout u.layout) (p : Choice) (i : ℕ) (f : FinalFn) (t : Assertions) (found : final_fn u.functions t.function ≡ Some f)
    (met : HoldsAt u p i t) (steady : IsFunctionSteady u f) (depth : Option ℕ) (s : State) (logicals arguments : List Value)
    (globals : AreGlobals u.layout u.globals s.globals)
    (are : AreLogicals t.logicals logicals) (kinds : AreOfKinds (kinds_of f.params) arguments)
    (before : MeetsBefore u.layout t (names_of f.params) arguments logicals s) where
  abbrev BodyMeets : State → Type 0
  BodyMeets r =
      (runs u.layout p f.body (begins f arguments) depth (functions_below u p i) r (Failed tt) → ⊥)
      × ((a : Answer) → runs u.layout p f.body (begins f arguments) depth (functions_below u p i) r (Done a) → MeetsAfter u.layout t a.values logicals a.state)

  on_bytes : (m : Memory) → s.heap ≡ OnBytes m → IsWellTagged u.layout m → is_lifted f.level ≡ true → IsOnBoth u.layout t.before → IsOnBoth u.layout t.after →
      BodyMeets s
  on_bytes m bytes tagged lifted one other = subst BodyMeets back (λ r. not_failed r, λ a r. gives a r)
    where
      back : state_with (OnBytes m) s.globals ≡ s
      back = ap (λ h. state_with h s.globals) (sym bytes)

      there : State
      there = state_with (OnTypes (view u.layout m)) s.globals

      same_tags : (n : Memory) → heap_tags (OnBytes n) ≡ heap_tags (OnTypes (view u.layout n))
      same_tags n = sym (tags_viewed u.layout n.bytes n.tags)

      alike : Corresponds (Viewed u.layout) Alike (runs u.layout p f.body (begins f arguments) depth (functions_below u p i) (state_with (OnBytes m) s.globals))
          (runs u.layout p f.body (begins f arguments) depth (functions_below u p i) there)
      alike = (steady.steady lifted p i depth arguments m s.globals kinds (record { heap = tagged; globals = globals })).alike

      before_there : MeetsBefore u.layout t (names_of f.params) arguments logicals there
      before_there =
          sym (one (bound (names_of f.params) arguments (bound (logical_names t.logicals) logicals no_env)) s there (ap heap_tags bytes ∙ same_tags m) refl)
          ∙ before

      on_types : BodyMeets there
      on_types =
          body_meets u p i f t found met depth there logicals arguments
          (subst (λ b. IsHeapFor u.layout b (OnTypes (view u.layout m))) (sym lifted) (viewed_heap u.layout m laid tagged)) globals are kinds before_there

      not_failed : runs u.layout p f.body (begins f arguments) depth (functions_below u p i) (state_with (OnBytes m) s.globals) (Failed tt) → ⊥
      not_failed r = on_types.0 (alike.failed tt r).2

      gives : (a : Answer) → runs u.layout p f.body (begins f arguments) depth (functions_below u p i) (state_with (OnBytes m) s.globals) (Done a) →
          MeetsAfter u.layout t a.values logicals a.state
      gives a r =
          let c = alike.done a r in
          let v = c.1 in
          let tags = ap heap_tags v.bytes ∙ same_tags v.memory ∙ sym (ap heap_tags v.types) in
          let env = bound (result_name ∷ []) a.values (bound (logical_names t.logicals) logicals no_env) in
          other env a.state c.0.state tags v.globals
          ∙ ap (λ vs. holds u.layout (bound (result_name ∷ []) vs (bound (logical_names t.logicals) logicals no_env)) c.0.state t.after) v.values
          ∙ on_types.1 c.0 c.2

  -- on the caller's heap
  pub callee_meets : (lifted : Bool) → IsHeapFor u.layout lifted s.heap → (lifted ≡ true → is_lifted f.level ≡ true) →
      (lifted ≡ false → is_lifted f.level ≡ true → IsOnBoth u.layout t.before × IsOnBoth u.layout t.after) → BodyMeets s
  callee_meets lifted heap needs both = by_level lifted (is_lifted f.level) refl heap needs both
    where
      same_level : (b : Bool) → is_lifted f.level ≡ b → IsHeapFor u.layout b s.heap → BodyMeets s
      same_level b e h = body_meets u p i f t found met depth s logicals arguments (subst (λ c. IsHeapFor u.layout c s.heap) (sym e) h) globals are kinds before

      by_level : (b c : Bool) → is_lifted f.level ≡ c → IsHeapFor u.layout b s.heap → (b ≡ true → is_lifted f.level ≡ true) →
          (b ≡ false → is_lifted f.level ≡ true → IsOnBoth u.layout t.before × IsOnBoth u.layout t.after) → BodyMeets s
      by_level true c e h needs both = same_level true (needs refl) h
      by_level false false e h needs both = same_level false e h
      by_level false true e h needs both =
          let m = memory_of u.layout s.heap h in
          let k = both refl e in on_bytes m.0 m.1 m.2 e k.0 k.1
