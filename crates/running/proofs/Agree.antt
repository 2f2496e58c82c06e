-- How both sides of a run agree, where the programs are exact.
use Rattle.std.proofs.Common.{◌≡◌, ℕ, List, refl, sym, ap, subst, ◌∙◌}
use Rattle.correspondence.specs.Outcome.{Outcome, Done, Failed, Stopped}
use Rattle.expression_lang.specs.GuardKind.{GuardKind}
use Rattle.expression_lang.specs.Machine.{Returned}
use Rattle.expression_lang.specs.Signature.{Invocation, kinds_of, result_kind}
use Rattle.expression_lang.specs.Sort.{Level, is_lifted}
use Rattle.expression_lang.specs.States.{state_with}
use Rattle.expression_lang.specs.View.{views_at}
use Rattle.c_values.specs.Name.{Name}
use Rattle.c_values.specs.Value.{Value}
use Rattle.c_values.specs.Choice.{Fill}
use Rattle.c_memory.specs.Memory.{Memory}
use Rattle.c_memory.specs.Heap.{OnBytes}
use Rattle.monad_lang.specs.Program.{FinalUnit}
use Rattle.monad_lang.specs.Run.{Answer}
use Rattle.monad_lang.proofs.OneEnd.{program_once}
use Rattle.c_lang.specs.Typed.{TypedUnit, TypedFn}
use Rattle.c_meaning.specs.CRun.{plain}
use Rattle.c_meaning.specs.Kinds.{variables}
use Rattle.c_meaning.proofs.OneEnd.{call_once}
use Rattle.exactness.specs.Exact.{Begin, IsBegin, Exact, ExactFrom, ReturnsAs, IsUndefined, Fails, c_ends, program_ends, heap_for}
use Rattle.program_runs.specs.WideRun as W
use Rattle.program_runs.proofs.Narrows.{call_narrows}
use Rattle.running.specs.Runs.{wide_ends}
use Rattle.std.specs.Prelude.{Some}

abbrev given_by : Answer → Outcome Answer W.Trouble → Answer
given_by q (Done r) = r
given_by q (Failed t) = q
given_by q (Stopped w) = q

done_same : (q r : Answer) (x : Outcome Answer W.Trouble) → x ≡ Done q → x ≡ Done r → q ≡ r
done_same q r x e h = ap (λ (o : Outcome Answer W.Trouble). given_by q o) (sym e) ∙ ap (λ (o : Outcome Answer W.Trouble). given_by q o) h

-- where a run begins under a fill number, with a limit of nested calls
abbrev pub filled : ℕ → ℕ → ℕ → Memory → (Name → Value) → List Value → Begin
filled turns depth fill m gs vs = record { turns = turns; depth = Some depth; choice = Fill fill; memory = m; globals = gs; arguments = vs }

module _ (u : TypedUnit) (levels : Name → Level) (a : FinalUnit) (f : TypedFn) (exact : Exact u levels a f)
    (turns depth fill : ℕ) (m : Memory) (gs : Name → Value) (vs : List Value) (begins : IsBegin u f (filled turns depth fill m gs vs)) where
  abbrev pub b : Begin
  b = filled turns depth fill m gs vs

  abbrev pub level : Level
  level = levels f.name

  from : ExactFrom u levels a f b (heap_for u.layout (is_lifted level))
  from = exact.on_its_heap b begins

  abbrev pub call : Invocation
  call = record { name = f.name; arguments = views_at (kinds_of (variables u.layout.target level f.params)) b.arguments; state = state_with (heap_for u.layout (is_lifted level) b.memory) b.globals }

  narrows : W.Narrows (W.wide_program_runs a (Fill fill) turns (Some depth) call) (program_ends u level a f b (heap_for u.layout (is_lifted level) b.memory))
  narrows = call_narrows a (Fill fill) turns (Some depth) call

  done_is_no_failure : (x y : Outcome Answer (Unit {0})) (r : Answer) → x ≡ Done r → y ≡ Failed tt → x ≡ y → ⊥
  done_is_no_failure x y r e h k = absurd cc

  sound : (r : Answer) → program_ends u level a f b (heap_for u.layout (is_lifted level) b.memory) (Done r) →
      Fails (program_ends u level a f b (heap_for u.layout (is_lifted level) b.memory)) → ⊥
  sound r h k =
      let once = program_once a fill turns (Some depth) call in
      done_is_no_failure (Done r) (Failed tt) r refl refl (once.only (Done r) h ∙ sym (once.only (Failed tt) k))

  one_end : (c : Outcome Returned GuardKind) → c_ends u plain f b c → (o : Outcome Returned GuardKind) → c_ends u plain f b o → c ≡ o
  one_end c h o k =
      let once = call_once u plain fill turns (Some depth) (record { name = f.name; arguments = b.arguments; state = state_with (OnBytes b.memory) b.globals }) in
      once.only c h ∙ sym (once.only o k)

  module _ (c : Outcome Returned GuardKind) (c_is : c_ends u plain f b c) where
    returned : (r : Answer) → ReturnsAs u.layout (result_kind u.layout.target level f.result) (heap_for u.layout (is_lifted level)) (c_ends u plain f b) r →
        ReturnsAs u.layout (result_kind u.layout.target level f.result) (heap_for u.layout (is_lifted level)) (λ end. c ≡ end) r
    returned r h = record {
      value = h.value;
      memory = h.memory;
      returns = one_end c c_is (Done (record { result = h.value; state = state_with (OnBytes h.memory) r.state.globals })) h.returns;
      values = h.values;
      heap_is = h.heap_is;
    }

    pub agree : (p : Outcome Answer W.Trouble) → wide_ends u level a f b (heap_for u.layout (is_lifted level) b.memory) p → (r : Answer) → p ≡ Done r →
        ReturnsAs u.layout (result_kind u.layout.target level f.result) (heap_for u.layout (is_lifted level)) (λ end. c ≡ end) r
    agree (Done q) h r e = subst (λ (x : Answer). ReturnsAs u.layout (result_kind u.layout.target level f.result) (heap_for u.layout (is_lifted level)) (λ end. c ≡ end) x) (done_same q r (Done q) refl e)
        (returned q (from.results (sound q (narrows.done q h)) q (narrows.done q h)))
    agree _ h r e = absurd cc

  pub fail : (p : Outcome Answer W.Trouble) → wide_ends u level a f b (heap_for u.layout (is_lifted level) b.memory) p → p ≡ Failed W.Fails → IsUndefined (c_ends u levels f b)
  fail (Failed W.Fails) h e = from.fails (narrows.fails h)
  fail _ h e = absurd cc
