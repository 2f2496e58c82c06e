-- A triple that holds of an exact program holds of the C that it stands for.
use Rattle.std.proofs.Common.{◌≡◌, Bool, true, false, cond, List, [], ◌∷◌, Some, refl, sym, ap, ◌∙◌, subst, subst₂}
use Rattle.correspondence.specs.Outcome.{Outcome, Done, Failed}
use Rattle.c_values.specs.Name.{Name, same_name}
use Rattle.c_values.specs.Value.{Value}
use Rattle.c_values.specs.Layout.{Layout, IsLayout}
use Rattle.c_values.proofs.Options.{some_is}
use Rattle.c_memory.specs.Memory.{Memory}
use Rattle.c_memory.specs.Tags.{IsWellTagged}
use Rattle.c_memory.specs.Heap.{Heap, OnBytes}
use Rattle.c_memory.specs.LevelHeap.{heap_for}
use Rattle.expression_lang.specs.Evaluation.{State}
use Rattle.expression_lang.specs.Sort.{Level, is_lifted}
use Rattle.expression_lang.specs.Signature.{Binder, names_of, kinds_of, result_kind}
use Rattle.expression_lang.specs.States.{AreGlobals, state_with}
use Rattle.expression_lang.specs.View.{AreOfKinds, views_at}
use Rattle.expression_lang.specs.Machine.{Returned}
use Rattle.monad_lang.specs.Program.{FinalFn, FinalUnit, final_fn}
use Rattle.monad_lang.specs.Run.{Answer, Failure, program_runs}
use Rattle.c_lang.specs.Typed.{TypedUnit, TypedFn, typed_fn}
use Rattle.c_meaning.specs.CRun.{plain}
use Rattle.c_meaning.specs.Kinds.{variables}
use Rattle.exactness.specs.Exact.{Begin, IsBegin, ExactFrom, IsExact, ArePrograms, AreProgramsOf, IsProgramOf, IsUndefined, c_ends, program_ends, seen}
use Rattle.exactness.specs.Triple.{Assertions, AreLogicals, IsHeapFor, MeetsBefore, MeetsAfter, HoldsOfProgram, HoldsOfC}
use Rattle.hoare_check.proofs.KindSorts.{views_are_of_kinds}
use Rattle.hoare_check.proofs.Callee.{viewed_heap}

-- the program of a C function, in its unit
pub record ProgramThere (u : TypedUnit) (levels : Name → Level) (fs : List FinalFn) (x : Name) (f : TypedFn) : Type 0 where
  pub program : FinalFn
  pub found : final_fn fs x ≡ Some program
  pub is : IsProgramOf u.layout.target (levels f.name) f program

program_there : (u : TypedUnit) (levels : Name → Level) (cs : List TypedFn) (fs : List FinalFn) → ArePrograms u.layout.target levels cs fs → (x : Name)
    (f : TypedFn) →
    typed_fn cs x ≡ Some f → ProgramThere u levels fs x f
program_there u levels (c ∷ cs) (g ∷ gs) h x f e = by_test (program_there u levels cs gs h.1 x f) (same_name c.name x) e (ap (λ y. same_name y x) h.0.name)
  where
    by_test : (typed_fn cs x ≡ Some f → ProgramThere u levels gs x f) → (b : Bool) → cond b (Some c) (typed_fn cs x) ≡ Some f → same_name g.name x ≡ b →
        ProgramThere u levels (g ∷ gs) x f
    by_test rest true k same = record {
      program = g;
      found = ap (λ b. cond b (Some g) (final_fn gs x)) same;
      is = subst (λ d. IsProgramOf u.layout.target (levels d.name) d g) (some_is k) h.0;
    }
    by_test rest false k same = let r = rest k in record { program = r.program; found = ap (λ b. cond b (Some g) (final_fn gs x)) same ∙ r.found; is = r.is }
program_there u levels [] gs h x f e = absurd cc
program_there u levels (c ∷ cs) [] h x f e = absurd h

-- the heap at a level, of a well-tagged memory
heap_at_level : (l : Layout) → IsLayout l → (b : Bool) (m : Memory) → IsWellTagged l m → IsHeapFor l b (heap_for l b m)
heap_at_level l laid true m h = viewed_heap l m laid h
heap_at_level l laid false m h = h

-- One run of the C, from where the precondition is met
module _ (u : TypedUnit) (laid : IsLayout u.layout) (levels : Name → Level) (a : FinalUnit) (t : Assertions) (program : HoldsOfProgram a t)
    (of_unit : AreProgramsOf u levels a)
    (f : TypedFn) (g : ProgramThere u levels a.functions t.function f) (b : Begin) (logicals : List Value) (is : IsBegin u f b)
    (exact : ExactFrom u levels a f b (heap_for u.layout (is_lifted (levels f.name)))) (are : AreLogicals t.logicals logicals) where
  abbrev level : Level
  level = levels f.name

  abbrev params : List Binder
  params = variables u.layout.target level f.params

  abbrev heap_of : Memory → Heap
  heap_of m = heap_for u.layout (is_lifted level) m

  abbrev start : State
  start = state_with (heap_of b.memory) b.globals

  abbrev arguments : List Value
  arguments = views_at (kinds_of params) b.arguments

  abbrev ends : Outcome Answer Failure → Type 0
  ends o = program_ends u level a f b (heap_of b.memory) o

  -- what the triple says of the program, from the view of the memory
  abbrev ProgramMeets : Name → Layout → Type 0
  ProgramMeets x l =
      (program_runs a b.choice b.turns b.depth (record { name = x; arguments = arguments; state = start }) (Failed tt) → ⊥)
      × ((r : Answer) → program_runs a b.choice b.turns b.depth (record { name = x; arguments = arguments; state = start }) (Done r) →
      MeetsAfter l t r.values logicals r.state)

  program_meets : MeetsBefore u.layout t (names_of params) arguments logicals start → ProgramMeets f.name u.layout
  program_meets before =
      let heap = subst₂ (λ l c. IsHeapFor l c start.heap) (sym of_unit.layout) (sym (ap is_lifted g.is.at_level))
      (heap_at_level u.layout laid (is_lifted level) b.memory is.tagged) in
      let globals = subst₂ (λ l vs. AreGlobals l vs b.globals) (sym of_unit.layout) (sym of_unit.globals) is.globals in
      let kinds = subst (λ bs. AreOfKinds (kinds_of bs) arguments) (sym g.is.params) (views_are_of_kinds u.layout level f.params b.arguments is.arguments) in
      let met = subst₂ (λ l bs. MeetsBefore l t (names_of bs) arguments logicals start) (sym of_unit.layout) (sym g.is.params) before in
      subst₂ ProgramMeets g.is.name of_unit.layout
      (program.holds_at g.program g.found b.turns b.depth b.choice start logicals arguments heap globals are kinds met)

  c_meets : MeetsBefore u.layout t (names_of params) arguments logicals start →
      (IsUndefined (c_ends u plain f b) → ⊥)
      × ((r : Returned) (m : Memory) → c_ends u plain f b (Done r) → r.state.heap ≡ OnBytes m →
      MeetsAfter u.layout t (seen (result_kind u.layout.target level f.result) r.result) logicals (state_with (heap_of m) r.state.globals))
  c_meets before =
      let met = program_meets before in (
        exact.defined met.0,
        λ r m returns e.
            let at : Returned = record { result = r.result; state = state_with (OnBytes m) r.state.globals } in
            let same : r ≡ at = ap (λ h. let d : Returned = record { result = r.result; state = state_with h r.state.globals } in d) e in
            let answer : Answer = record {
              values = seen (result_kind u.layout.target level f.result) r.result;
              state = state_with
                  (heap_of m) r.state.globals;
            } in
            met.1 answer (exact.results_back met.0 answer
            (record { value = r.result; memory = m; returns = subst (λ d. c_ends u plain f b (Done d)) same returns; values = refl; heap_is = refl })),
      )

-- a triple that holds of the programs holds of the C functions that they are exact against
pub triple_of_c : (u : TypedUnit) → IsLayout u.layout → (levels : Name → Level) (a : FinalUnit) → AreProgramsOf u levels a → IsExact u levels a →
    (t : Assertions) →
    HoldsOfProgram a t → HoldsOfC u levels t
triple_of_c u laid levels a of_unit exact t program = record {
  holds_at = λ f found b logicals is are before.
      let there = program_there u levels u.functions a.functions of_unit.functions t.function f found in
      c_meets u laid levels a t program of_unit f there b logicals is ((exact t.function f found).on_its_heap b is) are before;
}
