-- When abstract programs are exact against C: a program fails where, and only where, the C hits what its level watches, and
-- otherwise the C hits nothing at all and both have the same results. (AutoCorres has one half of this, its refinement
-- theorem.) A bound is a number of turns and a limit of nested calls, or none. C trees stand against sets of results; nothing
-- between them is mentioned.
use Rattle.std.specs.Prelude.{◌≡◌, ℕ, true, List, [], ◌∷◌, Option, Some, None}
use Rattle.correspondence.specs.Outcome.{Done, Failed, Ends}
use Rattle.c_values.specs.Name.{Name}
use Rattle.c_values.specs.Types.{Target}
use Rattle.c_values.specs.Value.{Value}
use Rattle.c_values.specs.Layout.{Layout}
use Rattle.c_values.specs.Choice.{Choice}
use Rattle.c_memory.specs.Memory.{Memory}
use Rattle.c_memory.specs.Tags.{IsWellTagged}
use Rattle.c_memory.specs.Footprint.{KeepsMemory}
use Rattle.c_memory.specs.TypedHeap.{view}
use Rattle.c_memory.specs.Heap.{Heap, OnBytes}
use Rattle.expression_lang.specs.Sort.{Level, Kind, is_lifted}
use Rattle.expression_lang.specs.States.{AreGlobals, state_with}
use Rattle.expression_lang.specs.View.{view_at, views_at}
use Rattle.expression_lang.specs.Signature.{kinds_of, result_kind}
use Rattle.expression_lang.specs.GuardKind.{GuardKind}
use Rattle.expression_lang.specs.Machine.{Returned}
use Rattle.monad_lang.specs.Program.{FinalUnit, FinalFn}
use Rattle.monad_lang.specs.Run.{Answer, Failure, program_runs}
pub use Rattle.c_memory.specs.LevelHeap.{heap_for}
use Rattle.c_lang.specs.Typed.{TypedUnit, TypedFn, typed_fn}
use Rattle.c_meaning.specs.CRun.{c_runs, plain}
use Rattle.c_meaning.specs.Fitting.{AreOfTypes}
use Rattle.c_meaning.specs.Kinds.{variables}

-- where runs of a function begin: at a bound, with a choice, from a memory, values of the globals and arguments
pub record Begin : Type 0 where
  pub turns : ℕ
  pub depth : Option ℕ
  pub choice : Choice
  pub memory : Memory
  pub globals : Name → Value
  pub arguments : List Value

-- a memory that is well-tagged, and values of the right types
pub record IsBegin (u : TypedUnit) (f : TypedFn) (b : Begin) : Type 0 where
  pub tagged : IsWellTagged u.layout b.memory
  pub globals : AreGlobals u.layout u.globals b.globals
  pub arguments : AreOfTypes u.layout f.params b.arguments

-- the C run of a function, watched by levels
abbrev pub c_ends : TypedUnit → (Name → Level) → TypedFn → Begin → Ends Returned GuardKind
c_ends u watch f b = c_runs u watch b.choice b.turns b.depth (record { name = f.name; arguments = b.arguments; state = state_with (OnBytes b.memory) b.globals })

-- the abstract program of a function, from a heap, the arguments being seen at the parameters' kinds
abbrev pub program_ends : TypedUnit → Level → FinalUnit → TypedFn → Begin → Heap → Ends Answer Failure
program_ends u level a f b h =
    program_runs a b.choice b.turns b.depth (record { name = f.name; arguments = views_at (kinds_of (variables u.layout.target level f.params)) b.arguments; state = state_with h b.globals })

abbrev pub Fails : Ends Answer Failure → Type 0
Fails p = p (Failed tt)

abbrev pub IsUndefined : Ends Returned GuardKind → Type 0
IsUndefined p = (k : GuardKind) × p (Failed k)

-- the values of a program that stand for a C result
abbrev pub seen : Option Kind → Option Value → List Value
seen (Some k) (Some v) = view_at k v ∷ []
seen _ _ = []

-- some C run returns a result of this view, with a memory of this heap, and these globals
pub record ReturnsAs (l : Layout) (result : Option Kind) (heap : Memory → Heap) (p : Ends Returned GuardKind) (a : Answer) : Type 0 where
  pub value : Option Value
  pub memory : Memory
  pub returns : p (Done (record { result = value; state = state_with (OnBytes memory) a.state.globals }))
  pub values : a.values ≡ seen result value
  pub heap_is : a.state.heap ≡ heap memory

-- what holds of the runs that begin at one place, from a heap, each memory being seen as a heap
pub record ExactFrom (u : TypedUnit) (levels : Name → Level) (a : FinalUnit) (f : TypedFn) (b : Begin) (heap : Memory → Heap) : Type 0 where
  -- the program fails exactly where some run of the C hits what the levels watch
  pub fails : Fails (program_ends u (levels f.name) a f b (heap b.memory)) → IsUndefined (c_ends u levels f b)
  pub fails_back : IsUndefined (c_ends u levels f b) → Fails (program_ends u (levels f.name) a f b (heap b.memory))
  -- where it doesn't fail, no run of the C is undefined at all
  pub defined : (Fails (program_ends u (levels f.name) a f b (heap b.memory)) → ⊥) → IsUndefined (c_ends u plain f b) → ⊥
  -- where it doesn't fail, its results are the views of what runs of the C return, and no others
  pub results : (Fails (program_ends u (levels f.name) a f b (heap b.memory)) → ⊥) → (r : Answer) → program_ends u (levels f.name) a f b (heap b.memory) (Done r) → ReturnsAs u.layout (result_kind u.layout.target (levels f.name) f.result) heap (c_ends u plain f b) r
  pub results_back : (Fails (program_ends u (levels f.name) a f b (heap b.memory)) → ⊥) → (r : Answer) → ReturnsAs u.layout (result_kind u.layout.target (levels f.name) f.result) heap (c_ends u plain f b) r → program_ends u (levels f.name) a f b (heap b.memory) (Done r)
  -- such a return keeps the memory's tags, and what a function on typed heaps can't reach
  pub keeps : (Fails (program_ends u (levels f.name) a f b (heap b.memory)) → ⊥) → (r : Returned) (m : Memory) → c_ends u plain f b (Done r) → r.state.heap ≡ OnBytes m → KeepsMemory u.layout (is_lifted (levels f.name)) b.memory m

-- An abstract program is exact against a C function: from the heap of its level, and, where that is a typed heap, from the
-- bytes themselves too, so that a caller on bytes finds every byte as the C leaves it.
pub record Exact (u : TypedUnit) (levels : Name → Level) (a : FinalUnit) (f : TypedFn) : Type 0 where
  pub on_its_heap : (b : Begin) → IsBegin u f b → ExactFrom u levels a f b (heap_for u.layout (is_lifted (levels f.name)))
  pub on_bytes : is_lifted (levels f.name) ≡ true → (b : Begin) → IsBegin u f b → ExactFrom u levels a f b OnBytes

abbrev pub results_of : Option Kind → List Kind
results_of None = []
results_of (Some k) = k ∷ []

-- the program of a C function at a level: its name, and the kinds that the level gives its parameters and its result
pub record IsProgramOf (t : Target) (level : Level) (f : TypedFn) (g : FinalFn) : Type 0 where
  pub name : g.name ≡ f.name
  pub at_level : g.level ≡ level
  pub params : g.params ≡ variables t level f.params
  pub results : g.results ≡ results_of (result_kind t level f.result)

abbrev pub ArePrograms : Target → (Name → Level) → List TypedFn → List FinalFn → Type 0
ArePrograms t levels [] [] = Unit {0}
ArePrograms t levels (f ∷ fs) (g ∷ gs) = IsProgramOf t (levels f.name) f g × ArePrograms t levels fs gs
ArePrograms t levels [] (g ∷ gs) = ⊥
ArePrograms t levels (f ∷ fs) [] = ⊥

-- one program for each function of the unit, in its order, over its layout and its globals
pub record AreProgramsOf (u : TypedUnit) (levels : Name → Level) (a : FinalUnit) : Type 0 where
  pub layout : a.layout ≡ u.layout
  pub globals : a.globals ≡ u.globals
  pub functions : ArePrograms u.layout.target levels u.functions a.functions

-- of every function of the unit
abbrev pub IsExact : TypedUnit → (Name → Level) → FinalUnit → Type 0
IsExact u levels a = (x : Name) (f : TypedFn) → typed_fn u.functions x ≡ Some f → Exact u levels a f
