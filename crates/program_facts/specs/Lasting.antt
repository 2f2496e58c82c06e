-- Runs keep sorts: what a well-sorted program gives is of its scalars, the state after it is one that can be, and the heap keeps
-- its tags.
use Rattle.std.specs.Prelude.{◌≡◌, ◌&&◌, ℕ, Bool, true, List, [], ◌∷◌, map, Option, Some, None}
use Rattle.correspondence.specs.Always.{Always}
use Rattle.c_values.specs.Name.{Name}
use Rattle.c_values.specs.Value.{Value}
use Rattle.c_values.specs.Layout.{Layout, GlobalVar, global_type}
use Rattle.c_values.specs.Choice.{Choice}
use Rattle.c_memory.specs.Heap.{heap_tags}
use Rattle.expression_lang.specs.Sort.{Scalar, Kind, sort_of_kind}
use Rattle.expression_lang.specs.Sorted.{names_with, result_scalars}
use Rattle.expression_lang.specs.Signature.{Signature, Invocation, signature, names_of, kinds_of}
use Rattle.expression_lang.specs.Evaluation.{State}
use Rattle.expression_lang.specs.States.{IsOfSort, IsState}
use Rattle.monad_lang.specs.Program.{FinalFn, FinalUnit}
use Rattle.monad_lang.specs.Sorted.{Setting, scalars_given, are_scalars, signature_of, has_few}
use Rattle.monad_lang.specs.Run.{Answer, Runs, functions_below, program_runs}

-- one value of each scalar
abbrev pub AreOfSorts : List Scalar → List Value → Type 0
AreOfSorts [] [] = Unit {0}
AreOfSorts (c ∷ cs) (v ∷ vs) = IsOfSort c v × AreOfSorts cs vs
AreOfSorts [] (v ∷ vs) = ⊥
AreOfSorts (c ∷ cs) [] = ⊥

-- the heap has the tags that it had
abbrev pub KeepsTags : State → Answer → Type 0
KeepsTags s a = heap_tags a.state.heap ≡ heap_tags s.heap

-- a function keeps the tags, whatever it is called with, and so do functions at each bound
abbrev pub FunctionKeepsTags : Runs → Type 0
FunctionKeepsTags f = (depth : Option ℕ) (c : Invocation) → Always (KeepsTags c.state) (f depth c)

abbrev pub AllKeepTags : List Runs → Type 0
AllKeepTags [] = Unit {0}
AllKeepTags (f ∷ fs) = FunctionKeepsTags f × AllKeepTags fs

-- an answer of a run that began in the state s
pub record Lasts (l : Layout) (vs : List GlobalVar) (cs : List Scalar) (s : State) (a : Answer) : Type 0 where
  pub values : AreOfSorts cs a.values
  pub state : IsState l vs a.state
  pub tags : KeepsTags s a

-- A function, called with arguments of its parameters' sorts in a state that can be, gives values of its result's sort, a state
-- that can be, and the tags.
abbrev pub FunctionLasts : Layout → List GlobalVar → (Kind → Scalar) → List Signature → Runs → Type 0
FunctionLasts l vs sort_for fs f =
    (depth : Option ℕ) (c : Invocation) (g : Signature) → signature fs c.name ≡ Some g →
    AreOfSorts (map sort_for (kinds_of g.params)) c.arguments → IsState l vs c.state →
    Always (Lasts l vs (result_scalars sort_for g.result) c.state) (f depth c)

-- at each bound
abbrev pub AllLast : Layout → List GlobalVar → (Kind → Scalar) → List Signature → List Runs → Type 0
AllLast l vs sort_for fs [] = Unit {0}
AllLast l vs sort_for fs (f ∷ below) = FunctionLasts l vs sort_for fs f × AllLast l vs sort_for fs below

-- the setting of a program of the unit, where these names are in scope and names have these sorts at their kinds
abbrev pub setting_in : (Kind → Scalar) → FinalUnit → (Name → Option Scalar) → Setting
setting_in sort_for u names = record {
  scope = record { layout = u.layout; names = names; globals = global_type u.globals };
  functions = map signature_of u.functions;
  sort_for = sort_for;
}

-- that of a function's program
abbrev pub setting_for : (Kind → Scalar) → FinalUnit → FinalFn → Setting
setting_for sort_for u f =
    setting_in sort_for u (names_with (names_of f.params) (map sort_for (kinds_of f.params)) (λ x. None))

abbrev pub is_sorted_for : (Kind → Scalar) → FinalUnit → FinalFn → Bool
is_sorted_for sort_for u f =
    has_few f.results && are_scalars (map sort_for f.results) (scalars_given (setting_for sort_for u f) f.body)

abbrev pub are_sorted_for : (Kind → Scalar) → FinalUnit → List FinalFn → Bool
are_sorted_for sort_for u [] = true
are_sorted_for sort_for u (f ∷ fs) = is_sorted_for sort_for u f && are_sorted_for sort_for u fs

-- the functions of a unit, at every bound, choice and limit of nested calls
pub record UnitLasts (sort_for : Kind → Scalar) (u : FinalUnit) : Type 0 where
  pub below : (p : Choice) (n : ℕ) →
      AllLast u.layout u.globals sort_for (map signature_of u.functions) (functions_below u p n)
  pub runs : (p : Choice) (n : ℕ) →
      FunctionLasts u.layout u.globals sort_for (map signature_of u.functions) (program_runs u p n)

-- a call that can be: of a function that there is, with arguments of its parameters' sorts, in a state that can be
pub record CanBeCalled (l : Layout) (vs : List GlobalVar) (fs : List Signature) (c : Invocation) : Type 0 where
  pub function : Signature
  pub found : signature fs c.name ≡ Some function
  pub sorted : AreOfSorts (map sort_of_kind (kinds_of function.params)) c.arguments
  pub state : IsState l vs c.state
