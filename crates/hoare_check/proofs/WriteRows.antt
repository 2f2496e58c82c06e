-- The rules of writes: to a global, and to a typed heap.
use Rattle.std.proofs.Common.{◌≡◌, ℕ, Bool, true, false, List, [], Some, refl, sym, ◌∙◌, subst}
use Rattle.c_values.specs.Name.{Name}
use Rattle.c_values.specs.Types.{CType}
use Rattle.c_values.specs.Layout.{Layout}
use Rattle.c_values.specs.Choice.{Choice}
use Rattle.c_values.proofs.Options.{some_is}
use Rattle.c_memory.specs.TypedHeap.{TypedHeap}
use Rattle.c_memory.specs.Heap.{Heap, OnBytes, OnTypes}
use Rattle.expression_lang.specs.Expression.{Exp, Path}
use Rattle.expression_lang.specs.Evaluation.{Env, State, value, holds}
use Rattle.expression_lang.specs.Sorted.{names_with, program_sort, fits_place}
use Rattle.expression_lang.specs.Signature.{bound}
use Rattle.ac_expr.specs.Fact.{Fact}
use Rattle.monad_lang.specs.Program as M
use Rattle.monad_lang.specs.Program.{Place, Mon}
use Rattle.monad_lang.specs.Run.{written}
use Rattle.monad_lang.specs.Sorted.{place_sort, IsWellFormed}
use Rattle.monad_lang.proofs.Given.{fits_parts}
use Rattle.exactness.specs.Triple.{IsHeapFor}
use Rattle.entailment.specs.Table.{IsAssertion}
use Rattle.assertion_walks.specs.Written.{IsBeforeGlobal, IsBeforeWrite}
use Rattle.triple_lang.specs.Deriv.{Ground, Names}
use Rattle.hoare_check.specs.DeriveTable.{scope, Asserts}
use Rattle.hoare_check.specs.Accepted.{IsDerived}
use Rattle.hoare_check.proofs.GlobalWritten.{before_global}
use Rattle.hoare_check.proofs.HeapWritten.{before_write}
use Rattle.hoare_check.proofs.Claims.{Fits, IsShown}
use Rattle.hoare_check.proofs.Begun.{shown_there, state_of}
use Rattle.hoare_check.proofs.PlainRows.{asserted_sort, without_values}

pub cells_of : (l : Layout) (b : Bool) (h : Heap) → b ≡ true → IsHeapFor l b h → (cells : TypedHeap) × (h ≡ OnTypes cells)
cells_of l true (OnTypes cells) e k = (cells, refl)
cells_of l true (OnBytes m) e k = absurd k
cells_of l false h e k = absurd cc

module _ (k : Ground) (formed : IsWellFormed k.unit) (p : Choice) (n : ℕ) (ns : Names) (fs : List Fact) (xs : List Name)
    (q : Exp) where
  -- a well-sorted write gives no value
  record WriteFits (place : Place) (v : Exp) : Type 0 where
    placed : fits_place (place_sort (scope k ns) place) (program_sort (scope k ns) v) ≡ true
    none : xs ≡ []
    asserts : Asserts k ns q

  write_fits : (place : Place) (v : Exp) → Fits k ns (M.Write place v) xs q → WriteFits place v
  write_fits place v fit =
      let f = fits_parts (fits_place (place_sort (scope k ns) place) (program_sort (scope k ns) v)) (Some []) fit.given fit.sorted in
      let none : xs ≡ [] = without_values xs fit.given fit.one_each (some_is f.1) in
      record { placed = f.0; none = none; asserts = subst (λ ys. Asserts k (names_with ys fit.given ns) q) none fit.asserts }

  -- where the assertion holds after the write
  written_holds : (place : Place) (v : Exp) (env : Env) (s : State) → xs ≡ [] → holds k.unit.layout env
      (written k.unit.layout env s place (value k.unit.layout env s v)) q ≡ true →
      holds k.unit.layout (bound xs [] env) (written k.unit.layout env s place (value k.unit.layout env s v)) q ≡ true
  written_holds place v env s e h =
      subst (λ ys. holds k.unit.layout (bound ys [] env) (written k.unit.layout env s place (value k.unit.layout env s v)) q ≡ true) (sym e) h

  pub global_holds : (x : Name) (path : Path) (v e : Exp) → Asserts k ns e → IsBeforeGlobal x path v q e → IsShown k ns fs e → Fits k ns
      (M.Write (M.Global x path) v) xs q →
      IsDerived k p n ns fs (M.Write (M.Global x path) v) xs q
  global_holds x path v e asserts before shown fit env depth s b each =
      let w = write_fits (M.Global x path) v fit in
      let here = shown_there k formed ns fs e shown (asserted_sort k ns e asserts) env s b in
      let there = written_holds (M.Global x path) v env s w.none (sym (before_global k.unit.layout env s x path v q e before) ∙ here) in
      record { lasts = λ r. r; gives = λ a r. subst (λ c. holds k.unit.layout (bound xs c.values env) c.state q ≡ true) (sym r) there }

  pub heap_holds : (t : CType) (a : Exp) (path : Path) (v e : Exp) → k.lifted ≡ true → Asserts k ns e → IsBeforeWrite (scope k ns)
      (record { type = t; address = a; path = path }) v q e →
      IsShown k ns fs e → Fits k ns (M.Write (M.Written t a path) v) xs q → IsDerived k p n ns fs (M.Write (M.Written t a path) v) xs q
  heap_holds t a path v e lifted asserts before shown fit env depth s b each =
      let w = write_fits (M.Written t a path) v fit in
      let here = shown_there k formed ns fs e shown (asserted_sort k ns e asserts) env s b in
      let cells = cells_of k.unit.layout k.lifted s.heap lifted b.heap in
      let says = before_write (scope k ns) k.unit.globals formed.layout refl env b.environment s cells.0 cells.1
      (state_of k formed ns fs env s b) t a path v each.0 w.placed
      q e (subst (λ c. IsAssertion c (scope k ns) q) lifted w.asserts) before in
      let there = written_holds (M.Written t a path) v env s w.none (sym says ∙ here) in
      record { lasts = λ r. r; gives = λ c r. subst (λ d. holds k.unit.layout (bound xs d.values env) d.state q ≡ true) (sym r) there }
