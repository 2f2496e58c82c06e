-- Where programs begin, and where they end: in environments and states that can be, where what is shown from facts holds.
use Rattle.std.proofs.Common.{◌≡◌, ℕ, true, List, Option, Some, refl, ◌∙◌}
use Rattle.correspondence.specs.Outcome.{Done}
use Rattle.c_values.specs.Name.{Name}
use Rattle.c_values.specs.Choice.{Choice}
use Rattle.c_memory.specs.Heap.{heap_tags}
use Rattle.expression_lang.specs.Expression.{Exp}
use Rattle.expression_lang.specs.Evaluation.{Env, State, holds}
use Rattle.expression_lang.specs.Sort.{Scalar, Scope, sort_of, sort_of_kind, is_truth}
use Rattle.expression_lang.specs.Sorted.{names_with}
use Rattle.expression_lang.specs.Signature.{bound}
use Rattle.expression_lang.specs.States.{IsEnvironment, IsState}
use Rattle.ac_expr.specs.Fact.{Fact, AllSay}
use Rattle.monad_lang.specs.Program.{Mon, FinalUnit}
use Rattle.monad_lang.specs.Run.{Answer, runs, functions_below}
use Rattle.monad_lang.specs.Sorted.{scalars_given, IsWellFormed}
use Rattle.program_facts.specs.Lasting.{AreOfSorts, setting_in}
use Rattle.program_facts.proofs.RunsLast.{programs_last, sorted_at_kinds}
use Rattle.program_facts.proofs.SortedValues.{bound_sorted}
use Rattle.exactness.specs.Triple.{IsHeapFor}
use Rattle.triple_lang.specs.Deriv.{Ground, Names}
use Rattle.hoare_check.specs.DeriveTable.{setting, scope}
use Rattle.hoare_check.specs.Accepted.{Begins}
use Rattle.entailment.proofs.ShownHolds.{shown_holds}
use Rattle.hoare_check.proofs.Claims.{IsShown}
use Rattle.hoare_check.proofs.Naming.{AsMany, many_values}
use Rattle.hoare_check.proofs.KeepsHeaps.{heap_for, heap_of, programs_keep_heaps}

abbrev pub scope_in : FinalUnit → Names → Scope
scope_in u ns = (setting_in sort_of_kind u ns).scope

-- where a program ends: its values are of their sorts, and the state can be and has its tags
pub record Ended (k : Ground) (ns : Names) (xs : List Name) (cs : List Scalar) (env : Env) (s : State) (a : Answer) : Type 0 where
  pub environment : IsEnvironment (scope k (names_with xs cs ns)) (bound xs a.values env)
  pub many : AsMany xs a.values
  pub sorted : AreOfSorts cs a.values
  pub state : IsState k.unit.layout k.unit.globals a.state
  pub heap : IsHeapFor k.unit.layout k.lifted a.state.heap
  pub tags : heap_tags a.state.heap ≡ heap_tags s.heap

module _ (k : Ground) (formed : IsWellFormed k.unit) where
  pub state_of : (ns : Names) (fs : List Fact) (env : Env) (s : State) → Begins k ns fs env s → IsState k.unit.layout k.unit.globals s
  state_of ns fs env s b = record { heap = (heap_of k.unit.layout k.lifted s.heap b.heap).1; globals = b.globals }

  -- what is shown holds
  pub shown_there : (ns : Names) (fs : List Fact) (q : Exp) → IsShown k ns fs q → is_truth (sort_of (scope k ns) q) ≡ true →
      (env : Env) (s : State) → Begins k ns fs env s → holds k.unit.layout env s q ≡ true
  shown_there ns fs q h t env s b =
      shown_holds k.lifted (scope k ns) k.unit.globals formed.layout refl h.rules fs q h.shows t env s b.environment
      (state_of ns fs env s b) b.facts

  pub ended : (p : Choice) (n : ℕ) (ns : Names) (fs : List Fact) (m : Mon) (xs : List Name) (cs : List Scalar) → scalars_given (setting k ns) m ≡ Some cs →
      AsMany xs cs →
      (env : Env) (depth : Option ℕ) (s : State) → Begins k ns fs env s → (a : Answer) → runs k.unit.layout p m env depth (functions_below k.unit p n) s
      (Done a) → Ended k ns xs cs env s a
  ended p n ns fs m xs cs h many env depth s b a r =
      let l = programs_last sort_of_kind k.unit formed.layout
      (sorted_at_kinds k.unit k.unit.functions formed.functions) p n ns m cs h env b.environment depth s (state_of ns fs env s b) a r in
      record {
        environment = bound_sorted (scope k ns) xs cs a.values env l.values b.environment;
        many = many_values xs cs a.values many l.values;
        sorted = l.values;
        state = l.state;
        heap = heap_for k.unit.layout k.lifted a.state.heap
            (programs_keep_heaps k.unit p n m env depth s a r ∙ (heap_of k.unit.layout k.lifted s.heap b.heap).0) l.state.heap;
        tags = l.tags;
      }

  -- the next program begins where this one ended
  pub begins_there : (ns : Names) (xs : List Name) (cs : List Scalar) (env : Env) (s : State) (a : Answer) → Ended k ns xs cs env s a → (fs : List Fact) →
      AllSay k.unit.layout (bound xs a.values env) a.state fs → Begins k (names_with xs cs ns) fs (bound xs a.values env) a.state
  begins_there ns xs cs env s a e fs said = record { environment = e.environment; heap = e.heap; globals = e.state.globals; facts = said }
