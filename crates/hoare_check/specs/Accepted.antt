-- Triples that are accepted, and what holds of a derived program at one bound.
use Rattle.std.specs.Prelude.{◌≡◌, ℕ, ◌<◌, Bool, true, List, [], ◌∷◌, ◌++◌, map, Option, Some, None}
use Rattle.correspondence.specs.Outcome.{Done, Failed}
use Rattle.c_values.specs.Name.{Name, are_distinct}
use Rattle.c_values.specs.Value.{Value}
use Rattle.c_values.specs.Choice.{Choice}
use Rattle.expression_lang.specs.Expression.{Exp}
use Rattle.expression_lang.specs.Evaluation.{Env, State, holds}
use Rattle.expression_lang.specs.Sort.{Scalar, sort_of_kind, is_lifted}
use Rattle.expression_lang.specs.Sorted.{names_with}
use Rattle.expression_lang.specs.Signature.{bound, names_of, kinds_of}
use Rattle.expression_lang.specs.States.{IsEnvironment, AreGlobals}
use Rattle.expression_lang.specs.View.{AreOfKinds}
use Rattle.ac_expr.specs.Fact.{Fact, Whole, AllSay}
use Rattle.monad_lang.specs.Program.{Mon, FinalFn, FinalUnit, final_fn}
use Rattle.monad_lang.specs.Run.{Answer, runs, functions_below, program_runs}
use Rattle.monad_lang.specs.Reach.{AtEach}
use Rattle.monad_lang.specs.Steady.{WriteCovered, CallInRange}
use Rattle.monad_lang.specs.Calls.{calls_only}
use Rattle.monad_lang.specs.Sorted.{one_for_each, scalars_given}
use Rattle.exactness.specs.SteadyUnits.{is_on_typed_heaps}
use Rattle.rule_trees.specs.RuleTree.{Accepts}
use Rattle.exactness.specs.Triple.{Assertions, AreAssertions, AreLogicals, MeetsBefore, MeetsAfter, IsHeapFor, logical_names, logical_sorts, result_names}
use Rattle.triple_lang.specs.Triple.{Triple}
use Rattle.triple_lang.specs.Deriv.{Ground, Names, derived}
use Rattle.hoare_check.specs.DeriveTable.{setting, scope, table}

abbrev pub ground : FinalUnit → List Triple → FinalFn → Ground
ground u ts f = record { unit = u; lifted = is_lifted f.level; triples = map (λ t. t.assertions) ts }

-- the parameters and the logical variables
abbrev pub names_before : FinalFn → Assertions → Names
names_before f t =
    names_with (names_of f.params ++ logical_names t.logicals) (map sort_of_kind (kinds_of f.params) ++ logical_sorts t.logicals) (λ x. None)

-- the postcondition of the result is derived of the function's program from the precondition
pub record IsAccepted (u : FinalUnit) (ts : List Triple) (t : Triple) : Type 0 where
  pub function : FinalFn
  pub found : final_fn u.functions t.assertions.function ≡ Some function
  pub assertions : AreAssertions u function t.assertions
  pub derivation : Accepts (table (ground u ts function)) t.derivation
      (derived (names_before function t.assertions) (Whole t.assertions.before ∷ []) function.body (result_names function.results) t.assertions.after)

abbrev pub AllAccepted : FinalUnit → List Triple → List Triple → Type 0
AllAccepted u all [] = Unit {0}
AllAccepted u all (t ∷ ts) = IsAccepted u all t × AllAccepted u all ts

-- Bounds

-- a triple holds of a function's program at one bound
pub record HoldsAt (u : FinalUnit) (p : Choice) (turns : ℕ) (t : Assertions) : Type 0 where
  pub holds_at : (f : FinalFn) → final_fn u.functions t.function ≡ Some f → (depth : Option ℕ) (s : State) (logicals arguments : List Value) →
      IsHeapFor u.layout (is_lifted f.level) s.heap → AreGlobals u.layout u.globals s.globals → AreLogicals t.logicals logicals →
      AreOfKinds (kinds_of f.params) arguments → MeetsBefore u.layout t (names_of f.params) arguments logicals s →
      (program_runs u p turns depth (record { name = f.name; arguments = arguments; state = s }) (Failed tt) → ⊥)
      × ((r : Answer) → program_runs u p turns depth (record { name = f.name; arguments = arguments; state = s }) (Done r) → MeetsAfter u.layout t r.values logicals r.state)

abbrev pub AllHoldAt : FinalUnit → Choice → ℕ → List Assertions → Type 0
AllHoldAt u p turns [] = Unit {0}
AllHoldAt u p turns (t ∷ ts) = HoldsAt u p turns t × AllHoldAt u p turns ts

-- all triples hold at all smaller bounds
abbrev pub HoldBelow : Ground → Choice → ℕ → Type 0
HoldBelow k p n = (i : ℕ) → i < n → AllHoldAt k.unit p i k.triples

-- a write of a typed heap has a covered root and indices in range, and a call has arguments of its function's kinds
abbrev pub IsFine : FinalUnit → Mon → Env → State → Type 0
IsFine u m env s = WriteCovered u.layout m env s × CallInRange u m env s

-- where a program begins
pub record Begins (k : Ground) (ns : Names) (fs : List Fact) (env : Env) (s : State) : Type 0 where
  pub environment : IsEnvironment (scope k ns) env
  pub heap : IsHeapFor k.unit.layout k.lifted s.heap
  pub globals : AreGlobals k.unit.layout k.unit.globals s.globals
  pub facts : AllSay k.unit.layout env s fs

-- at the bound the program doesn't fail, and what it gives meets the assertion, under the names
pub record Meets (k : Ground) (p : Choice) (n : ℕ) (m : Mon) (xs : List Name) (q : Exp) (env : Env) (depth : Option ℕ) (s : State) : Type 0 where
  pub lasts : runs k.unit.layout p m env depth (functions_below k.unit p n) s (Failed tt) → ⊥
  pub gives : (a : Answer) → runs k.unit.layout p m env depth (functions_below k.unit p n) s (Done a) →
      holds k.unit.layout (bound xs a.values env) a.state q ≡ true

-- from wherever the facts hold, as long as all writes and calls that it reaches are fine
abbrev pub IsDerived : Ground → Choice → ℕ → Names → List Fact → Mon → List Name → Exp → Type 0
IsDerived k p n ns fs m xs q = (env : Env) (depth : Option ℕ) (s : State) → Begins k ns fs env s →
    AtEach k.unit.layout p (IsFine k.unit) m env depth (functions_below k.unit p n) s → Meets k p n m xs q env depth s

-- One program

-- what its derivations stand on: functions on typed heaps or on bytes, and triples
abbrev pub ground_with : FinalUnit → Bool → List Triple → Ground
ground_with u lifted ts = record { unit = u; lifted = lifted; triples = map (λ t. t.assertions) ts }

-- a triple's function is there, and its assertions speak of what they may
pub record IsTriple (u : FinalUnit) (t : Assertions) : Type 0 where
  pub function : FinalFn
  pub found : final_fn u.functions t.function ≡ Some function
  pub assertions : AreAssertions u function t

abbrev pub AreTriples : FinalUnit → List Assertions → Type 0
AreTriples u [] = Unit {0}
AreTriples u (t ∷ ts) = IsTriple u t × AreTriples u ts

-- in a function on typed heaps the program calls functions on typed heaps alone
abbrev pub CallsLifted : Ground → Mon → Type 0
CallsLifted k m = k.lifted ≡ true → calls_only (λ x. is_on_typed_heaps (final_fn k.unit.functions x)) m ≡ true

-- the program is well-sorted, and its values have distinct names
pub record IsSortedFor (k : Ground) (ns : Names) (m : Mon) (xs : List Name) : Type 0 where
  pub given : List Scalar
  pub sorted : scalars_given (setting k ns) m ≡ Some given
  pub one_each : one_for_each xs given ≡ true
  pub distinct : are_distinct xs ≡ true
