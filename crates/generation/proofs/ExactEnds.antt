-- The ends of a C statement, and those of its command: what goes on ends normally, and a jump is an exception that its flag
-- tells apart.
use Rattle.std.proofs.Common.{◌≡◌, ℕ, zero, suc, true, false, List, [], ◌∷◌, Option, Some, None, ℤ, refl, sym, subst, ap, ◌∙◌}
use Rattle.std.specs.Prelude.{◌||◌}
use Rattle.correspondence.specs.Outcome.{Turns, Depth, Ends, done, choose}
use Rattle.correspondence.specs.Bound.{called}
use Rattle.correspondence.specs.Corresponds.{Corresponds, Paired}
use Rattle.correspondence.proofs.Corresponds.{done_corresponds, stop_corresponds}
use Rattle.c_values.specs.Choice.{Choice}
use Rattle.c_values.specs.Types.{CType}
use Rattle.c_values.specs.Word.{word}
use Rattle.c_values.specs.Value as V
use Rattle.c_values.specs.Layout.{Layout, IsLayout, GlobalVar}
use Rattle.expression_lang.specs.Sort.{Level}
use Rattle.expression_lang.specs.Signature.{Binder, Invocation, kind_at}
use Rattle.expression_lang.specs.GuardKind.{GuardKind}
use Rattle.simpl_lang.specs.Command.{kind_of}
use Rattle.simpl_lang.specs.Exec as X
use Rattle.expression_lang.specs.Machine.{Machine, Returned, with_local}
use Rattle.simpl_lang.specs.Exec.{Normal, Abrupt, execs, result_local, holds_on}
use Rattle.c_lang.specs.Typed as C
use Rattle.c_lang.specs.WellTyped.{Scope, Around, variable_type, are_globals, are_variables, is_result}
use Rattle.c_meaning.specs.CRun as R
use Rattle.c_meaning.specs.CRun.{Next, Broken, Continued, Returning, Runs, Ended, and_next}
use Rattle.generation.specs.Generate.{exception_local, returned, broken, continued, jump, stops_at, is_exception}
use Rattle.c_meaning.specs.Fitting.{IsResultOf, IsReturned, AreOfTypes}
use Rattle.expression_lang.specs.States.{IsState}
use Rattle.correspondence.proofs.Steps.{same_on_right, after_done}
use Rattle.generation.proofs.ExactGuards.{SameKind}
use Rattle.generation.proofs.ExactMachines.{Alike, alike_added}

abbrev pub Flagged : ℤ → Machine → Type 0
Flagged k n = n.locals exception_local ≡ V.Bits (word 32 k)

-- a value that is returned stands in the result's local
abbrev pub HoldsResult : Option V.Value → Machine → Type 0
HoldsResult None n = Unit {0}
HoldsResult (Some v) n = n.locals result_local ≡ v

abbrev pub IsEnd : Scope → Around → R.Flow → X.Flow → Type 0
IsEnd g r (Next m) (Normal n) = Alike g m n
IsEnd g r (Broken m) (Abrupt n) = ((r.in_loop || r.in_switch) ≡ true) × Alike g m n × Flagged broken n
IsEnd g r (Continued m) (Abrupt n) = (r.in_loop ≡ true) × Alike g m n × Flagged continued n
IsEnd g r (Returning v m) (Abrupt n) = IsResultOf g.layout g.result v × Alike g m n × Flagged returned n × HoldsResult v n
IsEnd g r (Next m) (Abrupt n) = ⊥
IsEnd g r (Broken m) (Normal n) = ⊥
IsEnd g r (Continued m) (Normal n) = ⊥
IsEnd g r (Returning v m) (Normal n) = ⊥

-- what a call gives is the same on both sides, and of the function's result
abbrev pub IsGiven : Layout → List GlobalVar → C.TypedFn → Returned → Returned → Type 0
IsGiven l gs f r r' = (r' ≡ r) × IsReturned l gs f.result r

-- the functions of both sides at one bound
abbrev pub SameCalls : Layout → List GlobalVar → List C.TypedFn → Runs → Runs → Type 0
SameCalls l gs fs run run' =
    (depth : Option ℕ) (c : Invocation) (f : C.TypedFn) → C.typed_fn fs c.name ≡ Some f → AreOfTypes l f.params c.arguments → IsState l gs c.state →
    Corresponds (IsGiven l gs f) SameKind (run depth c) (run' depth c)

module _ (l : Layout) (gs : List GlobalVar) (fns : List C.TypedFn) where
  pub called_same : (fs fs' : List Runs) → Paired (SameCalls l gs fns) fs fs' → (depth : Option ℕ) (c : Invocation) (f : C.TypedFn) → C.typed_fn fns c.name ≡ Some f →
      AreOfTypes l f.params c.arguments → IsState l gs c.state → Corresponds (IsGiven l gs f) SameKind (called fs depth c) (called fs' depth c)
  called_same [] [] h depth c f e a s = stop_corresponds (IsGiven l gs f) SameKind Turns
  called_same (r ∷ fs) (r' ∷ fs') h None c f e a s = h.0 None c f e a s
  called_same (r ∷ fs) (r' ∷ fs') h (Some zero) c f e a s = stop_corresponds (IsGiven l gs f) SameKind Depth
  called_same (r ∷ fs) (r' ∷ fs') h (Some (suc depth)) c f e a s = h.0 (Some depth) c f e a s
  called_same [] (r' ∷ fs') h depth c f e a s = absurd h
  called_same (r ∷ fs) [] h depth c f e a s = absurd h

-- where a statement stands: in a function of a unit, whose locals are generated
pub record Stands (g : Scope) (level : Level) (locals : List Binder) : Type 0 where
  pub layout : IsLayout g.layout
  pub globals : are_globals g.layout g.globals ≡ true
  pub own : are_variables g.variables ≡ true
  pub result : is_result g.result ≡ true
  pub callees : (x : _) (f : C.TypedFn) → C.typed_fn g.functions x ≡ Some f → (are_variables f.params ≡ true) × (is_result f.result ≡ true)
  pub kinds : (x : _) (t : CType) → variable_type g.variables x ≡ Some t → kind_of locals x ≡ Some (kind_at g.layout.target level t)

module _ (g : Scope) (r : Around) where
  -- in order
  pub next_same : (rest : Machine → Ended) (rest' : Machine → Ends X.Flow GuardKind) → ((m n : Machine) → Alike g m n → Corresponds (IsEnd g r) SameKind (rest m) (rest' n)) →
      (f : R.Flow) (f' : X.Flow) → IsEnd g r f f' → Corresponds (IsEnd g r) SameKind (and_next rest f) (X.normally rest' f')
  next_same rest rest' k (Next m) (Normal n) h = k m n h
  next_same rest rest' k (Broken m) (Abrupt n) h = done_corresponds (IsEnd g r) SameKind (Broken m) (Abrupt n) h
  next_same rest rest' k (Continued m) (Abrupt n) h = done_corresponds (IsEnd g r) SameKind (Continued m) (Abrupt n) h
  next_same rest rest' k (Returning v m) (Abrupt n) h = done_corresponds (IsEnd g r) SameKind (Returning v m) (Abrupt n) h
  next_same _ _ _ _ _ h = absurd h

-- the machine behind a jump's flag
abbrev pub flagged : ℤ → Machine → Machine
flagged k n = with_local exception_local (V.Bits (word 32 k)) n

pub flag_alike : (g : Scope) → are_variables g.variables ≡ true → (k : ℤ) (m n : Machine) → Alike g m n → Alike g m (flagged k n)
flag_alike g own k m n a = alike_added g own m n a exception_local (V.Bits (word 32 k)) refl (λ e. refl)

-- a jump
pub jump_same : {A : Type 0} (answers : A → X.Flow → Type 0) (l : Layout) (p : Choice) (locals : List Binder) (k : ℤ) (depth : Option ℕ) (fs : List Runs) (n : Machine) (q : Ends A GuardKind) →
    Corresponds answers SameKind q (done (Abrupt (flagged k n))) → Corresponds answers SameKind q (execs l p locals (jump k) depth fs n)
jump_same answers l p locals k depth fs n q h =
    same_on_right (after_done (Normal (flagged k n)) (X.normally (λ o. done (Abrupt o)))) h

-- what an exception's flag says
pub flag_tested : (l : Layout) (k j : ℤ) (n : Machine) → Flagged j n → holds_on l n (is_exception k) ≡ V.same_value (V.Bits (word 32 j)) (V.Bits (word 32 k))
flag_tested l k j n h = ap (λ v. V.same_value v (V.Bits (word 32 k))) h

module _ {A : Type 0} (answers : A → X.Flow → Type 0) (l : Layout) (p : Choice) (locals : List Binder) (depth : Option ℕ) (fs : List Runs) (n : Machine) (q : Ends A GuardKind) (k j : ℤ) where
  pub stops_here : Flagged j n → V.same_value (V.Bits (word 32 j)) (V.Bits (word 32 k)) ≡ true → Corresponds answers SameKind q (done (Normal n)) → Corresponds answers SameKind q (execs l p locals (stops_at k) depth fs n)
  stops_here f e h = subst (λ b. Corresponds answers SameKind q (choose b (done (Normal n)) (done (Abrupt n)))) (sym (flag_tested l k j n f ∙ e)) h

  pub thrown_on : Flagged j n → V.same_value (V.Bits (word 32 j)) (V.Bits (word 32 k)) ≡ false → Corresponds answers SameKind q (done (Abrupt n)) → Corresponds answers SameKind q (execs l p locals (stops_at k) depth fs n)
  thrown_on f e h = subst (λ b. Corresponds answers SameKind q (choose b (done (Normal n)) (done (Abrupt n)))) (sym (flag_tested l k j n f ∙ e)) h
