-- The triples that a derivation stands on: where one is found, it is well-formed and holds, of a function's body.
use Rattle.std.proofs.Common.{◌≡◌, ℕ, zero, suc, Bool, true, false, cond, List, [], ◌∷◌, map, Option, Some, refl, sym, ap, ◌∙◌, subst}
use Rattle.correspondence.specs.Outcome.{Outcome, Done, Failed}
use Rattle.c_values.specs.Name.{Name, same_name}
use Rattle.c_values.specs.Value.{Value}
use Rattle.c_values.specs.Choice.{Choice}
use Rattle.c_values.proofs.Laid.{name_is}
use Rattle.c_values.proofs.Options.{some_is}
use Rattle.expression_lang.specs.Evaluation.{State}
use Rattle.expression_lang.specs.Sort.{is_lifted}
use Rattle.expression_lang.specs.Signature.{signature, names_of, kinds_of}
use Rattle.expression_lang.specs.States.{AreGlobals}
use Rattle.expression_lang.specs.View.{AreOfKinds}
use Rattle.monad_lang.specs.Program.{FinalFn, FinalUnit, final_fn}
use Rattle.monad_lang.specs.Run.{Answer, Failure, runs, function_runs, functions_below, program_runs}
use Rattle.monad_lang.specs.Sorted.{signature_of}
use Rattle.exactness.specs.SteadyUnits.{begins}
use Rattle.exactness.specs.Triple.{Assertions, AreLogicals, MeetsBefore, MeetsAfter, IsHeapFor}
use Rattle.hoare_check.specs.DeriveTable.{triple_at}
use Rattle.hoare_check.specs.Accepted.{HoldsAt, AllHoldAt}
pub use Rattle.hoare_check.specs.Accepted.{IsTriple, AreTriples}

pub triple_there : (u : FinalUnit) (n : ℕ) (ts : List Assertions) (t : Assertions) → triple_at n ts ≡ Some t → AreTriples u ts → IsTriple u t
triple_there u n [] t h k = absurd cc
triple_there u zero (d ∷ ts) t h k = subst (λ e. IsTriple u e) (some_is h) k.0
triple_there u (suc n) (d ∷ ts) t h k = triple_there u n ts t h k.1

pub triple_holds : (u : FinalUnit) (p : Choice) (i n : ℕ) (ts : List Assertions) (t : Assertions) → triple_at n ts ≡ Some t → AllHoldAt u p i ts →
    HoldsAt u p i t
triple_holds u p i n [] t h k = absurd cc
triple_holds u p i zero (d ∷ ts) t h k = subst (λ e. HoldsAt u p i e) (some_is h) k.0
triple_holds u p i (suc n) (d ∷ ts) t h k = triple_holds u p i n ts t h k.1

-- what is found has the name
pub found_name : (fs : List FinalFn) (x : Name) (f : FinalFn) → final_fn fs x ≡ Some f → f.name ≡ x
found_name [] x f h = absurd cc
found_name (d ∷ fs) x f h = by_test (found_name fs x f) (same_name d.name x) refl h
  where
    by_test : (final_fn fs x ≡ Some f → f.name ≡ x) → (b : Bool) → same_name d.name x ≡ b → cond b (Some d) (final_fn fs x) ≡ Some f → f.name ≡ x
    by_test rest true e k = ap (λ c. c.name) (sym (some_is k)) ∙ name_is d.name x e
    by_test rest false e k = rest k

pub found_signature : (fs : List FinalFn) (x : Name) (f : FinalFn) → final_fn fs x ≡ Some f → signature (map signature_of fs) x ≡ Some (signature_of f)
found_signature [] x f h = absurd cc
found_signature (d ∷ fs) x f h = by_test (found_signature fs x f) (same_name d.name x) h
  where
    by_test : (final_fn fs x ≡ Some f → signature (map signature_of fs) x ≡ Some (signature_of f)) → (b : Bool) → cond b (Some d) (final_fn fs x) ≡ Some f →
        cond b (Some (signature_of d)) (signature (map signature_of fs) x) ≡ Some (signature_of f)
    by_test rest true k = ap (λ c. Some (signature_of c)) (some_is k)
    by_test rest false k = rest k

module _ (u : FinalUnit) (p : Choice) (i : ℕ) (f : FinalFn) where
  -- a call runs the function's body
  pub body_run : (g : Name) → final_fn u.functions g ≡ Some f → (depth : Option ℕ) (arguments : List Value) (s : State) (o : Outcome Answer Failure) →
      program_runs u p i depth (record { name = g; arguments = arguments; state = s }) o → runs u.layout p f.body (begins f arguments) depth
      (functions_below u p i) s o
  body_run g found depth arguments s o r =
      subst (λ h. function_runs u.layout p h depth (functions_below u p i) (record { name = g; arguments = arguments; state = s }) o) found r

  run_of_body : (g : Name) → final_fn u.functions g ≡ Some f → (depth : Option ℕ) (arguments : List Value) (s : State) (o : Outcome Answer Failure) →
      runs u.layout p f.body (begins f arguments) depth (functions_below u p i) s o → program_runs u p i depth
      (record { name = g; arguments = arguments; state = s }) o
  run_of_body g found depth arguments s o r =
      subst (λ h. function_runs u.layout p h depth (functions_below u p i) (record { name = g; arguments = arguments; state = s }) o) (sym found) r

  -- what a triple says of the body
  pub body_meets : (t : Assertions) → final_fn u.functions t.function ≡ Some f → HoldsAt u p i t → (depth : Option ℕ) (s : State)
      (logicals arguments : List Value) →
      IsHeapFor u.layout (is_lifted f.level) s.heap → AreGlobals u.layout u.globals s.globals → AreLogicals t.logicals logicals → AreOfKinds
      (kinds_of f.params) arguments →
      MeetsBefore u.layout t (names_of f.params) arguments logicals s →
      (runs u.layout p f.body (begins f arguments) depth (functions_below u p i) s (Failed tt) → ⊥)
      × ((r : Answer) → runs u.layout p f.body (begins f arguments) depth (functions_below u p i) s (Done r) → MeetsAfter u.layout t r.values logicals r.state)
  body_meets t found h depth s logicals arguments heap globals are kinds before =
      let named : final_fn u.functions f.name ≡ Some f = ap (λ x. final_fn u.functions x) (found_name u.functions t.function f found) ∙ found in
      let k = h.holds_at f found depth s logicals arguments heap globals are kinds before in
      (λ r. k.0 (run_of_body f.name named depth arguments s (Failed tt) r), λ a r. k.1 a (run_of_body f.name named depth arguments s (Done a) r))
