-- Triples that are all accepted hold of their programs: by induction on the bound, each stands on all of them at smaller bounds.
use Rattle.std.proofs.Common.{ℕ, zero, suc, ◌<◌, List, [], ◌∷◌, map, arith}
use Rattle.c_values.specs.Choice.{Choice}
use Rattle.monad_lang.specs.Program.{FinalUnit}
use Rattle.monad_lang.specs.Sorted.{IsWellFormed}
use Rattle.exactness.specs.SteadyUnits.{IsUnitSteady}
use Rattle.exactness.specs.Triple.{Assertions, HoldsOfProgram}
use Rattle.triple_lang.specs.Triple.{Triple}
use Rattle.hoare_check.specs.Accepted.{IsAccepted, AllAccepted, HoldsAt, AllHoldAt}
use Rattle.hoare_check.specs.Holding.{AllHold}
use Rattle.hoare_check.proofs.Triples.{AreTriples}
use Rattle.hoare_check.proofs.FunctionHolds.{accepted_holds_at}

abbrev pub assertions_of : List Triple → List Assertions
assertions_of ts = map (λ t. t.assertions) ts

are_triples : (u : FinalUnit) (all ts : List Triple) → AllAccepted u all ts → AreTriples u (assertions_of ts)
are_triples u all [] h = tt
are_triples u all (t ∷ ts) h = (record { function = h.0.function; found = h.0.found; assertions = h.0.assertions }, are_triples u all ts h.1)

-- at each bound
holds_of_program : (u : FinalUnit) (t : Assertions) → ((p : Choice) (n : ℕ) → HoldsAt u p n t) → HoldsOfProgram u t
holds_of_program u t h = record {
  holds_at =
      λ f found turns depth p s logicals arguments heap globals are kinds before.
      (h p turns).holds_at f found depth s logicals arguments heap globals are kinds before;
}

module _ (u : FinalUnit) (all : List Triple) (formed : IsWellFormed u) (steady : IsUnitSteady u)
    (accepted : AllAccepted u all all) where
  one_holds : (p : Choice) (n : ℕ) → ((i : ℕ) → i < n → AllHoldAt u p i (assertions_of all)) → (t : Triple) → IsAccepted u all t → HoldsAt u p n t.assertions
  one_holds p n below t h = accepted_holds_at u all formed steady (are_triples u all all accepted) p n below t h

  each_holds : (p : Choice) (n : ℕ) → ((i : ℕ) → i < n → AllHoldAt u p i (assertions_of all)) → (ts : List Triple) → AllAccepted u all ts → AllHoldAt u p n
      (assertions_of ts)
  each_holds p n below [] h = tt
  each_holds p n below (t ∷ ts) h = (one_holds p n below t h.0, each_holds p n below ts h.1)

  all_below : (p : Choice) (n i : ℕ) → i < n → AllHoldAt u p i (assertions_of all)
  all_below p zero i less = absurd (omega (arith, less))
  all_below p (suc n) i less = each_holds p i (λ j fewer. all_below p n j (omega (arith, less, fewer))) all accepted

  each_of_program : (ts : List Triple) → AllAccepted u all ts → AllHold u ts
  each_of_program [] h = tt
  each_of_program (t ∷ ts) h = (holds_of_program u t.assertions (λ p n. one_holds p n (all_below p n) t h.0), each_of_program ts h.1)

-- triples that are all accepted hold of the programs of a well-formed and steady unit
pub triples_hold : (u : FinalUnit) (ts : List Triple) → IsWellFormed u → IsUnitSteady u → AllAccepted u ts ts → AllHold u ts
triples_hold u ts formed steady accepted = each_of_program u ts formed steady accepted ts accepted
