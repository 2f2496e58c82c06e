-- Triples that are all accepted of exact programs hold of the C that they stand for.
use Rattle.std.proofs.Common.{List, [], ◌∷◌, subst}
use Rattle.c_values.specs.Name.{Name}
use Rattle.c_values.specs.Layout.{IsLayout}
use Rattle.expression_lang.specs.Sort.{Level}
use Rattle.monad_lang.specs.Program.{FinalUnit}
use Rattle.monad_lang.specs.Sorted.{IsWellFormed}
use Rattle.c_lang.specs.Typed.{TypedUnit}
use Rattle.exactness.specs.SteadyUnits.{IsUnitSteady}
use Rattle.exactness.specs.Exact.{IsExact, AreProgramsOf}
use Rattle.triple_lang.specs.Triple.{Triple}
use Rattle.hoare_check.specs.Accepted.{AllAccepted}
use Rattle.hoare_check.specs.Holding.{AllHold, AllHoldOfC}
use Rattle.hoare_check.proofs.TriplesHold.{triples_hold}
use Rattle.hoare_check.proofs.TriplesOfC.{triple_of_c}

module _ (u : TypedUnit) (levels : Name → Level) (a : FinalUnit) (of_unit : AreProgramsOf u levels a) (exact : IsExact u levels a)
    (formed : IsWellFormed a) where
  each_of_c : (ts : List Triple) → AllHold a ts → AllHoldOfC u levels ts
  each_of_c [] h = tt
  each_of_c (t ∷ ts) h =
      (triple_of_c u (subst IsLayout of_unit.layout formed.layout) levels a of_unit exact t.assertions h.0, each_of_c ts h.1)

  pub accepted_of_c : IsUnitSteady a → (ts : List Triple) → AllAccepted a ts ts → AllHoldOfC u levels ts
  accepted_of_c steady ts accepted = each_of_c ts (triples_hold a ts formed steady accepted)
