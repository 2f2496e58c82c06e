-- Units that the kernels' rules take to each other, one phase after the other, from the Simpl that generation makes of a
-- well-typed C unit. All of it is decided by checkers: of types, of the five phases, of well-formed units, and by comparison.
use Rattle.std.specs.Prelude.{◌≡◌}
use Rattle.c_values.specs.Name.{Name}
use Rattle.expression_lang.specs.Sort.{Level}
use Rattle.simpl_lang.specs.Command.{SimplUnit}
use Rattle.simpl_lang.specs.Sorted as Simpl
use Rattle.monad_lang.specs.Program.{FinalUnit}
use Rattle.monad_lang.specs.Sorted as Mon
use Rattle.rule_exn.specs.Units as Exceptions
use Rattle.rule_local.specs.Units.{IsUnitLiftedTo}
use Rattle.rule_heap.specs.Units as Heaps
use Rattle.rule_word.specs.Units.{IsUnitAbstractedTo}
use Rattle.rule_eq.specs.Units as Equality
use Rattle.c_lang.specs.Typed.{TypedUnit}
use Rattle.c_lang.specs.WellTyped.{IsWellTyped}
use Rattle.generation.specs.Generate as Generate
use Rattle.exactness.specs.Exact.{AreProgramsOf}

pub record AreTaken (u : TypedUnit) (levels : Name → Level) (generated flat : SimplUnit)
    (local heap word last : FinalUnit) : Type 0 where
  pub typed : IsWellTyped u
  -- what generation makes has the flag unused, and is well-formed
  pub generation : generated ≡ Generate.generated u levels
  pub exceptions : Exceptions.IsUnitTakenTo generated flat
  pub flat_formed : Simpl.IsWellFormed flat
  pub locals : IsUnitLiftedTo flat local
  pub local_formed : Mon.IsWellFormed local
  -- a lifted function is at its level and calls lifted ones alone, and other bodies stay
  pub heaps : Heaps.IsUnitTakenTo levels local heap
  pub heap_formed : Mon.IsWellFormed heap
  -- what the rules take a well-formed unit to here is well-formed
  pub words : IsUnitAbstractedTo heap word
  pub equality : Equality.IsUnitTakenTo word last
  pub last_formed : Mon.IsWellFormed last
  -- the last programs are the C functions' at their levels
  pub programs : AreProgramsOf u levels last
