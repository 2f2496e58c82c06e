-- What the units of a chain have beside what the phases keep, so that each unit law speaks of the calls that its neighbours
-- make: one layout and the same globals, and functions that take what stands for the C functions' parameters. A checker can
-- decide all of it.
use Rattle.std.specs.Prelude.{◌≡◌, List, [], ◌∷◌, map}
use Rattle.c_values.specs.Name.{Name}
use Rattle.c_values.specs.Types.{Target}
use Rattle.c_values.specs.Layout.{scalar_width}
use Rattle.expression_lang.specs.Sort.{Level, Scalar, WordSort, sort_of_kind}
use Rattle.expression_lang.specs.Signature.{kinds_of}
use Rattle.simpl_lang.specs.Command.{SimplUnit}
use Rattle.monad_lang.specs.Program.{FinalFn, FinalUnit}
use Rattle.rule_eq.specs.Exact.{AreAlike}
use Rattle.c_lang.specs.Typed.{TypedFn, TypedUnit, Variable}
use Rattle.c_lang.specs.WellTyped.{IsWellTyped}
use Rattle.generation.specs.Generate.{generated}
use Rattle.exactness.specs.Exact.{AreProgramsOf}

-- the sorts of words of variables' types
abbrev pub word_sorts : Target → List Variable → List Scalar
word_sorts t [] = []
word_sorts t (v ∷ vs) = WordSort (scalar_width t v.type) ∷ word_sorts t vs

-- a program that takes words of a C function's parameters' types
pub record TakesWords (t : Target) (f : TypedFn) (g : FinalFn) : Type 0 where
  pub name : g.name ≡ f.name
  pub params : map sort_of_kind (kinds_of g.params) ≡ word_sorts t f.params

abbrev pub AllTakeWords : Target → List TypedFn → List FinalFn → Type 0
AllTakeWords t [] [] = Unit {0}
AllTakeWords t (f ∷ fs) (g ∷ gs) = TakesWords t f g × AllTakeWords t fs gs
AllTakeWords t _ _ = ⊥

pub record IsWhole (u : TypedUnit) (levels : Name → Level) (flat : SimplUnit) (local word last : FinalUnit) : Type 0 where
  -- the C unit is well-typed, so that its layout is one: what views memory is then a typed heap that can be
  pub typed : IsWellTyped u
  -- flat commands have the signatures that generation gives the C functions, so that a call has an argument for each parameter
  pub signatures : flat.signatures ≡ (generated u levels).signatures
  -- programs on bytes are over the C unit's layout and its globals, and take words of its parameters' types
  pub layout : local.layout ≡ u.layout
  pub globals : local.globals ≡ u.globals
  pub words : AllTakeWords u.layout.target u.functions local.functions
  -- the last step changes bodies alone
  pub alike : AreAlike word last
  -- the last programs are the C functions' at their levels
  pub programs : AreProgramsOf u levels last
