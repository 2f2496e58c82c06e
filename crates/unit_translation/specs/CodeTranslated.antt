-- The last program of a function, and those of a unit, as the code makes them.
use Rattle.std.specs.Prelude.{List, [], ◌∷◌, Option, Some, None, if◌then◌else◌}
use Rattle.c_values.specs.Name.{Name, same_name}
use Rattle.expression_lang.specs.Sort.{Level, Bytes}
use Rattle.expression_lang.specs.Signature.{Signature}
use Rattle.ac_expr.specs.SameExp.{same_exp}
use Rattle.simpl_lang.specs.Command.{SimplFn, SimplUnit}
use Rattle.monad_lang.specs.Program.{Mon, FinalFn}
use Rattle.rule_exn.specs.Eliminated.{exceptions_eliminated}
use Rattle.rule_local.specs.Units.{context_of, outputs_of}
use Rattle.local_lift.specs.Ready.{IsReady}
use Rattle.rule_local.specs.Rule as Locals
use Rattle.rule_heap.specs.Rule as Heaps
use Rattle.acceptance.specs.Certificate.{Step}
use Rattle.c_lang.specs.Typed.{TypedFn}
use Rattle.pipeline.specs.Made.{tidy_last, steps_with}
use Rattle.pipeline.specs.Units.{on_numbers}

-- the program before words become numbers
abbrev pub program_before : Step Mon Locals.Rule → Option (Step Mon Heaps.Rule) → Mon
program_before local None = local.program
program_before local (Some heap) = heap.program

abbrev pub last_program : SimplUnit → SimplFn → Signature → Mon
last_program u f s = (steps_with tidy_last same_exp u f s).equal.program

abbrev pub last_functions : SimplUnit → List SimplFn → List Signature → List FinalFn
last_functions u (f ∷ fs) (s ∷ ss) = on_numbers s (last_program u f s) ∷ last_functions u fs ss
last_functions u _ _ = []

-- The locals of functions can be lifted.

abbrev pub IsReadyToLift : SimplFn → Signature → Type 0
IsReadyToLift f s = IsReady (context_of f s) (exceptions_eliminated f.body).right (outputs_of s.result)

abbrev pub AllReadyToLift : List SimplFn → List Signature → Type 0
AllReadyToLift (f ∷ fs) (s ∷ ss) = IsReadyToLift f s × AllReadyToLift fs ss
AllReadyToLift _ _ = Unit {0}

-- The level at the position of the first function of a name.
abbrev pub level_at : List TypedFn → List Level → Name → Level
level_at (f ∷ fs) (k ∷ ks) x = if same_name f.name x then k else level_at fs ks x
level_at _ _ x = Bytes
