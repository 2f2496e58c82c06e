-- That what generation makes of a typed unit, exceptions eliminated and locals lifted, is ready to be lifted to typed
-- heaps: in each function that is on typed heaps, each load and each store stands where it is known that its root is
-- covered and its indices are in range.
use Rattle.std.specs.Prelude.{◌≡◌, true, List, [], ◌∷◌, map}
use Rattle.std.specs.List.{list_all}
use Rattle.c_values.specs.Name.{Name}
use Rattle.expression_lang.specs.Sort.{Level, is_lifted}
use Rattle.simpl_lang.specs.Command.{SimplFn, SimplUnit}
use Rattle.rule_exn.specs.Eliminated.{exceptions_eliminated}
use Rattle.rule_local.specs.Lifted.{unit_lifted}
use Rattle.rule_heap.specs.HeapLifted.{AreFunctionsReady}
use Rattle.c_lang.specs.Typed.{TypedUnit, TypedFn}
use Rattle.c_meaning.specs.Levels.{callees_in}
use Rattle.generation.specs.Generate.{generated}

-- a unit without exceptions
abbrev pub function_eliminated : SimplFn → SimplFn
function_eliminated f =
    record { name = f.name; locals = f.locals; level = f.level; body = (exceptions_eliminated f.body).right }

abbrev pub unit_eliminated : SimplUnit → SimplUnit
unit_eliminated u =
    record { layout = u.layout; globals = u.globals; functions = map function_eliminated u.functions; signatures = u.signatures }

-- a function on typed heaps calls such functions alone, as by default
abbrev pub CallsLifted : (Name → Level) → List TypedFn → Type 0
CallsLifted levels [] = Unit {0}
CallsLifted levels (f ∷ fs) =
    (is_lifted (levels f.name) ≡ true → list_all (λ y. is_lifted (levels y)) (callees_in f.body) ≡ true)
    × CallsLifted levels fs

abbrev pub GeneratesReady : TypedUnit → Type 0
GeneratesReady u =
    (levels : Name → Level) → CallsLifted levels u.functions →
    AreFunctionsReady u.layout levels (unit_lifted (unit_eliminated (generated u levels))).functions
