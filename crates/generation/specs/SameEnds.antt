-- A Simpl unit has the ends of a typed unit.
use Rattle.std.specs.Prelude.{◌≡◌, ℕ, Option, Some}
use Rattle.correspondence.specs.Corresponds.{Corresponds}
use Rattle.c_values.specs.Name.{Name}
use Rattle.c_values.specs.Choice.{Choice}
use Rattle.expression_lang.specs.Sort.{Level}
use Rattle.expression_lang.specs.Signature.{Invocation}
use Rattle.simpl_lang.specs.Command.{SimplUnit}
use Rattle.simpl_lang.specs.Exec.{simpl_runs}
use Rattle.c_lang.specs.Typed.{TypedFn, TypedUnit, typed_fn}
use Rattle.c_meaning.specs.CRun.{c_runs}
use Rattle.c_meaning.specs.Fitting.{AreOfTypes}
use Rattle.expression_lang.specs.States.{IsState}

-- At every bound and every limit of nested calls, from every state that can be and arguments of the parameters' types, a call
-- gives what the C function gives, fails by the kind of its first undefined step, and stops where that one stops.
abbrev pub HasEndsOf : TypedUnit → (Name → Level) → SimplUnit → Type 0
HasEndsOf u levels s =
    (p : Choice) (n : ℕ) (depth : Option ℕ) (c : Invocation) (f : TypedFn) → typed_fn u.functions c.name ≡ Some f → AreOfTypes u.layout f.params c.arguments →
    IsState u.layout u.globals c.state → Corresponds (λ a b. b ≡ a) (λ k j. j ≡ k) (c_runs u levels p n depth c) (simpl_runs s p n depth c)
