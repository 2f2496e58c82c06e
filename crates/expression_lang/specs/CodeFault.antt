-- Where evaluation ends without a value.
use Rattle.std.specs.Prelude.{◌≡◌, Option, Some, None}
use Rattle.c_values.specs.CodeNumber.{number_op_of}
use Rattle.expression_lang.specs.declared.faults.EvalFault as F
use Rattle.expression_lang.specs.Wide.{Operation}

-- the fault names the operation that is met; want of memory may come at any place
abbrev pub IsFault : F.EvalFault → Option Operation → Type 0
IsFault (F.TheVariants.Wide op a b) o = o ≡ Some (record { op = number_op_of op; first = a; second = b })
IsFault F.TheVariants.Memory o = Unit {0}

-- an answer stands for a value, where no operation is wide; where there is none, the fault names the first that is
abbrev pub Gives : {A B : Type 0} → (A → B) → Option A → F.EvalFault → B → Option Operation → Type 0
Gives view (Some a) f b o = (view a ≡ b) × (o ≡ None)
Gives view None f b o = IsFault f o
