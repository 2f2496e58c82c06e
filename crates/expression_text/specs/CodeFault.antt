-- What the code's readers answer, against what reading gives.
use Rattle.std.specs.Prelude.{◌≡◌, ℕ, Result, Ok, Err}
use Rattle.expression_text.specs.declared.fault.TextFault.{TextFault}
use Rattle.expression_text.specs.declared.fault.TextFault.TheVariants as faults
use Rattle.expression_text.specs.Reading.{Read}

-- a part is refused for its first bad node, unless memory runs out
abbrev pub Fails : {A : Type 0} → TextFault → Read A → Type 0
Fails (faults.Shape n) read = read ≡ Err n
Fails faults.Memory read = Unit {0}
Fails faults.NotText read = ⊥
Fails faults.Deep read = ⊥

-- what was returned, seen so, is what reading gives, unless memory ran out
abbrev pub Gives : {X A : Type 0} → (X → A) → Result (X × ℕ) TextFault → Read A → Type 0
Gives view (Ok (x, n)) read = read ≡ Ok (view x, n)
Gives view (Err e) read = Fails e read
