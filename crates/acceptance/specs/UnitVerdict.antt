-- What a checker answers of a unit's certificate: it is accepted, or this is the first bad place. First the list is compared: there
-- are steps for each function, in the unit's order, under its name and at its level. Then functions come in their order.
use Rattle.std.specs.Prelude.{◌≡◌, ℕ, ◌+◌, Bool, ◌&&◌, List, [], ◌∷◌, if◌then◌else◌, ◌⊎◌, Result, Ok, Err}
use Rattle.c_values.specs.Name.{same_name}
use Rattle.expression_lang.specs.Signature.{Signature}
use Rattle.simpl_lang.specs.Command.{SimplFn, SimplUnit}
use Rattle.simpl_lang.specs.Sorted.{same_level}
use Rattle.acceptance.specs.Certificate.{Steps}
use Rattle.acceptance.specs.Accepted.{AreFunctionsAccepted, IsAccepted}
use Rattle.acceptance.specs.Verdict.{Place, Answer, IsFunctionVerdict}

-- a position where the list differs, or the position of a function and a place in it
pub data Refusal : Type 0 where
  of_list : ℕ → Refusal
  of_function : ℕ → Place → Refusal

abbrev pub UnitAnswer : Type 0
UnitAnswer = Result (Unit {0}) Refusal

abbrev pub is_listed : SimplFn → Steps → Bool
is_listed f c = same_name f.name c.name && same_level f.level c.level

-- the first position where the lists differ, from this one on
abbrev pub listed : ℕ → List SimplFn → List Steps → Answer
listed at [] [] = Ok tt
listed at (f ∷ fs) (c ∷ cs) = if is_listed f c then listed (at + 1) fs cs else Err at
listed at _ _ = Err at

-- of functions with as many signatures and steps, from this position on
abbrev pub AreFunctionsVerdict : SimplUnit → ℕ → List SimplFn → List Signature → List Steps → UnitAnswer → Type 0
AreFunctionsVerdict u at [] [] [] r = r ≡ Ok tt
AreFunctionsVerdict u at (f ∷ fs) (s ∷ ss) (c ∷ cs) r =
    ((p : Place) × IsFunctionVerdict u f s c (Err p) × (r ≡ Err (of_function at p)))
    ⊎ (IsFunctionVerdict u f s c (Ok tt) × AreFunctionsVerdict u (at + 1) fs ss cs r)
AreFunctionsVerdict u at _ _ _ r = ⊥

-- an answer of the list, or where it is the same, of what comes behind
abbrev pub AfterList : Answer → (UnitAnswer → Type 0) → UnitAnswer → Type 0
AfterList (Err at) Rest r = r ≡ Err (of_list at)
AfterList (Ok done) Rest r = Rest r

abbrev pub IsUnitVerdict : SimplUnit → List Steps → UnitAnswer → Type 0
IsUnitVerdict u cs = AfterList (listed 0 u.functions cs) (AreFunctionsVerdict u 0 u.functions u.signatures cs)

-- what an answer decides
abbrev pub DecidesFunctions : SimplUnit → List SimplFn → List Signature → List Steps → UnitAnswer → Type 0
DecidesFunctions u fs ss cs (Ok done) = AreFunctionsAccepted u fs ss cs
DecidesFunctions u fs ss cs (Err refusal) = AreFunctionsAccepted u fs ss cs → ⊥

-- a certificate is accepted exactly where that is the answer
abbrev pub DecidesUnit : SimplUnit → List Steps → UnitAnswer → Type 0
DecidesUnit u cs (Ok done) = IsAccepted u cs
DecidesUnit u cs (Err refusal) = IsAccepted u cs → ⊥
