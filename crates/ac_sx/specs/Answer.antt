-- What the reader's answers say of a text.
use Rattle.std.specs.Prelude.{◌≡◌, ℕ, List, ◌⊎◌, Result, MatchResult, take}
use Rattle.ac_sx.specs.declared.fault.SxFault.{SxFault}
use Rattle.ac_sx.specs.declared.fault.SxFault.TheVariants.{NotText, Deep, Memory}
use Rattle.ac_sx.specs.Front.{BreaksOff, IsShallow, OpensTooDeep}

-- the text breaks off here, and up to there no list opens too deep
abbrev pub IsNoText : List ℕ → ℕ → Type 0
IsNoText text at = BreaksOff text at × IsShallow (take at text)

-- the cause of a fault; of want of memory there is none
abbrev pub IsFaultOf : List ℕ → SxFault → Type 0
IsFaultOf text (NotText at) = IsNoText text at
IsFaultOf text (Deep at) = OpensTooDeep text at
IsFaultOf text Memory = Unit {0}

-- refused with this fault, unless memory ran out
abbrev pub IsRefused : {T : Type 0} → Result T SxFault → SxFault → Type 0
IsRefused r fault = MatchResult r (λ _. ⊥) (λ e. (e ≡ fault) ⊎ (e ≡ Memory))
