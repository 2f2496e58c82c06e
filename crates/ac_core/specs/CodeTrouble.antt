-- What the code answers to a file that it couldn't read whole.
use Rattle.std.specs.Prelude.{◌≡◌, ℕ, List, ◌++◌, codes}
use Rattle.c_values.specs.Name.{Name}
use Rattle.ac_base.specs.declared.reading.ReadTrouble.{ReadTrouble}
use Rattle.ac_base.specs.declared.reading.ReadTrouble.TheVariants as trouble
use Rattle.answers.specs.declared.status.Status.{Status}
use Rattle.answers.specs.declared.status.Status.TheVariants.{ReadFault, Limit}

abbrev pub IsTrouble : Name → List ℕ → ReadTrouble → Status → List ℕ → Type 0
IsTrouble file limit trouble.ReadFault status lines = (status ≡ ReadFault) × (lines ≡ codes "read fault: " ++ (file ++ codes "\n"))
IsTrouble file limit trouble.Limit status lines = (status ≡ Limit) × (lines ≡ codes "limit: " ++ (limit ++ codes "\n"))
IsTrouble file limit trouble.Memory status lines = ⊥
