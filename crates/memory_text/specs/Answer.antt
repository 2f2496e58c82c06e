-- Which text is which memory's, and what the reader's answers say of a text.
use Rattle.std.specs.Prelude.{◌≡◌, ◌<◌, ◌≤◌, ℕ, true, List, ◌⊎◌, Result, Err, MatchResult}
use Rattle.c_lang.specs.Typed.{TypedUnit}
use Rattle.ac_sx.specs.Tree.{Tree, IsTree, file, depth, deepest}
use Rattle.ac_sx.specs.Front.{OpensTooDeep}
use Rattle.ac_sx.specs.Answer.{IsNoText}
use Rattle.expression_text.specs.declared.fault.TextFault.TheVariants as F
use Rattle.memory_text.specs.declared.fault.MemoryFault.{MemoryFault}
use Rattle.memory_text.specs.declared.fault.MemoryFault.TheVariants.{Text, Turns}
use Rattle.memory_text.specs.MemoryText.{Memory, memory_tree, is_memory, most_turns}
use Rattle.memory_text.specs.MemoryReading.{memory_at}

abbrev pub IsMemoryTree : TypedUnit → Tree → Memory → Type 0
IsMemoryTree u t m = (t ≡ memory_tree m) × (is_memory u m ≡ true)

-- the text of a tree that isn't too deep
pub record IsTextOf (text : List ℕ) (t : Tree) : Type 0 where
  pub atoms : IsTree t
  pub spelled : text ≡ file t
  pub depth : depth t ≤ deepest

abbrev pub IsMemoryText : TypedUnit → List ℕ → Memory → Type 0
IsMemoryText u text m = IsTextOf text (memory_tree m) × (is_memory u m ≡ true)

-- the cause of a fault; of want of memory there is none
abbrev pub IsFaultOf : TypedUnit → List ℕ → MemoryFault → Type 0
IsFaultOf u text (Text F.NotText) = (at : ℕ) × IsNoText text at
IsFaultOf u text (Text F.Deep) = (at : ℕ) × OpensTooDeep text at
IsFaultOf u text (Text (F.Shape n)) = (t : Tree) × IsTextOf text t × (memory_at u 0 t ≡ Err n)
IsFaultOf u text (Text F.Memory) = Unit {0}
IsFaultOf u text Turns = (m : Memory) × IsMemoryText u text m × (most_turns < m.turns)

-- the same of a tree
abbrev pub IsTreeFault : TypedUnit → Tree → MemoryFault → Type 0
IsTreeFault u t (Text F.NotText) = ⊥
IsTreeFault u t (Text F.Deep) = ⊥
IsTreeFault u t (Text (F.Shape n)) = memory_at u 0 t ≡ Err n
IsTreeFault u t (Text F.Memory) = Unit {0}
IsTreeFault u t Turns = (m : Memory) × IsMemoryTree u t m × (most_turns < m.turns)

-- what was read is this, unless memory ran out
abbrev pub IsReadAs : {X : Type 0} → (X → Memory) → Result X MemoryFault → Memory → Type 0
IsReadAs view r m = MatchResult r (λ x. view x ≡ m) (λ e. e ≡ Text F.Memory)

-- refused so, unless memory ran out
abbrev pub IsRefusedAs : {X : Type 0} → Result X MemoryFault → MemoryFault → Type 0
IsRefusedAs r fault = MatchResult r (λ _. ⊥) (λ e. (e ≡ fault) ⊎ (e ≡ Text F.Memory))
