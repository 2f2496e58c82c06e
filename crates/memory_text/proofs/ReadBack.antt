-- What the answers of the readers say of a tree.
use Rattle.std.proofs.Common.{◌≡◌, ℕ, ◌^◌, ◌-◌, ◌<◌, ◌≤◌, true, List, Ok, ◌⊎◌, inl, inr, refl, ap, sym, ◌∙◌, arith}
use Rattle.std.specs.Prelude.{min}
use Rattle.c_lang.specs.Typed.{TypedUnit}
use Rattle.ac_sx.specs.Tree.{Tree, IsTree, file, depth, deepest}
use Rattle.ac_sx.specs.declared.fault.SxFault.{SxFault}
use Rattle.ac_sx.specs.declared.fault.SxFault.TheVariants as X
use Rattle.expression_text.specs.declared.fault.TextFault.{TextFault}
use Rattle.expression_text.specs.declared.fault.TextFault.TheVariants as F
use Rattle.expression_text.specs.Reading.{Read, made}
use Rattle.expression_text.specs.CodeFault.{Fails}
use Rattle.expression_text.proofs.Behind.{behind, value_ok}
use Rattle.memory_text.specs.declared.fault.MemoryFault.TheVariants.{Turns}
use Rattle.memory_text.specs.MemoryText.{Memory, memory_tree, memory_text, is_memory, most_turns}
use Rattle.memory_text.specs.MemoryReading.{memory_at}
use Rattle.memory_text.specs.CodeMemory.{clamped}
use Rattle.memory_text.specs.Answer.{IsMemoryTree, IsMemoryText, IsTreeFault}
use Rattle.memory_text.proofs.ValueLaws.{made_ok}
use Rattle.memory_text.proofs.Atoms.{memory_atoms}
use Rattle.memory_text.proofs.MemoryLaws.{memory_reads, memory_spells}

-- few turns are as many in 32 bits
unclamped : (m : Memory) → m.turns ≤ most_turns → clamped m ≡ m
unclamped m few = let same : min m.turns (2 ^ 32 - 1) ≡ m.turns = omega (arith, few) in ap (λ k. record m { turns = k }) same

few_before : (m : Memory) → min m.turns (2 ^ 32 - 1) ≤ most_turns → m.turns ≤ most_turns
few_before m few = omega (arith, few)

many_before : (m : Memory) → most_turns < min m.turns (2 ^ 32 - 1) → most_turns < m.turns
many_before m many = omega (arith, many)

many_after : (m : Memory) → most_turns < m.turns → most_turns < min m.turns (2 ^ 32 - 1)
many_after m many = omega (arith, many)

module _ (u : TypedUnit) (t : Tree) where
  abbrev answer : Read Memory
  answer = made clamped (memory_at u 0 t)

  tree_moved : (m n : Memory) → m ≡ n → IsMemoryTree u t m → IsMemoryTree u t n
  tree_moved m n same is = (is.0 ∙ ap memory_tree same, ap (is_memory u) (sym same) ∙ is.1)

  given : (d : Memory) → IsMemoryTree u t d → memory_at u 0 t ≡ Ok (d, behind 0 (memory_tree d))
  given d is = ap (memory_at u 0) is.0 ∙ memory_reads u d is.1 0

  same_clamped : (x d : Memory) (n : ℕ) → answer ≡ Ok (x, n) → IsMemoryTree u t d → x ≡ clamped d
  same_clamped x d n read is = value_ok x n (clamped d) (behind 0 (memory_tree d)) (sym read ∙ ap (made clamped) (given d is))

  pub found : (x : Memory) (n : ℕ) → answer ≡ Ok (x, n) → x.turns ≤ most_turns → IsMemoryTree u t x
  found x n read few =
      let (m, there, same) = made_ok clamped (memory_at u 0 t) x n read in
      let turns = ap (λ (k : Memory). k.turns) same in
      tree_moved m x (sym (unclamped m (few_before m (omega (arith, turns, few)))) ∙ same) (memory_spells u t 0 m n there)

  pub only : (x d : Memory) (n : ℕ) → answer ≡ Ok (x, n) → IsMemoryTree u t d → d.turns ≤ most_turns → x ≡ d
  only x d n read is few = same_clamped x d n read is ∙ unclamped d few

  -- too many turns
  pub too_many : (x : Memory) (n : ℕ) → answer ≡ Ok (x, n) → most_turns < x.turns → IsTreeFault u t Turns
  too_many x n read many =
      let (m, there, same) = made_ok clamped (memory_at u 0 t) x n read in
      let turns = ap (λ (k : Memory). k.turns) same in
      (m, memory_spells u t 0 m n there, many_before m (omega (arith, turns, many)))

  pub not_few : {A : Type 0} (x d : Memory) (n : ℕ) → answer ≡ Ok (x, n) → most_turns < x.turns → IsMemoryTree u t d → d.turns ≤ most_turns → A
  not_few x d n read many is few = let turns = ap (λ (k : Memory). k.turns) (only x d n read is few) in absurd (omega (arith, turns, many, few))

  pub not_many : {A : Type 0} (x d : Memory) (n : ℕ) → answer ≡ Ok (x, n) → x.turns ≤ most_turns → IsMemoryTree u t d → most_turns < d.turns → A
  not_many x d n read few is many =
      let turns = ap (λ (k : Memory). k.turns) (same_clamped x d n read is) in
      let more = many_after d many in
      absurd (omega (arith, turns, few, more))

  -- no memory's tree is refused
  pub not_refused : (d : Memory) (fault : TextFault) → Fails fault answer → IsMemoryTree u t d → fault ≡ F.Memory
  not_refused d (F.Shape at) bad is = absurd (let read = sym bad ∙ ap (made clamped) (given d is) in cc)
  not_refused d F.Memory bad is = refl
  not_refused d F.NotText bad is = absurd bad
  not_refused d F.Deep bad is = absurd bad

-- What is written is the text of the memory, unless its tree nests too deep.
pub written : (u : TypedUnit) (m : Memory) (text : List ℕ) → is_memory u m ≡ true → depth (memory_tree m) ≤ deepest → text ≡ memory_text m → IsMemoryText u text m
written u m text is shallow same = (record { atoms = memory_atoms u m is; spelled = same; depth = shallow }, is)

-- A tree's text is read as no fault.

-- what a fault of a tree's text is
abbrev pub IsOnly : List ℕ → SxFault → Type 0
IsOnly text fault = (t : Tree) → IsTree t → depth t ≤ deepest → text ≡ file t → fault ≡ X.Memory

pub only_memory : (u : TypedUnit) (text : List ℕ) (fault : SxFault) (d : Memory) → IsOnly text fault → IsMemoryText u text d → fault ≡ X.Memory
only_memory u text fault d only is = only (memory_tree d) is.0.atoms is.0.depth is.0.spelled

pub not_text_is_no_memory : {A : Type 0} (fault : SxFault) (k : ℕ) → fault ≡ X.NotText k → fault ≡ X.Memory → A
not_text_is_no_memory fault k is e = absurd cc

pub deep_is_no_memory : {A : Type 0} (fault : SxFault) (k : ℕ) → fault ≡ X.Deep k → fault ≡ X.Memory → A
deep_is_no_memory fault k is e = absurd cc

pub deep_is_text : {A : Type 0} (fault : SxFault) (k at : ℕ) → fault ≡ X.Deep k → (fault ≡ X.NotText at) ⊎ (fault ≡ X.Memory) → A
deep_is_text fault k at is (inl e) = absurd cc
deep_is_text fault k at is (inr e) = absurd cc
