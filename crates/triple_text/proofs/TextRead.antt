-- A tree's text is read as no fault.
use Rattle.std.proofs.Common.{◌≡◌, ◌≤◌, ℕ, List, ◌⊎◌, inl, inr}
use Rattle.ac_sx.specs.Tree.{Tree, IsTree, file, depth, deepest}
use Rattle.ac_sx.specs.declared.fault.SxFault.{SxFault}
use Rattle.ac_sx.specs.declared.fault.SxFault.TheVariants as X
use Rattle.triple_lang.specs.Triple.{Triple}
use Rattle.triple_text.specs.TripleText.{triples_tree}
use Rattle.triple_text.specs.Answer.{AreTriplesText}

-- what a fault of a tree's text is
abbrev pub IsOnly : List ℕ → SxFault → Type 0
IsOnly text fault = (t : Tree) → IsTree t → depth t ≤ deepest → text ≡ file t → fault ≡ X.Memory

pub only_memory : (text : List ℕ) (fault : SxFault) (ts : List Triple) → IsOnly text fault → AreTriplesText text ts → fault ≡ X.Memory
only_memory text fault ts only is = only (triples_tree ts) is.0.atoms is.0.depth is.0.spelled

pub not_text_is_no_memory : {A : Type 0} (fault : SxFault) (k : ℕ) → fault ≡ X.NotText k → fault ≡ X.Memory → A
not_text_is_no_memory fault k is e = absurd cc

pub deep_is_no_memory : {A : Type 0} (fault : SxFault) (k : ℕ) → fault ≡ X.Deep k → fault ≡ X.Memory → A
deep_is_no_memory fault k is e = absurd cc

pub deep_is_text : {A : Type 0} (fault : SxFault) (k at : ℕ) → fault ≡ X.Deep k → (fault ≡ X.NotText at) ⊎ (fault ≡ X.Memory) → A
deep_is_text fault k at is (inl e) = absurd cc
deep_is_text fault k at is (inr e) = absurd cc
