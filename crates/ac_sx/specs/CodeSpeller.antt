-- Texts that are spelt part by part.
use Rattle.std.specs.Prelude.{ℕ, Bool, true, false, List, [], ◌∷◌, ◌++◌, if◌then◌else◌}
use Rattle.ac_sx.specs.declared.speller.Speller.{Speller}
use Rattle.ac_sx.specs.Tree.{opening, closing, space}
use Rattle.ac_sx.specs.Writing.{Writing}

-- the text so far, and whether the innermost list has a part
pub record Spelt : Type 0 where
  pub text : List ℕ
  pub begun : Bool

abbrev pub spelt_of : Speller → Spelt
spelt_of s = record { text = s.text.items; begun = s.begun }

abbrev pub blank : Spelt
blank = record { text = []; begun = false }

-- with a space behind the part before, where there is one
abbrev pub parted : Spelt → List ℕ
parted s = if s.begun then s.text ++ space ∷ [] else s.text

abbrev pub entered : Spelt → Spelt
entered s = record { text = parted s ++ opening ∷ []; begun = false }

abbrev pub put : Spelt → List ℕ → Spelt
put s word = record { text = parted s ++ word; begun = true }

abbrev pub left : Spelt → Spelt
left s = record { text = s.text ++ closing ∷ []; begun = true }

abbrev pub spelling_out : Writing Spelt
spelling_out = record { entered = entered; put = put; left = left }
