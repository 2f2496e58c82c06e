-- Lists of seven parts.
use Rattle.std.proofs.Common.{◌≡◌, List, [], ◌∷◌, length, get_or, Some, None, refl, arith}
use Rattle.ac_sx.specs.declared.sx.Sx as S
use Rattle.ac_sx.specs.CodeSx.{tree_of, trees_in}
use Rattle.memory_text.specs.MemoryReading.{Parts, seven_of}

pub not_seven : (xs : List S.Sx) → (length xs ≡ 7 → ⊥) → None ≡ seven_of (trees_in xs)
not_seven [] other = refl
not_seven (a ∷ []) other = refl
not_seven (a ∷ b ∷ []) other = refl
not_seven (a ∷ b ∷ c ∷ []) other = refl
not_seven (a ∷ b ∷ c ∷ d ∷ []) other = refl
not_seven (a ∷ b ∷ c ∷ d ∷ e ∷ []) other = refl
not_seven (a ∷ b ∷ c ∷ d ∷ e ∷ f ∷ []) other = refl
not_seven (a ∷ b ∷ c ∷ d ∷ e ∷ f ∷ g ∷ []) other = absurd (other (omega arith))
not_seven (a ∷ b ∷ c ∷ d ∷ e ∷ f ∷ g ∷ h ∷ xs) other = refl

abbrev parts : S.Sx → S.Sx → S.Sx → S.Sx → S.Sx → S.Sx → S.Sx → Parts
parts v c t f b g s = record { version = tree_of v; call = tree_of c; turns = tree_of t; fill = tree_of f; bytes = tree_of b; tags = tree_of g; globals = tree_of s }

pub just_seven : (xs : List S.Sx) (v c t f b g s : S.Sx) → length xs ≡ 7 →
    v ≡ get_or xs 0 v → c ≡ get_or xs 1 c → t ≡ get_or xs 2 t → f ≡ get_or xs 3 f → b ≡ get_or xs 4 b → g ≡ get_or xs 5 g → s ≡ get_or xs 6 s → Some (parts v c t f b g s) ≡ seven_of (trees_in xs)
just_seven (a1 ∷ a2 ∷ a3 ∷ a4 ∷ a5 ∷ a6 ∷ a7 ∷ []) v c t f b g s seven e1 e2 e3 e4 e5 e6 e7 =
    rw (e1, e2, e3, e4, e5, e6, e7) refl
just_seven (a1 ∷ a2 ∷ a3 ∷ a4 ∷ a5 ∷ a6 ∷ a7 ∷ a8 ∷ xs) v c t f b g s seven e1 e2 e3 e4 e5 e6 e7 = absurd (omega arith)
just_seven [] v c t f b g s seven e1 e2 e3 e4 e5 e6 e7 = absurd (omega arith)
just_seven (a1 ∷ []) v c t f b g s seven e1 e2 e3 e4 e5 e6 e7 = absurd (omega arith)
just_seven (a1 ∷ a2 ∷ []) v c t f b g s seven e1 e2 e3 e4 e5 e6 e7 = absurd (omega arith)
just_seven (a1 ∷ a2 ∷ a3 ∷ []) v c t f b g s seven e1 e2 e3 e4 e5 e6 e7 = absurd (omega arith)
just_seven (a1 ∷ a2 ∷ a3 ∷ a4 ∷ []) v c t f b g s seven e1 e2 e3 e4 e5 e6 e7 = absurd (omega arith)
just_seven (a1 ∷ a2 ∷ a3 ∷ a4 ∷ a5 ∷ []) v c t f b g s seven e1 e2 e3 e4 e5 e6 e7 = absurd (omega arith)
just_seven (a1 ∷ a2 ∷ a3 ∷ a4 ∷ a5 ∷ a6 ∷ []) v c t f b g s seven e1 e2 e3 e4 e5 e6 e7 = absurd (omega arith)
