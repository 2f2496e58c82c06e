-- Lines that are written word by word.
use Rattle.std.proofs.Common.{◌≡◌, ℕ, zero, suc, ◌+◌, List, [], ◌∷◌, ◌++◌, Option, Some, None, refl, ap, sym, ◌∙◌, append_assoc, arith}
use Rattle.std.proofs.lemmas.List.{append-nil}
use Rattle.std.specs.Option.{option_map}
use Rattle.c_values.specs.declared.values.Value as V
use Rattle.c_values.specs.CodeValue.{value_of}
use Rattle.run_lines.specs.CodeEnds.{given}
use Rattle.run_lines.specs.RunLines.{bytes_from, first_of}

-- one byte more
pub bytes_more : (bytes : ℕ → ℕ) (a k : ℕ) → bytes_from bytes a (k + 1) ≡ bytes_from bytes a k ++ bytes (a + k) ∷ []
bytes_more bytes a zero = let same : a + 0 ≡ a = omega arith in ap (λ n. bytes n ∷ []) (sym same)
bytes_more bytes a (suc k) =
    let more : suc k + 1 ≡ suc (k + 1) = omega arith in
    let next : a + 1 + k ≡ a + suc k = omega arith in
    ap (bytes_from bytes a) more ∙ ap (λ bs. bytes a ∷ bs) (bytes_more bytes (a + 1) k ∙ ap (λ n. bytes_from bytes (a + 1) k ++ bytes n ∷ []) next)

pub all_written : (now whole : List ℕ) → now ++ [] ≡ whole → now ≡ whole
all_written now whole h = sym (append-nil now) ∙ h

-- a line in three parts
pub line_written : (old first second now who text last whole : List ℕ) → first ≡ old ++ who → second ≡ first ++ text → whole ≡ who ++ (text ++ last) → now ≡ second ++ last → now ≡ old ++ whole
line_written old first second now who text last whole a b e c =
    c ∙ ap (λ x. x ++ last) b ∙ append_assoc first text last ∙ ap (λ x. x ++ (text ++ last)) a ∙ append_assoc old who (text ++ last) ∙ ap (λ x. old ++ x) (sym e)

-- lines in four parts
pub four_written : (old first second third now a b c d : List ℕ) → first ≡ old ++ a → second ≡ first ++ b → third ≡ second ++ c → now ≡ third ++ d → now ≡ old ++ (a ++ (b ++ (c ++ d)))
four_written old first second third now a b c d p q r s =
    s ∙ ap (λ x. x ++ d) r ∙ append_assoc second c d ∙ ap (λ x. x ++ (c ++ d)) q ∙ append_assoc first b (c ++ d) ∙ ap (λ x. x ++ (b ++ (c ++ d))) p ∙ append_assoc old a (b ++ (c ++ d))

-- the one value that a program gives
pub first_given : (v : Option V.Value) → first_of (given v) ≡ option_map value_of v
first_given None = refl
first_given (Some v) = refl
