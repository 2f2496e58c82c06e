-- Two words of a width are the same where their values are.
use Rattle.std.proofs.Common.{◌≡◌, ℕ, true, ◌==◌, sym, ap, ap₂, ◌∙◌}
use Rattle.std.proofs.lemmas.Bool.{eqb-true, and_parts, and_from}
use Rattle.std.proofs.lemmas.Bool.Decides.{Decides-eqb}
use Rattle.std.specs.Ordering.{int_eq}
use Rattle.std.specs.Cmp.{both_ways}
use Rattle.c_values.specs.Word.{Word, IsWord, unsigned, signed, word}
use Rattle.c_values.specs.Value.{Bits, same_value}
use Rattle.c_values.proofs.WordValues.{word-signed, word-unsigned}
use Rattle.expression_lang.proofs.Decided.{number_is, is_number}

same_is : (a b : Word) → same_value (Bits a) (Bits b) ≡ true → a ≡ b
same_is a b h =
    let p = and_parts (a.width == b.width) (a.bits == b.bits) h in
    ap₂ (λ n m. record { width = n; bits = m }) (eqb-true a.width b.width p.0) (eqb-true a.bits b.bits p.1)

same_refl : (a b : Word) → a ≡ b → same_value (Bits a) (Bits b) ≡ true
same_refl a b h = and_from (a.width == b.width) (a.bits == b.bits) ((Decides-eqb a.width b.width).1 (ap (λ w. w.width) h)) ((Decides-eqb a.bits b.bits).1 (ap (λ w. w.bits) h))

pub unsigned_same : (n : ℕ) (a b : Word) → IsWord n a → IsWord n b → int_eq (unsigned a) (unsigned b) ≡ same_value (Bits a) (Bits b)
unsigned_same n a b h k = both_ways (int_eq (unsigned a) (unsigned b)) (same_value (Bits a) (Bits b))
    (λ e. same_refl a b (sym (word-unsigned n a h) ∙ ap (word n) (number_is (unsigned a) (unsigned b) e) ∙ word-unsigned n b k))
    (λ e. is_number (unsigned a) (unsigned b) (ap unsigned (same_is a b e)))

pub signed_same : (n : ℕ) (a b : Word) → IsWord n a → IsWord n b → int_eq (signed a) (signed b) ≡ same_value (Bits a) (Bits b)
signed_same n a b h k = both_ways (int_eq (signed a) (signed b)) (same_value (Bits a) (Bits b))
    (λ e. same_refl a b (sym (word-signed n a h) ∙ ap (word n) (number_is (signed a) (signed b) e) ∙ word-signed n b k))
    (λ e. is_number (signed a) (signed b) (ap signed (same_is a b e)))
