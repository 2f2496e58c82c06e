-- Lists of words: tests on each, and words that are counts.
use Rattle.std.proofs.Common.{◌≡◌, ℕ, Bool, true, false, not, ◌&&◌, ◌||◌, List, [], ◌∷◌, length, map, ◌≤◌, refl, sym, ap, ◌∙◌, arith}
use Rattle.std.specs.List.{list_any, list_all}
use Rattle.std.proofs.lemmas.Bool.{le-leb, ne_eqb}
use Rattle.c_values.specs.Name.{Name}
use Rattle.command_line.specs.Words.{is_count, is_digit}

pub list_any-map : {X : Type 0} (p : X → Bool) → {Y : Type 0} (h : Y → X) (ys : List Y) → list_any p (map h ys) ≡ list_any (λ y. p (h y)) ys
list_any-map p h [] = refl
list_any-map p h (y ∷ ys) = ap (λ b. p (h y) || b) (list_any-map p h ys)

of_digits : (digits short zero alone : Bool) → short ≡ true → zero ≡ false → ((digits && short) && (not zero || alone)) ≡ digits
of_digits true short zero alone h k = cc
of_digits false short zero alone h k = refl

-- a word of at most nine bytes that does not begin with `0` is a count where each byte is a digit
pub is_count-other : (word : Name) (c : ℕ) (cs : List ℕ) (answer : Bool) → word ≡ c ∷ cs → (c ≡ 48 → ⊥) → length word ≤ 9 → answer ≡ list_all is_digit word → answer ≡ is_count word
is_count-other word c cs answer e h le a =
    a ∙ ap (list_all is_digit) e ∙ sym (of_digits (list_all is_digit (c ∷ cs)) _ _ _ (le-leb (length (c ∷ cs)) 9 (omega (arith, le, ap length e))) (ne_eqb c 48 h)) ∙ ap is_count (sym e)
