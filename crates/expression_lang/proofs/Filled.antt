-- What a fill number picks is among what may be picked.
use Rattle.std.proofs.Common.{ℕ, ◌-◌, ◌%◌, ◌^◌, ◌<◌, ℤ, pos, negsuc, false, refl, sym, subst, arith}
use Rattle.std.proofs.lemmas.Nat.{pow_pos, mod_below}
use Rattle.correspondence.specs.Outcome.{Outcome, Done, Failed, Stopped, done, any}
use Rattle.correspondence.specs.Included.{Included}
use Rattle.correspondence.proofs.Included.{included_itself, then_included}
use Rattle.c_values.specs.Word.{Word, IsWord, word}
use Rattle.c_values.specs.Value.{Value, Truth}
use Rattle.c_values.specs.Choice.{Any, Fill, picked}
use Rattle.expression_lang.specs.Sort.{Kind, WordKind, NatKind, IntKind, BoolKind}
use Rattle.expression_lang.specs.View.{IsTruth, picked_at, picked_word_at}

rest_below : (m r : ℕ) → 0 < m → m - 1 - r < m
rest_below m r h = omega arith

pub word_fits : (width : ℕ) (n : ℤ) → IsWord width (word width n)
word_fits width (pos n) = record { has_width = refl; fits = mod_below n (2 ^ width) (pow_pos width) }
word_fits width (negsuc n) = record { has_width = refl; fits = rest_below (2 ^ width) (n % 2 ^ width) (pow_pos width) }

-- done with one answer that has P
one_of_any : {A F : Type 0} (P : A → Type 0) (a : A) → P a → Included {A = A} {F = F} (done a) (any P)
one_of_any {A} {F} P a h = record { each = each }
  where
    each : (o : Outcome A F) → done a o → any P o
    each (Done b) e = subst P (sym e) h
    each (Failed f) e = e
    each (Stopped w) e = e

pub picked_included : {F : Type 0} (k width : ℕ) → Included {A = Word} {F = F} (picked (Fill k) width) (picked Any width)
picked_included k width = one_of_any (IsWord width) (word width (pos k)) (word_fits width (pos k))

pub picked_at_included : {F : Type 0} (k : ℕ) (kind : Kind) → Included {A = Value} {F = F} (picked_at (Fill k) kind) (picked_at Any kind)
picked_at_included k (WordKind n) = then_included _ _ _ _ (picked_included k n) (λ w. included_itself _)
picked_at_included k (NatKind n) = then_included _ _ _ _ (picked_included k n) (λ w. included_itself _)
picked_at_included k (IntKind n) = then_included _ _ _ _ (picked_included k n) (λ w. included_itself _)
picked_at_included k BoolKind = one_of_any IsTruth (Truth false) tt

pub picked_word_at_included : {F : Type 0} (k : ℕ) (kind : Kind) → Included {A = Value} {F = F} (picked_word_at (Fill k) kind) (picked_word_at Any kind)
picked_word_at_included k (WordKind n) = picked_at_included k (WordKind n)
picked_word_at_included k (NatKind n) = picked_at_included k (WordKind n)
picked_word_at_included k (IntKind n) = picked_at_included k (WordKind n)
picked_word_at_included k BoolKind = picked_at_included k BoolKind
