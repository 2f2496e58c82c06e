-- A number is found by its key.
use Rattle.std.proofs.Common.{◌≡◌, ℕ, ℤ, pos, negsuc, Bool, true, false, cond, ◌||◌, List, [], ◌∷◌, ◌++◌, refl, sym, ap, ◌∙◌, arith}
use Rattle.std.proofs.lemmas.Bool.Decides.{nat_tests}
use Rattle.std.proofs.lemmas.Int.{ints}
use Rattle.std.proofs.lemmas.List.Folds.{list_any-append}
use Rattle.std.specs.List.{list_any}
use Rattle.std.specs.HashSet.{contains}
use Rattle.std.specs.Ordering.{int_eq}
use Rattle.std.proofs.Math.Bool.{or_comm}
use Rattle.typing_statements.specs.CodeKeys.{Keys, Finds, Notes, key_eq, key_of}

-- with more numbers
pub finds_more : (old new : Keys) (ns more : List ℤ) → Finds old ns → Notes more old new → Finds new (ns ++ more)
finds_more old new ns more h notes = λ n.
    notes n ∙ ap (λ b. list_any (int_eq n) more || b) (h n) ∙ or_comm (list_any (int_eq n) more) (list_any (int_eq n) ns) ∙ sym (list_any-append (int_eq n) ns more)

key_same : (m n : ℤ) → key_eq (key_of n) (key_of m) ≡ int_eq m n
key_same (pos a) (pos b) = grind (arith, ints, nat_tests)
key_same (negsuc a) (pos b) = grind (arith, ints, nat_tests)
key_same _ _ = grind (arith, ints, nat_tests)

-- with the key of a number
pub noted : (old new : Keys) (n : ℤ) → ((q : Bool × ℕ) → contains key_eq new q ≡ cond (key_eq (key_of n) q) true (contains key_eq old q)) → Notes (n ∷ []) old new
noted old new n h = λ m.
    h (key_of m) ∙ ap (λ b. cond b true (contains key_eq old (key_of m))) (key_same m n) ∙ by_cases (int_eq m n) (contains key_eq old (key_of m))
  where
    by_cases : (b x : Bool) → cond b true x ≡ ((b || false) || x)
    by_cases true x = refl
    by_cases false x = refl
