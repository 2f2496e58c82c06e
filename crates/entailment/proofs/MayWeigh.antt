-- Whether a fact may be taken so often, as far as it isn't of a place: an equation of numbers, or not less than never.
use Rattle.std.proofs.Common.{◌≡◌, Bool, true, false, ◌&&◌, ◌||◌, ℤ, pos, ◌⊎◌, inl, inr, refl}
use Rattle.std.specs.Prelude.{int_le}
use Rattle.std.proofs.lemmas.Bool.{and_parts, and_from}
use Rattle.expression_lang.specs.Expression.{Exp, Eq}
use Rattle.expression_lang.specs.Sort.{Scope, sort_of, is_number}
use Rattle.entailment.specs.Linear.{AreNumbers, is_equation}
use Rattle.entailment.specs.CodeSums.{are_numbers}

module _ (g : Scope) (n : ℤ) where
  abbrev Weighs : Exp → Type 0
  Weighs e = AreNumbers g e × ((is_equation e ≡ true) ⊎ (int_le (pos 0) n ≡ true))

  abbrev weigh : Exp → Bool
  weigh e = are_numbers g e && (is_equation e || int_le (pos 0) n)

  by_weight : (false ≡ true) ⊎ (int_le (pos 0) n ≡ true) → int_le (pos 0) n ≡ true
  by_weight (inl i) = absurd cc
  by_weight (inr i) = i

  pub weighs : (e : Exp) → Weighs e → weigh e ≡ true
  weighs (Eq a b) h =
      let numbers = and_from (is_number (sort_of g a)) (is_number (sort_of g b)) h.0.0 h.0.1 in
      and_from (is_number (sort_of g a) && is_number (sort_of g b)) true numbers refl
  weighs e h = by_weight h.1

  pub weighed : (e : Exp) → weigh e ≡ true → Weighs e
  weighed (Eq a b) h =
      let all = and_parts (is_number (sort_of g a) && is_number (sort_of g b)) true h in
      (and_parts (is_number (sort_of g a)) (is_number (sort_of g b)) all.0, inl refl)
  weighed e h = (tt, inr h)
