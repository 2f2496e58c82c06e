-- What is stripped of a word: what follows a beginning that it has.
use Rattle.std.proofs.Common.{◌≡◌, ℕ, eqb, true, false, List, length, drop, Option, Some, None, Bor, refl, ap, ◌∙◌, ⊎_elim}
use Rattle.std.specs.Prelude.{IfSome, IfNone, MatchOption}
use Rattle.std.specs.List.{starts_with}
use Rattle.std.specs.Str.Pattern.{FindsTextPrefix, StripsPrefix}
use Rattle.std.proofs.lemmas.Slice.Eq.{starts_is}
use Rattle.std.proofs.lemmas.Bool.Decides.{Decides-eqb}
use Rattle.std.proofs.lemmas.Bool.{cases_Bool}

module _ (n s : List ℕ) where
  pub begins : (r : Option (Bor (List ℕ))) → MatchOption r (FindsTextPrefix n s None) (λ x. StripsPrefix (FindsTextPrefix n) s x.now) → IfSome r (λ x. starts_with eqb s n ≡ true)
  begins None h = tt
  begins (Some x) h = (starts_is Decides-eqb s n _ refl).1 _ h.1.1

  pub what_follows : (r : Option (Bor (List ℕ))) → MatchOption r (FindsTextPrefix n s None) (λ x. StripsPrefix (FindsTextPrefix n) s x.now) → IfSome r (λ x. x.now ≡ drop (length n) s)
  what_follows None h = tt
  what_follows (Some x) h = h.2 ∙ ap (λ k. drop k s) h.1.0

  pub begins_otherwise : (r : Option (Bor (List ℕ))) → MatchOption r (FindsTextPrefix n s None) (λ x. StripsPrefix (FindsTextPrefix n) s x.now) → IfNone r (starts_with eqb s n ≡ false)
  begins_otherwise None h = ⊎_elim (λ e. absurd (h _ ((starts_is Decides-eqb s n _ refl).0 e))) (λ e. e) (cases_Bool (starts_with eqb s n))
  begins_otherwise (Some x) h = tt
