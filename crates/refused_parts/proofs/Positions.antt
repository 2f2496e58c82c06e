-- What the claims at positions are about, in the lists that the tables' rows have.
use Rattle.std.proofs.Common.{◌≡◌, Bool, false, ℕ, zero, suc, ◌+◌, ◌-◌, ◌==◌, List, [], ◌∷◌, ◌++◌, length, Option, Some, None, ap, sym, ◌∙◌, arith, if◌then◌else◌}
use Rattle.std.proofs.lemmas.Bool.Decides.{nat_tests}
use Rattle.refused_parts.specs.CodeInside.{either}

-- the one at this position
abbrev pub IsAt : {A : Type 0} → List A → ℕ → A → Type 0
IsAt [] i d = ⊥
IsAt (c ∷ cs) zero d = d ≡ c
IsAt (c ∷ cs) (suc i) d = IsAt cs i d

not_yet : (n : ℕ) → (0 == suc n + 2) ≡ false
not_yet n = grind (arith, nat_tests)

one_less : (i n : ℕ) → (suc i == suc n + 2) ≡ (i == n + 2)
one_less i n = grind (arith, nat_tests)

module _ {Claim P : Type 0} (left : Claim → Option P) where
  -- none of the claims is about a part of the kind
  pub record AreBare (cs : List Claim) : Type 0 where
    pub none : (i : ℕ) (d : Claim) → IsAt cs i d → left d ≡ None

  pub no_claims : AreBare []
  no_claims = record { none = λ i d k. absurd k }

  none_at : (c : Claim) (cs : List Claim) → left c ≡ None → AreBare cs → (i : ℕ) (d : Claim) → IsAt (c ∷ cs) i d → left d ≡ None
  none_at c cs e h zero d k = ap left k ∙ e
  none_at c cs e h (suc i) d k = h.none i d k

  pub one_more : (c : Claim) (cs : List Claim) → left c ≡ None → AreBare cs → AreBare (c ∷ cs)
  one_more c cs e h = record { none = λ i d k. none_at c cs e h i d k }

  pub of_one : (m : P) (b d : Claim) (i : ℕ) → left b ≡ Some m → IsAt (b ∷ []) i d → left d ≡ Some m
  of_one m b d zero hb k = ap left k ∙ hb
  of_one m b d (suc i) hb k = absurd k

  -- of one of two, the other of which is none of the claims
  pub of_first : (m n : P) (b d : Claim) (i : ℕ) → left b ≡ Some m → IsAt (b ∷ []) i d → left d ≡ Some (either i m n)
  of_first m n b d zero hb k = ap left k ∙ hb
  of_first m n b d (suc i) hb k = absurd k

  pub of_two : (m n : P) (b c d : Claim) (i : ℕ) → left b ≡ Some m → left c ≡ Some n → IsAt (b ∷ c ∷ []) i d → left d ≡ Some (either i m n)
  of_two m n b c d zero hb hc k = ap left k ∙ hb
  of_two m n b c d (suc zero) hb hc k = ap left k ∙ hc
  of_two m n b c d (suc (suc i)) hb hc k = absurd k

  -- behind a claim without a part
  pub behind_one : (o : Option P) (b c d : Claim) (i : ℕ) → left b ≡ None → left c ≡ o → IsAt (b ∷ c ∷ []) i d → left d ≡ either i None o
  behind_one o b c d zero hb hc k = ap left k ∙ hb
  behind_one o b c d (suc zero) hb hc k = ap left k ∙ hc
  behind_one o b c d (suc (suc i)) hb hc k = absurd k

  pub two_behind : (m n : P) (a b c d : Claim) (i : ℕ) → left a ≡ None → left b ≡ Some m → left c ≡ Some n → IsAt (a ∷ b ∷ c ∷ []) i d → left d ≡ either i None (Some (either (i - 1) m n))
  two_behind m n a b c d zero ha hb hc k = ap left k ∙ ha
  two_behind m n a b c d (suc zero) ha hb hc k = ap left k ∙ hb
  two_behind m n a b c d (suc (suc zero)) ha hb hc k = ap left k ∙ hc
  two_behind m n a b c d (suc (suc (suc i))) ha hb hc k = absurd k

  chosen : (m : P) (s t : Bool) → s ≡ t → ◌≡◌ {A = Option P} (if t then Some m else None) (if s then Some m else None)
  chosen m s t e = sym (ap (λ (b : Bool). if b then Some m else None) e)

  -- behind some without a part, and two more
  pub last_of : (bare : List Claim) (c e b : Claim) (m : P) (n i : ℕ) (d : Claim) → AreBare bare → length bare ≡ n → left c ≡ None → left e ≡ None → left b ≡ Some m →
      IsAt (bare ++ (c ∷ e ∷ b ∷ [])) i d → left d ≡ (if i == n + 2 then Some m else None)
  last_of bare c e b m n i d h l hc he hb k = last_behind bare i h k ∙ ap (λ (j : ℕ). if i == j + 2 then Some m else None) l
    where
      last_behind : (bare : List Claim) (i : ℕ) → AreBare bare → IsAt (bare ++ (c ∷ e ∷ b ∷ [])) i d → left d ≡ (if i == length bare + 2 then Some m else None)
      last_behind [] zero h k = ap left k ∙ hc
      last_behind [] (suc zero) h k = ap left k ∙ he
      last_behind [] (suc (suc zero)) h k = ap left k ∙ hb
      last_behind [] (suc (suc (suc i))) h k = absurd k
      last_behind (x ∷ xs) zero h k = h.none 0 d k ∙ chosen m (0 == suc (length xs) + 2) false (not_yet (length xs))
      last_behind (x ∷ xs) (suc i) h k =
          let others : AreBare xs = record { none = λ j d' l. h.none (suc j) d' l } in
          last_behind xs i others k ∙ chosen m (suc i == suc (length xs) + 2) (i == length xs + 2) (one_less i (length xs))
