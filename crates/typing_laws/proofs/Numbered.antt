-- The k-th variables of names are apart from each other, since no name has a `$`.
use Rattle.std.proofs.Common.{◌≡◌, ℕ, ◌+◌, ◌^◌, ◌<◌, ◌==◌, Bool, true, false, not, ◌&&◌, List, [], ◌∷◌, ◌++◌, codes, decimal, ◌⊎◌, inl, inr, refl, sym, ap, ◌∙◌, subst, arith, append_assoc}
use Rattle.std.proofs.lemmas.Bool.{false≢true, true≢false, eqb-true, eq-eqb, cases_Bool, or_left}
use Rattle.std.proofs.lemmas.Fmt.{decimal_injective}
use Rattle.std.specs.Char.{is_ascii_digit}
use Rattle.c_lex.specs.Bytes.{is_letter, is_word}
use Rattle.c_values.specs.Name.{Name}
use Rattle.c_lang.specs.WellTyped.{dollar, is_own_name}
use Rattle.typing_rules.specs.Progress.{numbered}
use Rattle.typing_laws.specs.Written.{are_words, IsName}
use Rattle.typing_laws.proofs.Tests.{both, left, right, not_true}

abbrev pub has_no_dollar : Name → Bool
has_no_dollar [] = true
has_no_dollar (c ∷ cs) = not (c == dollar) && has_no_dollar cs

-- without a `$`
abbrev pub IsPlain : Name → Type 0
IsPlain x = has_no_dollar x ≡ true

word_no_dollar : (c : ℕ) → is_word c ≡ true → not (c == dollar) ≡ true
word_no_dollar c h = by_cases (c == dollar) refl
  where
    by_cases : (b : Bool) → (c == dollar) ≡ b → not b ≡ true
    by_cases true e = absurd (false≢true (sym (ap is_word (eqb-true c dollar e)) ∙ h))
    by_cases false e = refl

words_plain : (s : List ℕ) → are_words s ≡ true → IsPlain s
words_plain [] h = refl
words_plain (c ∷ cs) h = both (word_no_dollar c (left (is_word c) (are_words cs) h)) (words_plain cs (right (is_word c) (are_words cs) h))

pub name_plain : (x : Name) → IsName x → IsPlain x
name_plain [] h = refl
name_plain (c ∷ cs) h =
    both (word_no_dollar c (or_left (is_letter c) (is_ascii_digit c) (left (is_letter c) (are_words cs) h))) (words_plain cs (right (is_letter c) (are_words cs) h))

head_same : (c d : ℕ) (cs ds : List ℕ) → c ∷ cs ≡ d ∷ ds → c ≡ d
head_same c d cs ds h = cc

tail_same : (c d : ℕ) (cs ds : List ℕ) → c ∷ cs ≡ d ∷ ds → cs ≡ ds
tail_same c d cs ds h = cc

not_dollar : (c : ℕ) (cs : List ℕ) → IsPlain (c ∷ cs) → c ≡ dollar → ⊥
not_dollar c cs h e = true≢false (sym (eq-eqb c dollar e) ∙ not_true (c == dollar) (left (not (c == dollar)) (has_no_dollar cs) h))

rest_plain : (c : ℕ) (cs : List ℕ) → IsPlain (c ∷ cs) → IsPlain cs
rest_plain c cs h = right (not (c == dollar)) (has_no_dollar cs) h

-- what stands before the first `$`
before_dollar : (x y r q : Name) → IsPlain x → IsPlain y → x ++ (dollar ∷ r) ≡ y ++ (dollar ∷ q) → (x ≡ y) × (r ≡ q)
before_dollar [] [] r q h k e = (refl, tail_same dollar dollar r q e)
before_dollar [] (d ∷ y) r q h k e = absurd (not_dollar d y k (sym (head_same dollar d r (y ++ (dollar ∷ q)) e)))
before_dollar (c ∷ x) [] r q h k e = absurd (not_dollar c x h (head_same c dollar (x ++ (dollar ∷ r)) q e))
before_dollar (c ∷ x) (d ∷ y) r q h k e =
    let p = before_dollar x y r q (rest_plain c x h) (rest_plain d y k) (tail_same c d (x ++ (dollar ∷ r)) (y ++ (dollar ∷ q)) e) in
    (ap (λ z. c ∷ z) p.0 ∙ ap (λ b. b ∷ y) (head_same c d (x ++ (dollar ∷ r)) (y ++ (dollar ∷ q)) e), p.1)

no_dollar_in : (x y q : Name) → IsPlain x → x ≡ y ++ (dollar ∷ q) → ⊥
no_dollar_in [] [] q h e = cc
no_dollar_in [] (d ∷ y) q h e = cc
no_dollar_in (c ∷ x) [] q h e = not_dollar c x h (head_same c dollar x q e)
no_dollar_in (c ∷ x) (d ∷ y) q h e = no_dollar_in x y q (rest_plain c x h) (tail_same c d x (y ++ (dollar ∷ q)) e)

-- the two forms of a numbered name
first_name : (x : Name) (k : ℕ) → k ≡ 0 → numbered x k ≡ x
first_name x k e = subst (λ n. numbered x n ≡ x) (sym e) refl

further_name : (x : Name) (k : ℕ) → (k == 0) ≡ false → numbered x k ≡ x ++ (dollar ∷ decimal (k + 1))
further_name x k e = let c : numbered x k ≡ x ++ codes "$" ++ decimal (k + 1) = rw e refl in c ∙ append_assoc x (codes "$") (decimal (k + 1))

pub numbered_apart : (x y : Name) (k j : ℕ) → IsPlain x → IsPlain y → k + 1 < 2 ^ 64 → j + 1 < 2 ^ 64 → numbered x k ≡ numbered y j → (x ≡ y) × (k ≡ j)
numbered_apart x y k j h c small little e = by_cases (cases_Bool (k == 0)) (cases_Bool (j == 0))
  where
    by_cases : ((k == 0) ≡ true) ⊎ ((k == 0) ≡ false) → ((j == 0) ≡ true) ⊎ ((j == 0) ≡ false) → (x ≡ y) × (k ≡ j)
    by_cases (inl a) (inl b) =
        let m = eqb-true k 0 a in
        let n = eqb-true j 0 b in
        (sym (first_name x k m) ∙ e ∙ first_name y j n, m ∙ sym n)
    by_cases (inl a) (inr b) = absurd (no_dollar_in x y (decimal (j + 1)) h (sym (first_name x k (eqb-true k 0 a)) ∙ e ∙ further_name y j b))
    by_cases (inr a) (inl b) = absurd (no_dollar_in y x (decimal (k + 1)) c (sym (first_name y j (eqb-true j 0 b)) ∙ sym e ∙ further_name x k a))
    by_cases (inr a) (inr b) =
        let p = before_dollar x y (decimal (k + 1)) (decimal (j + 1)) h c (sym (further_name x k a) ∙ e ∙ further_name y j b) in
        let n = decimal_injective (k + 1) (j + 1) small little p.1 in
        (p.0, omega (arith, n))

-- no numbered name begins with a `$`
pub numbered_own : (x : Name) (k : ℕ) → IsName x → is_own_name (numbered x k) ≡ true
numbered_own x k h = by_cases (cases_Bool (k == 0))
  where
    begins : (y : Name) (r : List ℕ) → IsName y → is_own_name (y ++ r) ≡ true
    begins [] r c = absurd (false≢true c)
    begins (c ∷ cs) r i = left (not (c == dollar)) (has_no_dollar cs) (name_plain (c ∷ cs) i)

    alone : (y : Name) → IsName y → is_own_name y ≡ true
    alone [] c = refl
    alone (c ∷ cs) i = left (not (c == dollar)) (has_no_dollar cs) (name_plain (c ∷ cs) i)

    by_cases : ((k == 0) ≡ true) ⊎ ((k == 0) ≡ false) → is_own_name (numbered x k) ≡ true
    by_cases (inl a) = subst (λ y. is_own_name y ≡ true) (sym (first_name x k (eqb-true k 0 a))) (alone x h)
    by_cases (inr a) = subst (λ y. is_own_name y ≡ true) (sym (further_name x k a)) (begins x (dollar ∷ decimal (k + 1)) h)
