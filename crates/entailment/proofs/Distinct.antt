-- Lists of expressions in which each stands once: a sum over one meets an expression once.
use Rattle.std.proofs.Common.{◌≡◌, Bool, true, false, cond, ◌||◌, List, [], ◌∷◌, ◌++◌, ℤ, pos, ◌+ℤ◌, ◌*ℤ◌, ap, ap₂, subst, refl, ◌∙◌, arith}
use Rattle.std.specs.List.{list_any}
use Rattle.std.proofs.lemmas.Bool.{or_left, or_right}
use Rattle.std.proofs.lemmas.Int.{ints}
use Rattle.std.proofs.lemmas.List.Folds.{list_any-append}
use Rattle.expression_lang.specs.Expression.{Exp}
use Rattle.ac_expr.specs.SameExp.{same_exp}
use Rattle.ac_expr.proofs.SameExps.{exp_is}
use Rattle.entailment.specs.Linear.{Unknown, of_unknown}
use Rattle.entailment.proofs.LinearForms.{sum_of}

abbrev pub among : Exp → List Exp → Bool
among e us = list_any (λ u. same_exp u e) us

abbrev pub distinct : List Exp → List Exp
distinct [] = []
distinct (u ∷ us) = cond (among u us) (distinct us) (u ∷ distinct us)

pub among_first : (e : Exp) (us vs : List Exp) → among e us ≡ true → among e (us ++ vs) ≡ true
among_first e us vs h = list_any-append (λ u. same_exp u e) us vs ∙ or_left (among e us) (among e vs) h

pub among_last : (e : Exp) (us vs : List Exp) → among e vs ≡ true → among e (us ++ vs) ≡ true
among_last e us vs h = list_any-append (λ u. same_exp u e) us vs ∙ or_right (among e us) (among e vs) h

-- Sums

module _ (worth : Exp → ℤ) (e : Exp) where
  abbrev pub count_of : List Exp → ℤ
  count_of us = sum_of worth us (λ u. of_unknown (Unknown u) e)

  step : (u : Exp) (us : List Exp) (b c : Bool) → among u us ≡ b → same_exp u e ≡ c → count_of (distinct us) ≡ cond (among e us) (worth e) (pos 0)
      → count_of (cond b (distinct us) (u ∷ distinct us)) ≡ cond (c || among e us) (worth e) (pos 0)
  step u us true true h k rest = rest ∙ ap (λ b. cond b (worth e) (pos 0)) (subst (λ x. among x us ≡ true) (exp_is u e k) h)
  step u us true false h k rest = rest
  step u us false true h k rest =
      let same = exp_is u e k in
      let none = subst (λ x. among x us ≡ false) same h in
      let nothing = rest ∙ ap (λ b. cond b (worth e) (pos 0)) none in
      ap₂ (λ b x. cond b (pos 1) (pos 0) *ℤ worth x +ℤ count_of (distinct us)) k same
      ∙ ap (λ x. pos 1 *ℤ worth e +ℤ x) nothing
      ∙ omega (arith, ints)
  step u us false false h k rest =
      ap (λ b. cond b (pos 1) (pos 0) *ℤ worth u +ℤ count_of (distinct us)) k
      ∙ ap (λ x. pos 0 *ℤ worth u +ℤ x) rest
      ∙ omega (arith, ints)

  once : (us : List Exp) → count_of (distinct us) ≡ cond (among e us) (worth e) (pos 0)
  once [] = refl
  once (u ∷ us) = step u us (among u us) (same_exp u e) refl refl (once us)

  pub one_of : (us : List Exp) → among e us ≡ true → count_of (distinct us) ≡ worth e
  one_of us h = once us ∙ ap (λ b. cond b (worth e) (pos 0)) h
