-- The unknowns of an expression, and its value as its constant and the sum of its unknowns' values, each times its coefficient.
use Rattle.std.proofs.Common.{◌≡◌, true, List, [], ◌∷◌, ◌++◌, ℤ, pos, neg_ℤ, ◌+ℤ◌, ◌*ℤ◌, ap, ap₂, refl, ◌∙◌, arith}
use Rattle.std.proofs.lemmas.Int.{ints}
use Rattle.std.proofs.lemmas.Bool.{or_left}
use Rattle.std.proofs.Math.IntN.{*ℤ_comm}
use Rattle.c_values.specs.Number.{Add, Sub, Mul}
use Rattle.c_values.specs.Value.{number_in}
use Rattle.c_values.specs.Layout.{Layout}
use Rattle.expression_lang.specs.Expression.{Exp, NumberLit, Arith, Negate}
use Rattle.expression_lang.specs.Evaluation.{Env, State, value}
use Rattle.ac_expr.specs.SameExp.{same_exp}
use Rattle.ac_expr.proofs.Itself.{exp_itself}
use Rattle.entailment.specs.Linear.{Place, coefficient, of_literal, of_unknown}
use Rattle.entailment.proofs.LinearForms.{worth_of, worth-add, worth-neg, worth-times, worth-constant}
use Rattle.entailment.proofs.Distinct.{among, distinct, among_first, among_last, one_of}

abbrev pub unknowns : Exp → List Exp
unknowns (NumberLit n) = []
unknowns (Arith Add a b) = unknowns a ++ unknowns b
unknowns (Arith Sub a b) = unknowns a ++ unknowns b
unknowns (Arith Mul (NumberLit n) b) = unknowns b
unknowns (Arith Mul a (NumberLit n)) = unknowns a
unknowns (Negate a) = unknowns a
unknowns e = e ∷ []

-- all of the first are among the others
abbrev pub AreAmong : List Exp → List Exp → Type 0
AreAmong vs us = (e : Exp) → among e vs ≡ true → among e us ≡ true

pub first_among : (vs ws us : List Exp) → AreAmong (vs ++ ws) us → AreAmong vs us
first_among vs ws us h e k = h e (among_first e vs ws k)

pub last_among : (vs ws us : List Exp) → AreAmong (vs ++ ws) us → AreAmong ws us
last_among vs ws us h e k = h e (among_last e vs ws k)

module _ (l : Layout) (env : Env) (s : State) where
  abbrev pub number_at : Exp → ℤ
  number_at e = number_in (value l env s e)

  module _ (us : List Exp) where
    abbrev pub summed : (Place → ℤ) → ℤ
    summed f = worth_of number_at (distinct us) f

    unknown_summed : (e : Exp) → AreAmong (e ∷ []) us → summed (λ k. of_unknown k e) ≡ number_at e
    unknown_summed e h =
        ap (λ x. pos 0 +ℤ x) (one_of number_at e us (h e (or_left (same_exp e e) _ (exp_itself e))))
        ∙ omega (arith, ints)

    literal_summed : (n : ℤ) → summed (λ k. of_literal k n) ≡ n
    literal_summed n = worth-constant number_at (distinct us) (λ k. of_literal k n) (λ u. refl)

    abbrev form_of : Exp → Place → ℤ
    form_of e k = coefficient k e

    pub exp_summed : (e : Exp) → AreAmong (unknowns e) us → summed (λ k. coefficient k e) ≡ number_at e
    exp_summed (NumberLit n) h = literal_summed n
    exp_summed (Arith Add a b) h =
        worth-add number_at (distinct us) (form_of a) (form_of b)
        ∙ ap₂ (λ x y. x +ℤ y) (exp_summed a (first_among (unknowns a) (unknowns b) us h)) (exp_summed b (last_among (unknowns a) (unknowns b) us h))
    exp_summed (Arith Sub a b) h =
        worth-add number_at (distinct us) (form_of a) (λ k. neg_ℤ (coefficient k b))
        ∙ ap₂ (λ x y. x +ℤ y) (exp_summed a (first_among (unknowns a) (unknowns b) us h))
        (worth-neg number_at (distinct us) (form_of b) ∙ ap neg_ℤ (exp_summed b (last_among (unknowns a) (unknowns b) us h)))
    exp_summed (Arith Mul (NumberLit n) b) h = worth-times number_at (distinct us) n (form_of b) ∙ ap (λ x. n *ℤ x) (exp_summed b h)
    exp_summed (Arith Mul a (NumberLit n)) h =
        worth-times number_at (distinct us) n (form_of a)
        ∙ ap (λ x. n *ℤ x) (exp_summed a h)
        ∙ *ℤ_comm n (number_at a)
    exp_summed (Negate a) h = worth-neg number_at (distinct us) (form_of a) ∙ ap neg_ℤ (exp_summed a h)
    exp_summed e h = unknown_summed e h
