-- What the test of facts finds is known, and it finds all that is known.
use Rattle.std.proofs.Common.{◌≡◌, Bool, true, false, ◌&&◌, ◌||◌, List, [], ◌∷◌, ◌⊎◌, inl, inr, ◌↔◌, refl, subst}
use Rattle.std.proofs.lemmas.Bool.{and_parts, and_from, or_left, or_right}
use Rattle.expression_lang.specs.Expression.{Exp, NumberLit, TruthLit, Le, Between, And, Imp}
use Rattle.ac_expr.specs.Fact.{Fact, stands_for}
use Rattle.ac_expr.specs.SameExp.{same_exp}
use Rattle.ac_expr.specs.Known.{SomeFact, GivesAtOnce, Gives, IsKnown}
use Rattle.ac_expr.proofs.SameExps.{exp_is}
use Rattle.expression_steps.specs.Known.{some_fact, gives_at_once, gives, is_known}
use Rattle.ac_expr.proofs.Itself.{exp_itself}

found_same : (a b : Exp) → a ≡ b → same_exp a b ≡ true
found_same a b e = subst (λ x. same_exp a x ≡ true) e (exp_itself a)

sum : {P Q : Type 0} (a b : Bool) → (a ≡ true → P) → (b ≡ true → Q) → (a || b) ≡ true → P ⊎ Q
sum true b f g h = inl (f refl)
sum false b f g h = inr (g h)

back : {P Q : Type 0} (a b : Bool) → (P → a ≡ true) → (Q → b ≡ true) → P ⊎ Q → (a || b) ≡ true
back a b f g (inl p) = or_left a b (f p)
back a b f g (inr q) = or_right a b (g q)

some_holds : (test : Exp → Bool) (P : Exp → Type 0) → ((e : Exp) → test e ≡ true → P e) → (fs : List Fact) →
    some_fact test fs ≡ true → SomeFact P fs
some_holds test P k [] h = absurd cc
some_holds test P k (f ∷ fs) h = sum (test (stands_for f)) (some_fact test fs) (k (stands_for f)) (some_holds test P k fs) h

some_found : (test : Exp → Bool) (P : Exp → Type 0) → ((e : Exp) → P e → test e ≡ true) → (fs : List Fact) → SomeFact P fs →
    some_fact test fs ≡ true
some_found test P k [] h = absurd h
some_found test P k (f ∷ fs) h = back (test (stands_for f)) (some_fact test fs) (k (stands_for f)) (some_found test P k fs) h

module _ (e : Exp) where
  at_once_holds : (fact : Exp) → gives_at_once fact e ≡ true → GivesAtOnce fact e
  at_once_holds (And a b) h =
      sum (same_exp e (And a b)) (gives_at_once a e || gives_at_once b e) (exp_is e (And a b))
      (sum (gives_at_once a e) (gives_at_once b e) (at_once_holds a) (at_once_holds b)) h
  at_once_holds (Between low x high) h =
      sum (same_exp e (Between low x high)) (same_exp e (Le (NumberLit low) x) || same_exp e (Le x (NumberLit high)))
      (exp_is e (Between low x high))
      (sum (same_exp e (Le (NumberLit low) x)) (same_exp e (Le x (NumberLit high))) (exp_is e (Le (NumberLit low) x))
      (exp_is e (Le x (NumberLit high))))
      h
  at_once_holds fact h = exp_is e fact h

  at_once_found : (fact : Exp) → GivesAtOnce fact e → gives_at_once fact e ≡ true
  at_once_found (And a b) h =
      back (same_exp e (And a b)) (gives_at_once a e || gives_at_once b e) (found_same e (And a b))
      (back (gives_at_once a e) (gives_at_once b e) (at_once_found a) (at_once_found b)) h
  at_once_found (Between low x high) h =
      back (same_exp e (Between low x high)) (same_exp e (Le (NumberLit low) x) || same_exp e (Le x (NumberLit high)))
      (found_same e (Between low x high))
      (back (same_exp e (Le (NumberLit low) x)) (same_exp e (Le x (NumberLit high))) (found_same e (Le (NumberLit low) x))
      (found_same e (Le x (NumberLit high))))
      h
  at_once_found fact h = found_same e fact h

module _ (fs : List Fact) (e : Exp) where
  gives_holds : (fact : Exp) → gives fs fact e ≡ true → Gives fs fact e
  gives_holds (And a b) h =
      sum (same_exp e (And a b)) (gives fs a e || gives fs b e) (exp_is e (And a b))
      (sum (gives fs a e) (gives fs b e) (gives_holds a) (gives_holds b)) h
  gives_holds (Between low x high) h =
      sum (same_exp e (Between low x high)) (same_exp e (Le (NumberLit low) x) || same_exp e (Le x (NumberLit high)))
      (exp_is e (Between low x high))
      (sum (same_exp e (Le (NumberLit low) x)) (same_exp e (Le x (NumberLit high))) (exp_is e (Le (NumberLit low) x))
      (exp_is e (Le x (NumberLit high))))
      h
  gives_holds (Imp c d) h =
      sum (same_exp e (Imp c d)) (some_fact (λ fact. gives_at_once fact c) fs && gives fs d e) (exp_is e (Imp c d))
      (λ k.
      let p = and_parts (some_fact (λ fact. gives_at_once fact c) fs) (gives fs d e) k in
      (some_holds (λ fact. gives_at_once fact c) (λ fact. GivesAtOnce fact c) (at_once_holds c) fs p.0, gives_holds d p.1)) h
  gives_holds fact h = exp_is e fact h

  gives_found : (fact : Exp) → Gives fs fact e → gives fs fact e ≡ true
  gives_found (And a b) h =
      back (same_exp e (And a b)) (gives fs a e || gives fs b e) (found_same e (And a b))
      (back (gives fs a e) (gives fs b e) (gives_found a) (gives_found b)) h
  gives_found (Between low x high) h =
      back (same_exp e (Between low x high)) (same_exp e (Le (NumberLit low) x) || same_exp e (Le x (NumberLit high)))
      (found_same e (Between low x high))
      (back (same_exp e (Le (NumberLit low) x)) (same_exp e (Le x (NumberLit high))) (found_same e (Le (NumberLit low) x))
      (found_same e (Le x (NumberLit high))))
      h
  gives_found (Imp c d) h =
      back (same_exp e (Imp c d)) (some_fact (λ fact. gives_at_once fact c) fs && gives fs d e) (found_same e (Imp c d))
      (λ k.
      and_from (some_fact (λ fact. gives_at_once fact c) fs) (gives fs d e)
      (some_found (λ fact. gives_at_once fact c) (λ fact. GivesAtOnce fact c) (at_once_found c) fs k.0) (gives_found d k.1))
      h
  gives_found fact h = found_same e fact h

  -- The test of facts is exact.
  pub known_exactly : (is_known fs e ≡ true) ↔ IsKnown fs e
  known_exactly = (
    sum (same_exp e (TruthLit true)) (some_fact (λ fact. gives fs fact e) fs) (exp_is e (TruthLit true))
        (some_holds (λ fact. gives fs fact e) (λ fact. Gives fs fact e) gives_holds fs),
    back (same_exp e (TruthLit true)) (some_fact (λ fact. gives fs fact e) fs) (found_same e (TruthLit true))
        (some_found (λ fact. gives fs fact e) (λ fact. Gives fs fact e) gives_found fs),
  )
