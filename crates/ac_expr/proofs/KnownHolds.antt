-- What is known from facts that hold, holds.
use Rattle.std.proofs.Common.{◌≡◌, ℤ, Bool, true, false, not, ◌||◌, List, [], ◌∷◌, inl, inr, refl, sym, subst}
use Rattle.std.specs.Prelude.{int_le}
use Rattle.std.proofs.lemmas.Bool.{and_parts}
use Rattle.c_values.specs.Layout.{Layout}
use Rattle.c_values.specs.Value.{number_in}
use Rattle.expression_lang.specs.Expression.{Exp, And, Between, Imp}
use Rattle.expression_lang.specs.Evaluation.{Env, State, value, holds}
use Rattle.ac_expr.specs.Fact.{Fact, stands_for, AllSay}
use Rattle.ac_expr.specs.Known.{SomeFact, GivesAtOnce, Gives, IsKnown}

implied : (a b : Bool) → (not a || b) ≡ true → a ≡ true → b ≡ true
implied true b h k = h
implied false b h k = absurd cc

module _ (l : Layout) (env : Env) (s : State) where
  abbrev Holds : Exp → Type 0
  Holds e = holds l env s e ≡ true

  between_ends : (low high : ℤ) (x : Exp) → Holds (Between low x high) → (int_le low (number_in (value l env s x)) ≡ true) × (int_le (number_in (value l env s x)) high ≡ true)
  between_ends low high x h = and_parts (int_le low (number_in (value l env s x))) (int_le (number_in (value l env s x)) high) h

  at_once : (f e : Exp) → Holds f → GivesAtOnce f e → Holds e
  at_once (And a b) e h (inl g) = subst Holds (sym g) h
  at_once (And a b) e h (inr (inl g)) = at_once a e (and_parts (holds l env s a) (holds l env s b) h).0 g
  at_once (And a b) e h (inr (inr g)) = at_once b e (and_parts (holds l env s a) (holds l env s b) h).1 g
  at_once (Between low x high) e h (inl g) = subst Holds (sym g) h
  at_once (Between low x high) e h (inr (inl g)) = subst Holds (sym g) (between_ends low high x h).0
  at_once (Between low x high) e h (inr (inr g)) = subst Holds (sym g) (between_ends low high x h).1
  at_once f e h g = subst Holds (sym g) h

  from_some : (P : Exp → Type 0) (e : Exp) → ((f : Exp) → Holds f → P f → Holds e) → (fs : List Fact) → AllSay l env s fs → SomeFact P fs → Holds e
  from_some P e k [] h g = absurd g
  from_some P e k (f ∷ fs) h (inl g) = k (stands_for f) h.0 g
  from_some P e k (f ∷ fs) h (inr g) = from_some P e k fs h.1 g

  given : (fs : List Fact) → AllSay l env s fs → (f e : Exp) → Holds f → Gives fs f e → Holds e
  given fs k (And a b) e h (inl g) = subst Holds (sym g) h
  given fs k (And a b) e h (inr (inl g)) = given fs k a e (and_parts (holds l env s a) (holds l env s b) h).0 g
  given fs k (And a b) e h (inr (inr g)) = given fs k b e (and_parts (holds l env s a) (holds l env s b) h).1 g
  given fs k (Between low x high) e h (inl g) = subst Holds (sym g) h
  given fs k (Between low x high) e h (inr (inl g)) = subst Holds (sym g) (between_ends low high x h).0
  given fs k (Between low x high) e h (inr (inr g)) = subst Holds (sym g) (between_ends low high x h).1
  given fs k (Imp c d) e h (inl g) = subst Holds (sym g) h
  given fs k (Imp c d) e h (inr g) =
      given fs k d e (implied (holds l env s c) (holds l env s d) h (from_some (λ f. GivesAtOnce f c) c (λ f i j. at_once f c i j) fs k g.0)) g.1
  given fs k f e h g = subst Holds (sym g) h

  pub known_holds : (fs : List Fact) (e : Exp) → AllSay l env s fs → IsKnown fs e → holds l env s e ≡ true
  known_holds fs e h (inl k) = subst Holds (sym k) refl
  known_holds fs e h (inr k) = from_some (λ f. Gives fs f e) e (λ f i j. given fs h f e i j) fs h k
