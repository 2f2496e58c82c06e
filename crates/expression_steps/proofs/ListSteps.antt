-- The first step in a list is one in the first of its expressions in which there is one.
use Rattle.std.proofs.Common.{◌≡◌, ℕ, suc, ◌+◌, List, [], ◌∷◌, Option, Some, None, refl, sym, ap, ◌∙◌, arith}
use Rattle.std.specs.Option.{option_map}
use Rattle.expression_lang.specs.Expression.{Exp}
use Rattle.ac_expr.specs.Fact.{Fact}
use Rattle.monad_lang.specs.Program.{Start}
use Rattle.expression_steps.specs.Rewritten.{Choice, in_two, first_step, list_step, start_step}
use Rattle.expression_steps.specs.CodeProgramSteps.{Placed, put_at, later, or_later, first_in, first_start, with_exp, with_start}

at : (i j : ℕ) (e : Exp) → i ≡ j → put_at i e ≡ put_at j e
at i j e h = ap (λ k. put_at k e) h

one_more : (i : ℕ) → suc i ≡ 1 + i
one_more i = omega arith

later_none : (o : Option Placed) → later 0 o ≡ o
later_none None = refl
later_none (Some p) = ap (λ q. Some q) (at (0 + p.position) p.position p.exp (omega arith))

later_more : (k : ℕ) (o : Option Placed) → later k (later 1 o) ≡ later (k + 1) o
later_more k None = refl
later_more k (Some p) = ap (λ q. Some q) (at (k + (1 + p.position)) (k + 1 + p.position) p.exp (omega arith))

in_order : (k : ℕ) (o : Option Exp) (e : Exp) (r : Option Placed) → o ≡ Some e → later k (or_later o r) ≡ Some (put_at k e)
in_order k o e r h = ap (λ p. later k (or_later p r)) h ∙ ap (λ q. Some q) (at (k + 0) k e (omega arith))

after_none : (k : ℕ) (o : Option Exp) (r : Option Placed) → o ≡ None → later k (or_later o r) ≡ later (k + 1) r
after_none k o r h = ap (λ p. later k (or_later p r)) h ∙ later_more k r

module _ (f : Choice) (fs : List Fact) where
  -- the position is counted from before
  pub begun : (k : ℕ) (es : List Exp) → k ≡ 0 → later k (first_in f fs es) ≡ first_in f fs es
  begun k es h = ap (λ n. later n (first_in f fs es)) h ∙ later_none (first_in f fs es)

  pub here : (k p : ℕ) (e new : Exp) (es : List Exp) (all : Option Placed) → p ≡ k → first_step f fs e ≡ Some new →
      later k (first_in f fs (e ∷ es)) ≡ all → Some (put_at p new) ≡ all
  here k p e new es all h i j =
      ap (λ q. Some q) (at p k new h) ∙ sym (in_order k (first_step f fs e) new (first_in f fs es) i) ∙ j

  pub next : (k n : ℕ) (e : Exp) (es : List Exp) (all : Option Placed) → n ≡ k + 1 → first_step f fs e ≡ None →
      later k (first_in f fs (e ∷ es)) ≡ all → later n (first_in f fs es) ≡ all
  next k n e es all h i j =
      ap (λ m. later m (first_in f fs es)) h ∙ sym (after_none k (first_step f fs e) (first_in f fs es) i) ∙ j

  pub start_begun : (k : ℕ) (ss : List Start) → k ≡ 0 → later k (first_start f fs ss) ≡ first_start f fs ss
  start_begun k ss h = ap (λ n. later n (first_start f fs ss)) h ∙ later_none (first_start f fs ss)

  pub start_here : (k p : ℕ) (s : Start) (new : Exp) (ss : List Start) (all : Option Placed) → p ≡ k →
      first_step f fs s.exp ≡ Some new → later k (first_start f fs (s ∷ ss)) ≡ all → Some (put_at p new) ≡ all
  start_here k p s new ss all h i j =
      ap (λ q. Some q) (at p k new h) ∙ sym (in_order k (first_step f fs s.exp) new (first_start f fs ss) i) ∙ j

  pub start_next : (k n : ℕ) (s : Start) (ss : List Start) (all : Option Placed) → n ≡ k + 1 →
      first_step f fs s.exp ≡ None → later k (first_start f fs (s ∷ ss)) ≡ all → later n (first_start f fs ss) ≡ all
  start_next k n s ss all h i j =
      ap (λ m. later m (first_start f fs ss)) h ∙ sym (after_none k (first_step f fs s.exp) (first_start f fs ss) i) ∙ j

  pub list_placed : (es : List Exp) → list_step f fs es ≡ option_map (λ p. with_exp p.position p.exp es) (first_in f fs es)
  list_placed [] = refl
  list_placed (e ∷ es) = by_first (first_step f fs e) (list_step f fs es) (first_in f fs es) (list_placed es)
    where
      by_first : (o : Option Exp) (p : Option (List Exp)) (q : Option Placed) →
          p ≡ option_map (λ w. with_exp w.position w.exp es) q →
          in_two (λ x xs. x ∷ xs) e es o p ≡ option_map (λ w. with_exp w.position w.exp (e ∷ es)) (or_later o q)
      by_first (Some x) p q h = refl
      by_first None p None h = ap (λ r. in_two (λ x xs. x ∷ xs) e es None r) h
      by_first None p (Some w) h =
          ap (λ r. in_two (λ x xs. x ∷ xs) e es None r) h ∙ ap (λ i. Some (with_exp i w.exp (e ∷ es))) (one_more w.position)

  pub starts_placed : (ss : List Start) → start_step f fs ss ≡ option_map (λ p. with_start p.position p.exp ss) (first_start f fs ss)
  starts_placed [] = refl
  starts_placed (s ∷ ss) = by_first (first_step f fs s.exp) (start_step f fs ss) (first_start f fs ss) (starts_placed ss)
    where
      by_first : (o : Option Exp) (p : Option (List Start)) (q : Option Placed) →
          p ≡ option_map (λ w. with_start w.position w.exp ss) q →
          in_two (λ x xs. record { name = s.name; exp = x } ∷ xs) s.exp ss o p ≡ option_map (λ w. with_start w.position w.exp (s ∷ ss)) (or_later o q)
      by_first (Some x) p q h = refl
      by_first None p None h = ap (λ r. in_two (λ x xs. record { name = s.name; exp = x } ∷ xs) s.exp ss None r) h
      by_first None p (Some w) h =
          ap (λ r. in_two (λ x xs. record { name = s.name; exp = x } ∷ xs) s.exp ss None r) h
          ∙ ap (λ i. Some (with_start i w.exp (s ∷ ss))) (one_more w.position)
