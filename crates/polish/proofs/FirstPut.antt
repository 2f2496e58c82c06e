-- The first value that can be put in, with the names before it in their order.
use Rattle.std.proofs.Common.{◌≡◌, ℕ, zero, ◌+◌, true, false, cond, not, ◌&&◌, ◌||◌, List, [], ◌∷◌, ◌++◌, Option, Some, None, refl, sym, ap, ◌∙◌, arith}
use Rattle.std.proofs.Math.Bool.{or-false, or_comm}
use Rattle.c_values.specs.Name.{Name, same_name, is_among}
use Rattle.expression_lang.specs.Expression.{Exp, Var}
use Rattle.monad_lang.specs.Program.{Mon}
use Rattle.monad_lang.specs.Form.{can_be_put}
use Rattle.monad_lang.specs.Names.{is_free, is_captured}
use Rattle.value_putting.proofs.Putting.{among_both}
use Rattle.polish.specs.Polished.{one_later, first_put, is_literal, first_constant}
use Rattle.polish.specs.CodePutting.{put_later, put_behind}

-- names that are the same but for their order
abbrev AreSame : List Name → List Name → Type 0
AreSame xs ys = (y : Name) → is_among y xs ≡ is_among y ys

same_put : (e : Exp) (x : Name) (xs ys : List Name) (n : Mon) → AreSame xs ys → can_be_put e x xs n ≡ can_be_put e x ys n
same_put (Var y) x xs ys n h = ap (λ b. not b && not (is_captured y x n)) (h y)
same_put _ _ _ _ _ _ = refl

behind_same : (xs ys zs : List Name) → AreSame xs ys → AreSame (xs ++ zs) (ys ++ zs)
behind_same xs ys zs h y = among_both y xs zs ∙ ap (λ b. b || is_among y zs) (h y) ∙ sym (among_both y ys zs)

at_end : (x : Name) (xs ys : List Name) → AreSame xs ys → AreSame (x ∷ xs) (ys ++ x ∷ [])
at_end x xs ys h y =
    ap (λ b. same_name y x || b) (h y) ∙ or_comm (same_name y x) (is_among y ys)
    ∙ ap (λ b. is_among y ys || b) (sym (or-false (same_name y x))) ∙ sym (among_both y ys (x ∷ []))

ordered : (es : List Exp) (front before xs : List Name) (n : Mon) → AreSame front before → first_put front es xs n ≡ put_behind before es xs n
ordered [] front before xs n h = refl
ordered (e ∷ es) front before [] n h = refl
ordered (e ∷ es) front before (x ∷ xs) n h =
    ap (λ b. cond b (Some zero) (one_later (first_put (x ∷ front) es xs n)))
    (same_put e x (front ++ xs) (before ++ xs) n (behind_same front before xs h))
    ∙ ap (λ o. cond (can_be_put e x (before ++ xs) n) (Some zero) (one_later o)) (ordered es (x ∷ front) (before ++ x ∷ []) xs n (at_end x front before h))

later_none : (o : Option ℕ) → put_later 0 o ≡ o
later_none None = refl
later_none (Some i) = ap (λ j. Some j) (omega arith)

later_more : (k : ℕ) (o : Option ℕ) → put_later k (one_later o) ≡ put_later (k + 1) o
later_more k None = refl
later_more k (Some i) = ap (λ j. Some j) (omega arith)

pub put_begun : (es : List Exp) (xs : List Name) (n : Mon) → put_later 0 (put_behind [] es xs n) ≡ first_put [] es xs n
put_begun es xs n = later_none (put_behind [] es xs n) ∙ sym (ordered es [] [] xs n (λ y. refl))

pub put_here : (k : ℕ) (before : List Name) (e : Exp) (es : List Exp) (x : Name) (xs : List Name) (n : Mon) →
    can_be_put e x (before ++ xs) n ≡ true → put_later k (put_behind before (e ∷ es) (x ∷ xs) n) ≡ Some k
put_here k before e es x xs n h =
    ap (λ b. put_later k (cond b (Some zero) (one_later (put_behind (before ++ x ∷ []) es xs n)))) h ∙ ap (λ j. Some j) (omega arith)

pub put_next : (k : ℕ) (before : List Name) (e : Exp) (es : List Exp) (x : Name) (xs : List Name) (n : Mon) →
    can_be_put e x (before ++ xs) n ≡ false →
    put_later k (put_behind before (e ∷ es) (x ∷ xs) n) ≡ put_later (k + 1) (put_behind (before ++ x ∷ []) es xs n)
put_next k before e es x xs n h =
    ap (λ b. put_later k (cond b (Some zero) (one_later (put_behind (before ++ x ∷ []) es xs n)))) h
    ∙ later_more k (put_behind (before ++ x ∷ []) es xs n)

-- Constants

module _ (n : Mon) where
  pub constant_begun : (es : List Exp) (xs : List Name) → put_later 0 (first_constant es xs n) ≡ first_constant es xs n
  constant_begun es xs = later_none (first_constant es xs n)

  pub constant_here : (k : ℕ) (e : Exp) (es : List Exp) (x : Name) (xs : List Name) → (is_literal e && is_free x n) ≡ true →
      put_later k (first_constant (e ∷ es) (x ∷ xs) n) ≡ Some k
  constant_here k e es x xs h =
      ap (λ b. put_later k (cond b (Some zero) (one_later (first_constant es xs n)))) h ∙ ap (λ j. Some j) (omega arith)

  pub constant_next : (k : ℕ) (e : Exp) (es : List Exp) (x : Name) (xs : List Name) → (is_literal e && is_free x n) ≡ false →
      put_later k (first_constant (e ∷ es) (x ∷ xs) n) ≡ put_later (k + 1) (first_constant es xs n)
  constant_next k e es x xs h =
      ap (λ b. put_later k (cond b (Some zero) (one_later (first_constant es xs n)))) h
      ∙ later_more k (first_constant es xs n)
