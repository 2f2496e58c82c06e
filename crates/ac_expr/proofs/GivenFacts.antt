-- What is known stays known among more facts; and where an implication is given, its right side is where a fact gives its left side.
use Rattle.std.proofs.Common.{◌≡◌, List, [], ◌∷◌, inl, inr, refl, sym, subst}
use Rattle.expression_lang.specs.Expression.{Exp, Between, And, Imp}
use Rattle.ac_expr.specs.Fact.{Fact, stands_for}
use Rattle.ac_expr.specs.Known.{SomeFact, GivesAtOnce, Gives}

-- given by a fact; and by one without an implication
abbrev pub IsGiven : List Fact → Exp → Type 0
IsGiven fs e = SomeFact (λ fact. Gives fs fact e) fs

abbrev pub IsGivenAtOnce : List Fact → Exp → Type 0
IsGivenAtOnce fs e = SomeFact (λ fact. GivesAtOnce fact e) fs

some_map : (P Q : Exp → Type 0) → ((x : Exp) → P x → Q x) → (fs : List Fact) → SomeFact P fs → SomeFact Q fs
some_map P Q k [] h = absurd h
some_map P Q k (f ∷ fs) (inl h) = inl (k (stands_for f) h)
some_map P Q k (f ∷ fs) (inr h) = inr (some_map P Q k fs h)

-- one fact more
gives_more : (f : Fact) (fs : List Fact) (x e : Exp) → Gives fs x e → Gives (f ∷ fs) x e
gives_more f fs (And a b) e (inl h) = inl h
gives_more f fs (And a b) e (inr (inl h)) = inr (inl (gives_more f fs a e h))
gives_more f fs (And a b) e (inr (inr h)) = inr (inr (gives_more f fs b e h))
gives_more f fs (Imp c d) e (inl h) = inl h
gives_more f fs (Imp c d) e (inr h) = inr (inr h.0, gives_more f fs d e h.1)
gives_more f fs (Between low x high) e h = h
gives_more f fs x e h = h

pub given_more : (f : Fact) (fs : List Fact) (e : Exp) → IsGiven fs e → IsGiven (f ∷ fs) e
given_more f fs e h = inr (some_map (λ x. Gives fs x e) (λ x. Gives (f ∷ fs) x e) (λ x k. gives_more f fs x e k) fs h)

-- an expression gives itself
pub gives_itself : (fs : List Fact) (e : Exp) → Gives fs e e
gives_itself fs (And a b) = inl refl
gives_itself fs (Imp c d) = inl refl
gives_itself fs (Between low x high) = inl refl
gives_itself fs e = refl

pub at_once_itself : (e : Exp) → GivesAtOnce e e
at_once_itself (And a b) = inl refl
at_once_itself (Between low x high) = inl refl
at_once_itself e = refl

pub first_given : (f : Fact) (fs : List Fact) → IsGiven (f ∷ fs) (stands_for f)
first_given f fs = inl (gives_itself (f ∷ fs) (stands_for f))

pub first_at_once : (f : Fact) (fs : List Fact) → IsGivenAtOnce (f ∷ fs) (stands_for f)
first_at_once f fs = inl (at_once_itself (stands_for f))

-- what stands under a condition that is given
gives_under : (fs : List Fact) (c d : Exp) → IsGivenAtOnce fs c → (x : Exp) → Gives fs x (Imp c d) → Gives fs x d
gives_under fs c d k (And a b) (inl h) = absurd cc
gives_under fs c d k (And a b) (inr (inl h)) = inr (inl (gives_under fs c d k a h))
gives_under fs c d k (And a b) (inr (inr h)) = inr (inr (gives_under fs c d k b h))
gives_under fs c d k (Imp p q) (inl h) =
    let left : c ≡ p = cc in
    let right : d ≡ q = cc in
    inr (subst (λ x. IsGivenAtOnce fs x) left k, subst (λ x. Gives fs q x) (sym right) (gives_itself fs q))
gives_under fs c d k (Imp p q) (inr h) = inr (h.0, gives_under fs c d k q h.1)
gives_under fs c d k (Between low x high) (inl h) = absurd cc
gives_under fs c d k (Between low x high) (inr (inl h)) = absurd cc
gives_under fs c d k (Between low x high) (inr (inr h)) = absurd cc
gives_under fs c d k x h = absurd cc

pub given_under : (fs : List Fact) (c d : Exp) → IsGivenAtOnce fs c → IsGiven fs (Imp c d) → IsGiven fs d
given_under fs c d k h = some_map (λ x. Gives fs x (Imp c d)) (λ x. Gives fs x d) (λ x i. gives_under fs c d k x i) fs h
