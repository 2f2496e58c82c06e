-- The first condition of a list that is refused, and what is defined until then.
use Rattle.std.proofs.Common.{◌≡◌, Bool, true, false, not, ◌||◌, List, [], ◌∷◌, ◌++◌, Option, Some, None, Ok, Err, cond, refl, sym, ap, ◌∙◌, subst, append_assoc}
use Rattle.c_values.specs.Layout.{Layout}
use Rattle.expression_lang.specs.Evaluation.{Env, State, holds}
use Rattle.expression_lang.specs.Expression as E
use Rattle.expression_lang.specs.GuardKind.{GuardKind}
use Rattle.simpl_lang.specs.Command.{Condition}
use Rattle.c_meaning.specs.CValue.{Defined, ◌>>=◌, unless}
use Rattle.generation.specs.Guards.{when, under}
use Rattle.generation.specs.Refused.{refused}
use Rattle.generation.proofs.ExactValue.{Same}

kept : (b : Bool) (k : GuardKind) (o p q : Option GuardKind) → cond b o (Some k) ≡ None → (o ≡ None → p ≡ q) → cond b p (Some k) ≡ q
kept true k o p q h f = f h
kept false k o p q h f = absurd cc

stopped : (b : Bool) (k j : GuardKind) (o p : Option GuardKind) → cond b o (Some k) ≡ Some j → (o ≡ Some j → p ≡ Some j) → cond b p (Some k) ≡ Some j
stopped true k j o p h f = f h
stopped false k j o p h f = h

-- with what is known of an answer, more is known
pub same_weaken : {A : Type 0} (r : Defined A) (o : Option GuardKind) (P Q : A → Type 0) → Same r o P → ((a : A) → P a → Q a) → Same r o Q
same_weaken (Ok a) o P Q h f = (h.0, f a h.1)
same_weaken (Err k) o P Q h f = h

-- an answer made from another, with no condition more
pub same_made : {A B : Type 0} (r : Defined A) (f : A → B) (o : Option GuardKind) (P : A → Type 0) (Q : B → Type 0) → Same r o P → ((a : A) → P a → Q (f a)) → Same (r >>= λ a. Ok (f a)) o Q
same_made (Ok a) f o P Q h k = (h.0, k a h.1)
same_made (Err e) f o P Q h k = h

-- one of two by a test
pub same_choice : {A : Type 0} (b : Bool) (r t : Defined A) (o p q : Option GuardKind) (Q : A → Type 0) →
    (b ≡ true → (o ≡ p) × Same r p Q) → (b ≡ false → (o ≡ q) × Same t q Q) → Same (cond b r t) o Q
same_choice true r t o p q Q h k = subst (λ x. Same r x Q) (sym (h refl).0) (h refl).1
same_choice false r t o p q Q h k = subst (λ x. Same t x Q) (sym (k refl).0) (k refl).1

module _ (l : Layout) (env : Env) (s : State) where
  pub refused_after : (gs hs : List Condition) → refused l env s gs ≡ None → refused l env s (gs ++ hs) ≡ refused l env s hs
  refused_after [] hs h = refl
  refused_after (g ∷ gs) hs h = kept (holds l env s g.exp) g.kind (refused l env s gs) (refused l env s (gs ++ hs)) (refused l env s hs) h (refused_after gs hs)

  pub refused_first : (gs hs : List Condition) (k : GuardKind) → refused l env s gs ≡ Some k → refused l env s (gs ++ hs) ≡ Some k
  refused_first [] hs k h = absurd cc
  refused_first (g ∷ gs) hs k h = stopped (holds l env s g.exp) g.kind k (refused l env s gs) (refused l env s (gs ++ hs)) h (refused_first gs hs k)

  implied : (b c : Bool) (k : GuardKind) (o : Option GuardKind) → b ≡ true → cond (not b || c) o (Some k) ≡ cond c o (Some k)
  implied true c k o h = refl
  implied false c k o h = absurd cc

  pub refused_under : (e : E.Exp) (gs : List Condition) → holds l env s e ≡ true → refused l env s (under e gs) ≡ refused l env s gs
  refused_under e [] h = refl
  refused_under e (g ∷ gs) h =
      implied (holds l env s e) (holds l env s g.exp) g.kind (refused l env s (under e gs)) h
      ∙ ap (λ o. cond (holds l env s g.exp) o (Some g.kind)) (refused_under e gs h)

  skipped : (b c : Bool) (k : GuardKind) (o : Option GuardKind) → b ≡ false → o ≡ None → cond (not b || c) o (Some k) ≡ None
  skipped false c k o h e = e
  skipped true c k o h e = absurd cc

  pub refused_not_under : (e : E.Exp) (gs : List Condition) → holds l env s e ≡ false → refused l env s (under e gs) ≡ None
  refused_not_under e [] h = refl
  refused_not_under e (g ∷ gs) h = skipped (holds l env s e) (holds l env s g.exp) g.kind (refused l env s (under e gs)) h (refused_not_under e gs h)

  -- one after another
  pub same_bind : {A B : Type 0} (r : Defined A) (f : A → Defined B) (gs hs : List Condition) (P : A → Type 0) (Q : B → Type 0) →
      Same r (refused l env s gs) P → ((a : A) → P a → Same (f a) (refused l env s hs) Q) → Same (r >>= f) (refused l env s (gs ++ hs)) Q
  same_bind (Ok a) f gs hs P Q h k = subst (λ o. Same (f a) o Q) (sym (refused_after gs hs h.0)) (k a h.1)
  same_bind (Err e) f gs hs P Q h k = refused_first gs hs e h

  -- two that don't depend on one another, and then the rest
  pub same_both : {A B D : Type 0} (r : Defined A) (t : Defined B) (f : A → B → Defined D) (gs hs ks : List Condition) (P : A → Type 0) (P' : B → Type 0) (Q : D → Type 0) →
      Same r (refused l env s gs) P → Same t (refused l env s hs) P' → ((a : A) (b : B) → P a → P' b → Same (f a b) (refused l env s ks) Q) →
      Same (r >>= λ a. t >>= λ b. f a b) (refused l env s (gs ++ hs ++ ks)) Q
  same_both r t f gs hs ks P P' Q h k j =
      subst (λ xs. Same (r >>= λ a. t >>= λ b. f a b) (refused l env s xs) Q) (sym (append_assoc gs hs ks))
      (same_bind r (λ a. t >>= λ b. f a b) gs (hs ++ ks) P Q h (λ a p. same_bind t (f a) hs ks P' Q k (λ b q. j a b p q)))

  pub same_pair : {A B D : Type 0} (r : Defined A) (t : Defined B) (f : A → B → D) (gs hs : List Condition) (P : A → Type 0) (P' : B → Type 0) (Q : D → Type 0) →
      Same r (refused l env s gs) P → Same t (refused l env s hs) P' → ((a : A) (b : B) → P a → P' b → Q (f a b)) →
      Same (r >>= λ a. t >>= λ b. Ok (f a b)) (refused l env s (gs ++ hs)) Q
  same_pair r t f gs hs P P' Q h k j =
      same_bind r (λ a. t >>= λ b. Ok (f a b)) gs hs P Q h (λ a p. same_made t (f a) (refused l env s hs) P' Q k (λ b q. j a b p q))

  pub refused_behind : (gs hs : List Condition) → refused l env s hs ≡ None → refused l env s (gs ++ hs) ≡ refused l env s gs
  refused_behind gs hs h = by_first (refused l env s gs) refl
    where
      by_first : (o : Option GuardKind) → refused l env s gs ≡ o → refused l env s (gs ++ hs) ≡ refused l env s gs
      by_first None e = refused_after gs hs e ∙ h ∙ sym e
      by_first (Some k) e = refused_first gs hs k e ∙ sym e

  -- one condition, and then the rest
  pub same_unless : {A : Type 0} (t : Bool) (k : GuardKind) (e : E.Exp) (hs : List Condition) (r : Defined A) (Q : A → Type 0) →
      holds l env s e ≡ t → (t ≡ true → Same r (refused l env s hs) Q) → Same (unless t k r) (refused l env s (when k e ∷ hs)) Q
  same_unless t k e hs r Q h f = subst (λ b. Same (unless t k r) (cond b (refused l env s hs) (Some k)) Q) (sym h) (by_case t f)
    where
      by_case : (b : Bool) → (b ≡ true → Same r (refused l env s hs) Q) → Same (unless b k r) (cond b (refused l env s hs) (Some k)) Q
      by_case true f = f refl
      by_case false f = refl
