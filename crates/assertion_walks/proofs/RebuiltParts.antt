-- An expression is made anew where its parts are, one after the other.
use Rattle.std.proofs.Common.{◌≡◌, ◌↔◌, List, [], ◌∷◌, refl, sym, subst, subst₂}
use Rattle.expression_lang.specs.Expression.{Exp}
use Rattle.ac_expr.specs.Heads.{children}
use Rattle.assertion_walks.specs.Rebuilt.{IsRebuilt, AreRebuilt, rebuilt, none, each}
use Rattle.assertion_walks.specs.CodeRebuilt.{IsUnmade}

module _ (changes : Exp → Exp → Type 0) where
  first_rebuilt : {a b : Exp} {as' bs : List Exp} → AreRebuilt changes (a ∷ as') (b ∷ bs) →
      IsRebuilt changes a b × AreRebuilt changes as' bs
  first_rebuilt (each h hs) = (h, hs)

  no_more : {b : Exp} {bs : List Exp} → AreRebuilt changes [] (b ∷ bs) → ⊥
  no_more h = elim h [ ]

  from_parts : {e e' : Exp} (es : List Exp) → IsUnmade changes e e' es → IsRebuilt changes e e' → AreRebuilt changes (children e) es
  from_parts es u (rebuilt {e = e} {made = made} h hs k) = subst (λ xs. AreRebuilt changes (children e) xs) (u.only made h k) hs

  to_whole : {e e' : Exp} (es : List Exp) → IsUnmade changes e e' es → AreRebuilt changes (children e) es → IsRebuilt changes e e'
  to_whole {e = e} es u hs =
      rebuilt u.some.1 (subst (λ xs. AreRebuilt changes (children e) xs) (sym u.some.2) hs) u.some.3

  pub by_parts : (e e' : Exp) (ones others : List Exp) → IsUnmade changes e e' others → ones ≡ children e →
      AreRebuilt changes ones others ↔ IsRebuilt changes e e'
  by_parts e e' ones others u h = (
    (λ hs. to_whole others u (subst (λ xs. AreRebuilt changes xs others) h hs)),
    (λ k. subst (λ xs. AreRebuilt changes xs others) (sym h) (from_parts others u k)),
  )

  none_but_none : (others : List Exp) → AreRebuilt changes [] others → others ≡ []
  none_but_none [] hs = refl
  none_but_none (b ∷ bs) hs = absurd (no_more hs)

  -- rows of which the first is at its end
  pub ends_together : {P : Type 0} (ones others : List Exp) → ones ≡ [] → AreRebuilt changes ones others ↔ P → (others ≡ []) ↔ P
  ends_together ones others h so_far = (
    (λ k. so_far.0 (subst₂ (λ xs ys. AreRebuilt changes xs ys) (sym h) (sym k) none)),
    (λ k. none_but_none others (subst (λ xs. AreRebuilt changes xs others) h (so_far.1 k))),
  )

  -- behind the first of both
  module _ {P : Type 0} (a b : Exp) (as' bs ones others : List Exp) (at_left : ones ≡ a ∷ as') (at_right : others ≡ b ∷ bs)
      (so_far : AreRebuilt changes ones others ↔ P) where
    split : P → IsRebuilt changes a b × AreRebuilt changes as' bs
    split k = first_rebuilt (subst₂ (λ xs ys. AreRebuilt changes xs ys) at_left at_right (so_far.1 k))

    pub rest_rebuilt : IsRebuilt changes a b → AreRebuilt changes as' bs ↔ P
    rest_rebuilt same = (
      (λ hs. so_far.0 (subst₂ (λ xs ys. AreRebuilt changes xs ys) (sym at_left) (sym at_right) (each same hs))),
      (λ k. (split k).1),
    )
