-- When an expression is another one with some of a made b: it is b and the other is a, or the heads are the same and so are the
-- children but for some of a made b.
use Rattle.std.proofs.Common.{◌≡◌, ◌↔◌, Bool, IsTrue, List, [], ◌∷◌, ◌⊎◌, inl, inr, refl, sym, subst}
use Rattle.expression_lang.specs.Expression.{Exp}
use Rattle.ac_expr.specs.Heads.{head, children}
use Rattle.entailment.specs.declared.sides.Relation.{Relation}
use Rattle.entailment.specs.declared.sides.Relation.TheVariants.{AtMost, Equal}
use Rattle.entailment.specs.CodeSides.{related}
use Rattle.entailment.specs.Rewritten.{IsRewritten, kept, made, inside, AreRewritten, none, each}

module _ (a b : Exp) where
  abbrev pub Made : Exp → Exp → Type 0
  Made e e' = (e ≡ a) × (e' ≡ b)

  abbrev Parts : Exp → Exp → Type 0
  Parts e e' = (head e' ≡ head e) × AreRewritten a b (children e) (children e')

  all_kept : (es : List Exp) → AreRewritten a b es es
  all_kept [] = none
  all_kept (e ∷ es) = each kept (all_kept es)

  rewritten_is : (e e' : Exp) → IsRewritten a b e e' → Made e e' ⊎ Parts e e'
  rewritten_is _ _ (kept {e}) = inr (refl, all_kept (children e))
  rewritten_is _ _ made = inl (refl, refl)
  rewritten_is _ _ (inside h k) = inr (h, k)

  pub made_there : (e e' : Exp) → e ≡ a → e' ≡ b → IsRewritten a b e e'
  made_there e e' h k = subst (λ x. IsRewritten a b x e') (sym h) (subst (λ x. IsRewritten a b a x) (sym k) made)

  -- by its children
  pub by_children : (e e' : Exp) (es es' : List Exp) → (Made e e' → ⊥) → head e' ≡ head e → es ≡ children e → es' ≡ children e' →
      AreRewritten a b es es' ↔ IsRewritten a b e e'
  by_children e e' es es' not_made h at_left at_right = (λ k. inside h (forth k), λ k. back (by (rewritten_is e e' k)))
    where
      forth : AreRewritten a b es es' → AreRewritten a b (children e) (children e')
      forth k = subst (λ os. AreRewritten a b (children e) os) at_right (subst (λ os. AreRewritten a b os es') at_left k)

      back : AreRewritten a b (children e) (children e') → AreRewritten a b es es'
      back k = subst (λ os. AreRewritten a b es os) (sym at_right) (subst (λ os. AreRewritten a b os (children e')) (sym at_left) k)

      by : Made e e' ⊎ Parts e e' → AreRewritten a b (children e) (children e')
      by (inl k) = absurd (not_made k)
      by (inr k) = k.1

  pub other_head : (e e' : Exp) → (Made e e' → ⊥) → (head e' ≡ head e → ⊥) → IsRewritten a b e e' → ⊥
  other_head e e' not_made differ k = by (rewritten_is e e' k)
    where
      by : Made e e' ⊎ Parts e e' → ⊥
      by (inl h) = not_made h
      by (inr h) = differ h.0

  -- rows, of which the first is left

  rows_end : (es : List Exp) → AreRewritten a b [] es → es ≡ []
  rows_end _ none = refl

  rows_go_on : (e e' : Exp) (es es' : List Exp) → AreRewritten a b (e ∷ es) (e' ∷ es') → AreRewritten a b es es'
  rows_go_on _ _ _ _ (each h k) = k

  pub at_end : (ones others : List Exp) (test : Bool) (P : Type 0) → ones ≡ [] → (IsTrue test ↔ (others ≡ [])) →
      (AreRewritten a b ones others ↔ P) → IsTrue test ↔ P
  at_end ones others test P at_left says same =
      let left = subst (λ es. AreRewritten a b es others ↔ P) at_left same in
      (λ t. left.0 (subst (λ es. AreRewritten a b [] es) (sym (says.0 t)) none), λ k. says.1 (rows_end others (left.1 k)))

  pub goes_on : (e e' : Exp) (es es' ones others : List Exp) (P : Type 0) → ones ≡ e ∷ es → others ≡ e' ∷ es' → IsRewritten a b e e' →
      (AreRewritten a b ones others ↔ P) → AreRewritten a b es es' ↔ P
  goes_on e e' es es' ones others P at_left at_right h same =
      let both = subst (λ os. AreRewritten a b (e ∷ es) os ↔ P) at_right (subst (λ os. AreRewritten a b os others ↔ P) at_left same) in
      (λ k. both.0 (each h k), λ k. rows_go_on e e' es es' (both.1 k))

  -- a claim of two sides, by its sides

  both : (x y u v : Exp) → AreRewritten a b (x ∷ y ∷ []) (u ∷ v ∷ []) → IsRewritten a b x u × IsRewritten a b y v
  both _ _ _ _ (each h (each k none)) = (h, k)

  sides_parts : (r : Relation) (x y u v : Exp) → Parts (related r x y) (related r u v) → IsRewritten a b x u × IsRewritten a b y v
  sides_parts AtMost x y u v k = both x y u v k.1
  sides_parts Equal x y u v k = both x y u v k.1

  parts_there : (r : Relation) (x y u v : Exp) → IsRewritten a b x u → IsRewritten a b y v → IsRewritten a b (related r x y) (related r u v)
  parts_there AtMost x y u v h k = inside refl (each h (each k none))
  parts_there Equal x y u v h k = inside refl (each h (each k none))

  pub by_sides : (r : Relation) (x y u v e : Exp) → (Made (related r x y) e → ⊥) → e ≡ related r u v →
      (IsRewritten a b x u × IsRewritten a b y v) ↔ IsRewritten a b (related r x y) e
  by_sides r x y u v e not_made is = (
    λ k. subst (λ o. IsRewritten a b (related r x y) o) (sym is) (parts_there r x y u v k.0 k.1),
    λ k. by (rewritten_is (related r x y) e k),
  )
    where
      by : Made (related r x y) e ⊎ Parts (related r x y) e → IsRewritten a b x u × IsRewritten a b y v
      by (inl k) = absurd (not_made k)
      by (inr k) = sides_parts r x y u v (subst (λ o. Parts (related r x y) o) is k)
