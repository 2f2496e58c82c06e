-- The operators that take only the operands that they need: the conditions of such an operand stand under the test.
use Rattle.std.proofs.Common.{◌≡◌, true, false, not, ◌&&◌, ◌||◌, List, ◌++◌, None, Ok, cond, refl, sym, ap, ap₂, ◌∙◌, subst, append_assoc}
use Rattle.c_values.specs.Types.{CType}
use Rattle.c_values.specs.Value.{Value}
use Rattle.c_values.specs.Layout.{Layout, is_scalar}
use Rattle.expression_lang.specs.Evaluation.{Env, State, holds, if_truth}
use Rattle.expression_lang.specs.Evaluation as E
use Rattle.expression_lang.specs.Expression as X
use Rattle.simpl_lang.specs.Command.{Condition}
use Rattle.c_lang.specs.Typed as C
use Rattle.c_lang.specs.WellTyped.{has_type}
use Rattle.c_meaning.specs.CValue.{Defined, ◌>>=◌, int_of, is_true}
use Rattle.generation.specs.Guards.{exp, truth, under}
use Rattle.generation.specs.Refused.{refused}
use Rattle.generation.proofs.ExactValue.{Same, IsValueOf}
use Rattle.generation.proofs.FirstRefused.{same_weaken, same_made, same_choice, same_bind, refused_after, refused_behind, refused_under, refused_not_under}
use Rattle.generation.proofs.ExactTruth.{plain_value, truth_value}
use Rattle.generation.proofs.ExactOperations.{at_type}

module _ (l : Layout) (env : Env) (s : State) where
  pub not_value : (a : C.Expr) (v : Value) → is_scalar (C.type_of a) ≡ true → IsValueOf l env s a v → IsValueOf l env s (C.Not a) (int_of l (not (is_true v)))
  not_value a v h p = truth_value l env s (C.Not a) (not (is_true v)) refl refl (ap not (p.truth h))

  module _ (a b : C.Expr) (r t : Defined Value) (gs hs : List Condition) (left : is_scalar (C.type_of a) ≡ true) (right : is_scalar (C.type_of b) ≡ true)
      (h : Same r (refused l env s gs) (IsValueOf l env s a)) (k : Same t (refused l env s hs) (IsValueOf l env s b)) where
    pub and_exact : Same (r >>= λ v. cond (is_true v) (t >>= λ w. Ok (int_of l (is_true w))) (Ok (int_of l false))) (refused l env s (gs ++ under (truth l a) hs)) (IsValueOf l env s (C.And a b))
    and_exact =
        let other = t >>= λ w. Ok (int_of l (is_true w)) in
        same_bind l env s r (λ v. cond (is_true v) other (Ok (int_of l false))) gs (under (truth l a) hs) (IsValueOf l env s a) (IsValueOf l env s (C.And a b)) h
        (λ v p. same_choice (is_true v) other (Ok (int_of l false)) (refused l env s (under (truth l a) hs)) (refused l env s hs) None (IsValueOf l env s (C.And a b))
        (λ e. (
          refused_under l env s (truth l a) hs (p.truth left ∙ e),
          same_made t (λ w. int_of l (is_true w)) (refused l env s hs) (IsValueOf l env s b) (IsValueOf l env s (C.And a b)) k
              (λ w q. truth_value l env s (C.And a b) (is_true w) refl refl (ap₂ (λ x y. x && y) (p.truth left ∙ e) (q.truth right))),
        ))
        (λ e. (
          refused_not_under l env s (truth l a) hs (p.truth left ∙ e),
          (refl, truth_value l env s (C.And a b) false refl refl (ap (λ x. x && holds l env s (truth l b)) (p.truth left ∙ e))),
        )))

    pub or_exact : Same (r >>= λ v. cond (is_true v) (Ok (int_of l true)) (t >>= λ w. Ok (int_of l (is_true w)))) (refused l env s (gs ++ under (X.Not (truth l a)) hs)) (IsValueOf l env s (C.Or a b))
    or_exact =
        let other = t >>= λ w. Ok (int_of l (is_true w)) in
        same_bind l env s r (λ v. cond (is_true v) (Ok (int_of l true)) other) gs (under (X.Not (truth l a)) hs) (IsValueOf l env s a) (IsValueOf l env s (C.Or a b)) h
        (λ v p. same_choice (is_true v) (Ok (int_of l true)) other (refused l env s (under (X.Not (truth l a)) hs)) None (refused l env s hs) (IsValueOf l env s (C.Or a b))
        (λ e. (
          refused_not_under l env s (X.Not (truth l a)) hs (ap not (p.truth left ∙ e)),
          (refl, truth_value l env s (C.Or a b) true refl refl (ap (λ x. x || holds l env s (truth l b)) (p.truth left ∙ e))),
        ))
        (λ e. (
          refused_under l env s (X.Not (truth l a)) hs (ap not (p.truth left ∙ e)),
          same_made t (λ w. int_of l (is_true w)) (refused l env s hs) (IsValueOf l env s b) (IsValueOf l env s (C.Or a b)) k
              (λ w q. truth_value l env s (C.Or a b) (is_true w) refl refl (ap₂ (λ x y. x || y) (p.truth left ∙ e) (q.truth right))),
        )))

  -- the branch that the test chooses
  module _ (u : CType) (e a b : C.Expr) (x r t : Defined Value) (es gs hs : List Condition) (test : is_scalar (C.type_of e) ≡ true) (left : has_type u a ≡ true) (right : has_type u b ≡ true)
      (i : Same x (refused l env s es) (IsValueOf l env s e)) (h : Same r (refused l env s gs) (IsValueOf l env s a)) (k : Same t (refused l env s hs) (IsValueOf l env s b)) where
    left_branch : (v w : Value) → IsValueOf l env s e v → is_true v ≡ true → IsValueOf l env s a w → IsValueOf l env s (C.Choose u e a b) w
    left_branch v w p c q = plain_value l env s (C.Choose u e a b) w refl
        (ap (λ y. if_truth y (E.value l env s (exp l a)) (E.value l env s (exp l b))) (p.truth test ∙ c) ∙ q.is) (at_type l env s u a w left q)

    right_branch : (v w : Value) → IsValueOf l env s e v → is_true v ≡ false → IsValueOf l env s b w → IsValueOf l env s (C.Choose u e a b) w
    right_branch v w p c q = plain_value l env s (C.Choose u e a b) w refl
        (ap (λ y. if_truth y (E.value l env s (exp l a)) (E.value l env s (exp l b))) (p.truth test ∙ c) ∙ q.is) (at_type l env s u b w right q)

    pub choose_exact : Same (x >>= λ v. cond (is_true v) r t) (refused l env s (es ++ under (truth l e) gs ++ under (X.Not (truth l e)) hs)) (IsValueOf l env s (C.Choose u e a b))
    choose_exact =
        let then' = under (truth l e) gs in
        let else' = under (X.Not (truth l e)) hs in
        let Q = IsValueOf l env s (C.Choose u e a b) in
        subst (λ cs. Same (x >>= λ v. cond (is_true v) r t) (refused l env s cs) Q) (sym (append_assoc es then' else'))
        (same_bind l env s x (λ v. cond (is_true v) r t) es (then' ++ else') (IsValueOf l env s e) Q i
        (λ v p. same_choice (is_true v) r t (refused l env s (then' ++ else')) (refused l env s gs) (refused l env s hs) Q
        (λ c. (
          refused_behind l env s then' else' (refused_not_under l env s (X.Not (truth l e)) hs (ap not (p.truth test ∙ c))) ∙ refused_under l env s (truth l e) gs (p.truth test ∙ c),
          same_weaken r (refused l env s gs) (IsValueOf l env s a) Q h (λ w q. left_branch v w p c q),
        ))
        (λ c. (
          refused_after l env s then' else' (refused_not_under l env s (truth l e) gs (p.truth test ∙ c)) ∙ refused_under l env s (X.Not (truth l e)) hs (ap not (p.truth test ∙ c)),
          same_weaken t (refused l env s hs) (IsValueOf l env s b) Q k (λ w q. right_branch v w p c q),
        ))))
