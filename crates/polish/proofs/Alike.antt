-- What steps of expressions leave of a program.
use Rattle.std.proofs.Common.{◌≡◌, ℕ, zero, suc, Option, Some, None, refl, ◌∙◌}
use Rattle.expression_lang.specs.Sort.{Scope}
use Rattle.rule_eq.specs.Rule.{Point}
use Rattle.monad_lang.specs.Program as M
use Rattle.monad_lang.specs.Program.{Mon}
use Rattle.expression_steps.specs.Rewritten.{Choice}
use Rattle.polish.specs.Direct.{direct_step, more, direct_steps}
use Rattle.polish.specs.Polished.{last_of}
use Rattle.polish.specs.Parts.{IsIf, IsLoop}
use Rattle.polish.proofs.Cases.{one_case, two_case, three_case}

-- no program is a part of it
abbrev pub IsLeaf : Mon → Type 0
IsLeaf (M.Bind m xs n) = ⊥
IsLeaf (M.If e m n) = ⊥
IsLeaf (M.Loop starts guard test m) = ⊥
IsLeaf m = Unit {0}

-- the same but for its direct expressions
abbrev pub Alike : Mon → Mon → Type 0
Alike (M.Bind m xs n) r = r ≡ M.Bind m xs n
Alike (M.If e m n) r = IsIf m n r
Alike (M.Loop starts guard test m) r = IsLoop m r
Alike m r = IsLeaf r

same_alike : (m : Mon) → Alike m m
same_alike (M.Bind m xs n) = refl
same_alike (M.If e m n) = (refl, refl)
same_alike (M.Loop starts guard test m) = refl
same_alike m = tt

step_alike : (f : Scope → Choice) (at : Point) (m r : Mon) → direct_step f at m ≡ Some r → Alike m r
step_alike f at (M.Ret es) r h = one_case r (λ q. IsLeaf q) (λ xs. M.Ret xs) _ h (λ x j. tt)
step_alike f at (M.Guard e) r h = one_case r (λ q. IsLeaf q) (λ x. M.Guard x) _ h (λ x j. tt)
step_alike f at (M.If e m n) r h = one_case r (λ q. IsIf m n q) (λ x. M.If x m n) _ h (λ x j. (refl, refl))
step_alike f at (M.Write place e) r h = two_case r (λ q. IsLeaf q) (λ x y. M.Write x y) place e _ _ h (λ x j. tt) (λ y j. tt)
step_alike f at (M.Loop starts guard test m) r h =
    three_case r (λ q. IsLoop m q) (λ x y z. M.Loop x y z m) starts guard test _ _ _ h (λ x j. refl) (λ y j. refl) (λ z j. refl)
step_alike f at (M.Call g es) r h = one_case r (λ q. IsLeaf q) (λ xs. M.Call g xs) _ h (λ x j. tt)
step_alike f at _ r h = absurd cc

leaf_alike : (a b : Mon) → IsLeaf a → Alike a b → IsLeaf b
leaf_alike (M.Bind m xs n) b h k = absurd h
leaf_alike (M.If e m n) b h k = absurd h
leaf_alike (M.Loop starts guard test m) b h k = absurd h
leaf_alike a b h k = k

then_alike : (a b c : Mon) → Alike a b → Alike b c → Alike a c
then_alike (M.Bind m xs n) b c h k = bind_alike b h k
  where
    bind_alike : (b : Mon) → b ≡ M.Bind m xs n → Alike b c → c ≡ M.Bind m xs n
    bind_alike (M.Bind m' xs' n') h k = k ∙ h
    bind_alike b h k = absurd cc
then_alike (M.If e m n) (M.If e' m' n') c h k = if_alike c k
  where
    if_alike : (c : Mon) → IsIf m' n' c → IsIf m n c
    if_alike (M.If e'' m'' n'') k = (k.0 ∙ h.0, k.1 ∙ h.1)
    if_alike c k = absurd k
then_alike (M.Loop starts guard test m) (M.Loop starts' guard' test' m') c h k = loop_alike c k
  where
    loop_alike : (c : Mon) → IsLoop m' c → IsLoop m c
    loop_alike (M.Loop starts'' guard'' test'' m'') k = k ∙ h
    loop_alike c k = absurd k
then_alike (M.Ret es) b c h k = leaf_alike b c h k
then_alike (M.Guard e) b c h k = leaf_alike b c h k
then_alike (M.Write q e) b c h k = leaf_alike b c h k
then_alike (M.Call g es) b c h k = leaf_alike b c h k
then_alike (M.Pick kind) b c h k = leaf_alike b c h k
then_alike _ _ _ h _ = absurd h

pub steps_alike : (f : Scope → Choice) (at : Point) (n : ℕ) (m : Mon) → Alike m (last_of m (direct_steps f at n m))
steps_alike f at zero m = same_alike m
steps_alike f at (suc n) m = by_step (direct_step f at m) refl (λ x. steps_alike f at n x)
  where
    by_step : (o : Option Mon) → direct_step f at m ≡ o → ((x : Mon) → Alike x (last_of x (direct_steps f at n x))) →
        Alike m (last_of m (more o (λ x. direct_steps f at n x)))
    by_step None e r = same_alike m
    by_step (Some x) e r = then_alike m x (last_of x (direct_steps f at n x)) (step_alike f at m x e) (r x)
