-- A choice and a loop after their steps, and what is done in them.
use Rattle.std.proofs.Common.{◌≡◌, suc, ◌+◌, Bool, true, false, [], ◌∷◌, Some, None, refl, sym, ap, ap₂, ◌∙◌, subst}
use Rattle.expression_lang.specs.Expression.{Exp, TruthLit}
use Rattle.ac_expr.specs.Fact.{Whole, NotTrue}
use Rattle.monad_lang.specs.Program as M
use Rattle.monad_lang.specs.Program.{Mon}
use Rattle.rule_eq.specs.Rule as R
use Rattle.rule_eq.specs.Rule.{Point}
use Rattle.rule_eq.specs.Table.{knowing, within}
use Rattle.rule_walks.specs.Walk.{walk_of, one_walk, over_one, over_two, Walked, walked, then_walked, Nothing, after_before, and_led}
use Rattle.expression_steps.specs.Rewritten.{direct_nodes}
use Rattle.expression_steps.specs.Shortened.{shortened}
use Rattle.polish.specs.Polished.{Polished, leaf, unchanged, and_then, shortened_in, if_tree, chosen, turning, polished}
use Rattle.polish.specs.Parts.{IsIf, IsLoop, IsSimple}
use Rattle.polish.specs.Weight.{weight}
use Rattle.polish.specs.Branches.{test_in, chosen_in, Turn, turn_in}
use Rattle.polish.specs.Seen.{seen}
use Rattle.polish.proofs.Alike.{IsLeaf, steps_alike}
use Rattle.polish.proofs.Cases.{some_same}
use Rattle.polish.proofs.Walks.{seen_then, walk_if, walk_loop}
use Rattle.polish.proofs.Descending.{step_seen}
use Rattle.polish.proofs.Unfolded.{of_choice, of_loop, of_leaf}

is_constant : (e : Exp) (b : Bool) → chosen_in e ≡ Some b → e ≡ TruthLit b
is_constant (TruthLit c) b h = ap TruthLit (some_same c b h)
is_constant e b h = absurd cc

-- A choice

module _ (at : Point) (m n : Mon) (f g : Point → Polished) where
  branch_taken : (e : Exp) (x : Mon) → IsIf m n x → test_in x ≡ Some e → x ≡ M.If e m n
  branch_taken e (M.If c a b) h k =
      ap (λ q. M.If q a b) (some_same c e k) ∙ ap₂ (λ q r. M.If e q r) h.0 h.1
  branch_taken e x h k = absurd h

  pub no_test : (x : Mon) → IsIf m n x → test_in x ≡ None → ⊥
  no_test (M.If c a b) h k = cc
  no_test x h k = h

  step_taken : (p : Mon) (q : Polished) →
      after_before (and_led Nothing (one_walk (leaf R.IfConst)) p) (seen q) ≡ seen (and_then (leaf R.IfConst) p q)
  step_taken p q = sym (step_seen (λ a r. unchanged r) f at Nothing R.IfConst p q)

  pub first_taken : (x : Mon) (e : Exp) → IsIf m n x → test_in x ≡ Some e → chosen_in e ≡ Some true →
      after_before (and_led Nothing (one_walk (leaf R.IfConst)) m) (seen (f at)) ≡ seen (chosen at x f g)
  first_taken x e h k i =
      step_taken m (f at)
      ∙ sym (ap (λ y. seen (chosen at y f g)) (branch_taken e x h k ∙ ap (λ c. M.If c m n) (is_constant e true i)))

  pub second_taken : (x : Mon) (e : Exp) → IsIf m n x → test_in x ≡ Some e → chosen_in e ≡ Some false →
      after_before (and_led Nothing (one_walk (leaf R.IfConst)) n) (seen (g at)) ≡ seen (chosen at x f g)
  second_taken x e h k i =
      step_taken n (g at)
      ∙ sym (ap (λ y. seen (chosen at y f g)) (branch_taken e x h k ∙ ap (λ c. M.If c m n) (is_constant e false i)))

  in_both : (e : Exp) → chosen_in e ≡ None →
      chosen at (M.If e m n) f g
      ≡ record {
        program = M.If e (f (knowing (Whole e) at)).program (g (knowing (NotTrue e) at)).program;
        tree = if_tree (f (knowing (Whole e) at)).tree (g (knowing (NotTrue e) at)).tree;
      }
  in_both (TruthLit true) h = absurd cc
  in_both (TruthLit false) h = absurd cc
  in_both e h = refl

  pub both_made : (x : Mon) (e : Exp) (p q : Walked) → IsIf m n x → test_in x ≡ Some e → chosen_in e ≡ None →
      p ≡ seen (f (knowing (Whole e) at)) → q ≡ seen (g (knowing (NotTrue e) at)) →
      walked (M.If e p.program q.program) (over_two R.If p.walk q.walk) ≡ seen (chosen at x f g)
  both_made x e p q h k i j l =
      let a = f (knowing (Whole e) at) in
      let b = g (knowing (NotTrue e) at) in
      ap₂ (λ r s. walked (M.If e r.program s.program) (over_two R.If r.walk s.walk)) j l
      ∙ ap (λ w. walked (M.If e a.program b.program) w) (sym (walk_if a.tree b.tree))
      ∙ sym (ap seen (ap (λ y. chosen at y f g) (branch_taken e x h k) ∙ in_both e i))

-- A loop

module _ (at : Point) (m : Mon) (f : Point → Polished) where
  pub no_turn : (x : Mon) → IsLoop m x → turn_in x ≡ None → ⊥
  no_turn (M.Loop starts guard test a) h k = cc
  no_turn x h k = h

  turn_taken : (x : Mon) (k : Turn) → IsLoop m x → turn_in x ≡ Some k → x ≡ M.Loop k.starts k.guard k.test m
  turn_taken (M.Loop starts guard test a) k h i =
      ap (λ q. M.Loop starts guard test q) h
      ∙ ap (λ q. M.Loop q.starts q.guard q.test m) (some_same (record { starts = starts; guard = guard; test = test }) k i)
  turn_taken x k h i = absurd h

  pub body_made : (x : Mon) (k : Turn) (p : Walked) → IsLoop m x → turn_in x ≡ Some k →
      p ≡ seen (f (within k.starts (Whole k.test ∷ Whole k.guard ∷ []) at)) →
      walked (M.Loop k.starts k.guard k.test p.program) (over_one R.Loop p.walk) ≡ seen (turning at x f)
  body_made x k p h i j =
      let a = f (within k.starts (Whole k.test ∷ Whole k.guard ∷ []) at) in
      ap (λ r. walked (M.Loop k.starts k.guard k.test r.program) (over_one R.Loop r.walk)) j
      ∙ ap (λ w. walked (M.Loop k.starts k.guard k.test a.program) w) (sym (walk_loop a.tree))
      ∙ sym (ap (λ y. seen (turning at y f)) (turn_taken x k h i))

-- Programs that are no sequences, after their steps

pub choice_weight : (a b x : Mon) → IsIf a b x → weight x ≡ suc (weight a + weight b)
choice_weight a b (M.If e m n) h = ap₂ (λ p q. suc (weight p + weight q)) h.0 h.1
choice_weight a b x h = absurd h

pub loop_weight : (a x : Mon) → IsLoop a x → weight x ≡ suc (weight a)
loop_weight a (M.Loop starts guard test m) h = ap (λ p. suc (weight p)) h
loop_weight a x h = absurd h

module _ (at : Point) (r : Walked) where
  pub choice_left : (a b x : Mon) → IsIf a b x → r ≡ seen (shortened_in at x) → IsIf a b r.program
  choice_left a b (M.If e m n) i h =
      subst (λ q. IsIf a b q) (sym (ap (λ q. q.program) h))
      (subst (λ p. IsIf p b (shortened_in at (M.If e m n)).program) i.0
      (subst (λ p. IsIf m p (shortened_in at (M.If e m n)).program) i.1
      (steps_alike shortened at (direct_nodes (M.If e m n)) (M.If e m n))))
  choice_left a b x i h = absurd i

  pub loop_left : (a x : Mon) → IsLoop a x → r ≡ seen (shortened_in at x) → IsLoop a r.program
  loop_left a (M.Loop starts guard test m) i h =
      subst (λ q. IsLoop a q) (sym (ap (λ q. q.program) h))
      (subst (λ p. IsLoop p (shortened_in at (M.Loop starts guard test m)).program) i
      (steps_alike shortened at (direct_nodes (M.Loop starts guard test m)) (M.Loop starts guard test m)))
  loop_left a x i h = absurd i

  pub choice_made : (a b x : Mon) → IsIf a b x → r ≡ seen (shortened_in at x) →
      then_walked r.walk r.program (seen (chosen at r.program (λ c. polished c a) (λ c. polished c b)))
      ≡ seen (polished at x)
  choice_made a b (M.If e m n) i h =
      let f = shortened_in at (M.If e m n) in
      ap (λ q. then_walked q.walk q.program (seen (chosen at q.program (λ c. polished c a) (λ c. polished c b)))) h
      ∙ ap₂ (λ p q. then_walked (walk_of f.tree) f.program (seen (chosen at f.program (λ c. polished c p) (λ c. polished c q))))
      (sym i.0) (sym i.1)
      ∙ sym (seen_then f.tree f.program (chosen at f.program (λ c. polished c m) (λ c. polished c n)))
      ∙ sym (ap seen (of_choice at e m n))
  choice_made a b x i h = absurd i

  pub loop_made : (a x : Mon) → IsLoop a x → r ≡ seen (shortened_in at x) →
      then_walked r.walk r.program (seen (turning at r.program (λ c. polished c a))) ≡ seen (polished at x)
  loop_made a (M.Loop starts guard test m) i h =
      let f = shortened_in at (M.Loop starts guard test m) in
      ap (λ q. then_walked q.walk q.program (seen (turning at q.program (λ c. polished c a)))) h
      ∙ ap (λ p. then_walked (walk_of f.tree) f.program (seen (turning at f.program (λ c. polished c p)))) (sym i)
      ∙ sym (seen_then f.tree f.program (turning at f.program (λ c. polished c m)))
      ∙ sym (ap seen (of_loop at starts guard test m))
  loop_made a x i h = absurd i

  pub leaf_made : (m : Mon) → IsSimple m → r ≡ seen (shortened_in at m) → r ≡ seen (polished at m)
  leaf_made m h i = i ∙ sym (ap seen (of_leaf at m (is_leaf m h)))
    where
      is_leaf : (m : Mon) → IsSimple m → IsLeaf m
      is_leaf (M.Bind m xs n) h = absurd h
      is_leaf (M.If e m n) h = absurd h
      is_leaf (M.Loop starts guard test m) h = absurd h
      is_leaf m h = tt
