-- Steps in the second part of a second part, and so on.
use Rattle.std.proofs.Common.{◌≡◌, ℕ, zero, suc, ◌+◌, false, cond, ◌&&◌, refl, sym, ap, ap₂, ◌∙◌, arith}
use Rattle.monad_lang.specs.Program.{Mon}
use Rattle.rule_trees.specs.RuleTree.{Tree, node, no_trees, tree}
use Rattle.rule_eq.specs.Rule as R
use Rattle.rule_eq.specs.Rule.{Rule}
use Rattle.rule_walks.specs.Balanced.{Chain, single, chained, built}
use Rattle.rule_walks.specs.Walk.{Walk, Second, Goes, stays, has_stayed, joined_walks, steps_in, seconds, second_tree, second_trees, over_bind, over_two, over_one, one_walk, Before, Nothing, Led, and_led}

pub seconds_built : (k : ℕ) (c : Chain) → built (steps_in (seconds k (Goes c))) ≡ second_trees k (built c)
seconds_built zero c = refl
seconds_built (suc k) c = ap second_tree (seconds_built k c)

-- from inside
pub inner_second : (k : ℕ) (t : Tree Rule) → second_trees k (second_tree t) ≡ second_trees (suc k) t
inner_second zero t = refl
inner_second (suc k) t = ap second_tree (inner_second k t)

-- one less outside, and one more inside
pub around : (k j : ℕ) (t : Tree Rule) → suc j ≡ k → second_trees j (second_tree t) ≡ second_trees k t
around k j t e = inner_second j t ∙ ap (λ i. second_trees i t) e

pub seconds_go : (k : ℕ) (c : Chain) → has_stayed (seconds k (Goes c)) ≡ false
seconds_go zero c = refl
seconds_go (suc k) c = refl

pub here_single : (k : ℕ) (c : Chain) (t u : Tree Rule) → (k ≡ 0 → ⊥) → t ≡ built c → u ≡ second_trees k t →
    single u ≡ steps_in (seconds k (Goes c))
here_single zero c t u e h i = absurd (e refl)
here_single (suc n) c t u e h i =
    ap single (i ∙ ap (second_trees (suc n)) h) ∙ ap (λ t. single (second_tree t)) (sym (seconds_built n c))

pub here_whole : (c : Chain) (k : ℕ) → k ≡ 0 → c ≡ steps_in (seconds k (Goes c))
here_whole c k e = ap (λ j. steps_in (seconds j (Goes c))) (sym e)

-- Steps behind others

module _ (k : ℕ) (c : Chain) where
  abbrev there : Walk
  there = seconds k (Goes c)

  pub went_stays : (m : Mon) → there ≡ joined_walks there m stays
  went_stays m = ap (λ a. cond a stays there) (sym (seconds_go k c))

  pub went_both : (m : Mon) (j : ℕ) (d first then new : Chain) → first ≡ steps_in there → then ≡ steps_in (seconds j (Goes d)) →
      new ≡ chained first m then → Goes new ≡ joined_walks there m (seconds j (Goes d))
  went_both m j d first then new f s n =
      ap Goes (n ∙ ap₂ (λ a b. chained a m b) f s)
      ∙ ap₂ (λ a b. cond a (seconds j (Goes d)) (cond b there (Goes (chained (steps_in there) m (steps_in (seconds j (Goes d)))))))
      (sym (seconds_go k c)) (sym (seconds_go j d))

  pub led_first : (m : Mon) → Led there m ≡ and_led Nothing there m
  led_first m = ap (λ a. cond a Nothing (Led there m)) (sym (seconds_go k c))

  pub led_both : (n m : Mon) (j : ℕ) (d first then new : Chain) → first ≡ steps_in (seconds j (Goes d)) → then ≡ steps_in there →
      new ≡ chained first n then → Led (Goes new) m ≡ and_led (Led (seconds j (Goes d)) n) there m
  led_both n m j d first then new f s e =
      ap (λ w. Led w m)
      (ap Goes (e ∙ ap₂ (λ a b. chained a n b) f s)
      ∙ ap₂ (λ a b. cond a there (cond b (seconds j (Goes d)) (Goes (chained (steps_in (seconds j (Goes d))) n (steps_in there)))))
      (sym (seconds_go j d)) (sym (seconds_go k c)))
      ∙ ap (λ a. cond a (Led (seconds j (Goes d)) n) (Led (joined_walks (seconds j (Goes d)) n there) m)) (sym (seconds_go k c))

  -- in the parts of programs

  pub second_more : (n : ℕ) → n ≡ k + 1 → seconds n (Goes c) ≡ over_bind stays there
  second_more n e =
      ap (λ j. seconds j (Goes c)) (e ∙ one k) ∙ ap (λ a. cond a stays (Second no_trees there)) (sym (seconds_go k c))
    where
      one : (k : ℕ) → k + 1 ≡ suc k
      one k = omega arith

  pub both_went : (w : Walk) (first last t : Tree Rule) → first ≡ built (steps_in there) → last ≡ built (steps_in w) →
      t ≡ node R.Bind (tree first (tree last no_trees)) → one_walk t ≡ over_bind there w
  both_went w first last t f l e =
      ap one_walk (e ∙ ap₂ (λ a b. node R.Bind (tree a (tree b no_trees))) f l) ∙ sym (bind_goes k)
    where
      bind_goes : (k : ℕ) → over_bind (seconds k (Goes c)) w
          ≡ one_walk (node R.Bind (tree (built (steps_in (seconds k (Goes c)))) (tree (built (steps_in w)) no_trees)))
      bind_goes zero = refl
      bind_goes (suc k) = refl

  pub branches_first : (w : Walk) (first last t : Tree Rule) → first ≡ built (steps_in there) → last ≡ built (steps_in w) →
      t ≡ node R.If (tree first (tree last no_trees)) → one_walk t ≡ over_two R.If there w
  branches_first w first last t f l e =
      ap one_walk (e ∙ ap₂ (λ a b. node R.If (tree a (tree b no_trees))) f l)
      ∙ ap (λ a. cond (a && has_stayed w) stays
      (one_walk (node R.If (tree (built (steps_in there)) (tree (built (steps_in w)) no_trees))))) (sym (seconds_go k c))

  pub branches_second : (first last t : Tree Rule) → first ≡ node R.Refl no_trees → last ≡ built (steps_in there) →
      t ≡ node R.If (tree first (tree last no_trees)) → one_walk t ≡ over_two R.If stays there
  branches_second first last t f l e =
      ap one_walk (e ∙ ap₂ (λ a b. node R.If (tree a (tree b no_trees))) f l)
      ∙ ap (λ a. cond a stays
      (one_walk (node R.If (tree (node R.Refl no_trees) (tree (built (steps_in there)) no_trees))))) (sym (seconds_go k c))

  pub body_went : (first t : Tree Rule) → first ≡ built (steps_in there) → t ≡ node R.Loop (tree first no_trees) →
      one_walk t ≡ over_one R.Loop there
  body_went first t f e =
      ap one_walk (e ∙ ap (λ a. node R.Loop (tree a no_trees)) f)
      ∙ ap (λ a. cond a stays (one_walk (node R.Loop (tree (built (steps_in there)) no_trees)))) (sym (seconds_go k c))

pub led_stays : (b : Before) (m : Mon) → b ≡ and_led b stays m
led_stays Nothing m = refl
led_stays (Led v n) m = refl
