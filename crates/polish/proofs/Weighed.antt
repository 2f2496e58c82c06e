-- Polishing makes nothing heavier, and what it is done with again at a sequence is lighter.
use Rattle.std.proofs.Common.{◌≡◌, ℕ, zero, suc, ◌+◌, ◌<◌, ◌≤◌, true, false, cond, List, [], ◌∷◌, length, Option, Some, None, refl, ap, ◌∙◌, arith}
use Rattle.std.proofs.lemmas.Bool.{cond_both}
use Rattle.c_values.specs.Name.{Name, is_among}
use Rattle.expression_lang.specs.Expression.{Exp, TruthLit}
use Rattle.ac_expr.specs.Substituted.{substituted}
use Rattle.monad_lang.specs.Program as M
use Rattle.monad_lang.specs.Program.{Mon}
use Rattle.monad_lang.specs.Run.{start_names}
use Rattle.monad_lang.specs.Form.{is_bind_ret, all_kept, is_true_guard}
use Rattle.program_facts.specs.Substituted.{starts_substituted, program_substituted}
use Rattle.rule_eq.specs.Rule as R
use Rattle.rule_eq.specs.Rule.{Rule, Point}
use Rattle.rule_eq.specs.Table.{Taken, taken_at, with_values, knowing, behind, within}
use Rattle.rule_trees.specs.RuleTree.{Tree}
use Rattle.ac_expr.specs.Fact.{Whole, NotTrue}
use Rattle.expression_steps.specs.Rewritten.{direct_nodes}
use Rattle.expression_steps.specs.Shortened.{shortened}
use Rattle.expression_steps.specs.Known.{is_known}
use Rattle.polish.specs.Polished.{Polished, Way, leaf, unchanged, at_once, and_then, shortened_in, what_is_bound, first_put, first_constant, put_taken, put_at, turned, or_shorter, bound, then_all, settled, put_or_settled, parted, followed, chosen, turning, polished_with, polished_within, positions, polished}
use Rattle.polish.specs.Weight.{weight}
use Rattle.polish.specs.Parts.{IsIf, IsLoop}
use Rattle.polish.proofs.Alike.{IsLeaf, Alike, steps_alike}
use Rattle.polish.proofs.MadeTidy.{one_fewer}

module _ (x : Name) (e : Exp) where
  weight_put : (m : Mon) → weight (program_substituted x e m) ≡ weight m
  weight_put (M.Bind m xs n) =
      let a = weight_put m in
      let b = weight_put n in
      cond_both (is_among x xs) n (program_substituted x e n)
      (λ q.
      suc (length xs + weight (program_substituted x e m) + weight (program_substituted x e m) + weight q) ≡ suc
      (length xs + weight m + weight m + weight n))
      (λ i. ap (λ k. suc (length xs + k + k + weight n)) a)
      (λ i.
      ap (λ k. suc (length xs + k + k + weight (program_substituted x e n))) a ∙ ap
      (λ k. suc (length xs + weight m + weight m + k)) b)
  weight_put (M.If a m n) =
      ap (λ k. suc (k + weight (program_substituted x e n))) (weight_put m) ∙ ap (λ k. suc (weight m + k)) (weight_put n)
  weight_put (M.Loop starts guard test m) =
      cond_both (is_among x (start_names starts)) (M.Loop (starts_substituted x e starts) guard test m)
      (M.Loop (starts_substituted x e starts) (substituted x e guard) (substituted x e test) (program_substituted x e m))
      (λ q. weight q ≡ suc (weight m))
      (λ i. refl) (λ i. ap (λ k. suc k) (weight_put m))
  weight_put _ = refl

with_weight : (es : List Exp) (xs : List Name) (m : Mon) → weight (with_values es xs m) ≤ suc (length xs + weight m)
with_weight [] xs m = omega arith
with_weight (e ∷ es) xs m = omega arith

-- what a value was put into is lighter
pub put_lighter : (es : List Exp) (xs : List Name) (n : Mon) (i : ℕ) (k : Taken) → taken_at i es xs ≡ Some k →
    weight (with_values k.exps k.names (program_substituted k.name k.exp n)) < weight (M.Bind (M.Ret es) xs n)
put_lighter es xs n i k h =
    let a = with_weight k.exps k.names (program_substituted k.name k.exp n) in
    let b = weight_put k.name k.exp n in
    let c = one_fewer i es xs k h in
    omega (arith, a, b, c)

pub first_lighter : (a : Mon) (zs : List Name) (b : Mon) (xs : List Name) (n r : Mon) → weight r ≤ weight (M.Bind b xs n) →
    weight (M.Bind a zs r) < weight (M.Bind (M.Bind a zs b) xs n)
first_lighter a zs b xs n r h = omega (arith, h)

bound_lighter : (m : Mon) (xs : List Name) (n : Mon) → weight (what_is_bound m xs n) ≤ weight (M.Bind m xs n)
bound_lighter (M.Ret []) [] n = omega arith
bound_lighter m xs n = omega arith

shorter_lighter : (m : Mon) (xs : List Name) (n : Mon) (p : Polished) → weight p.program ≤ weight (M.Bind m xs n) →
    weight (or_shorter m xs n p).program ≤ weight (M.Bind m xs n)
shorter_lighter m xs n p h =
    cond_both (is_bind_ret m xs n) (at_once R.BindRet (what_is_bound m xs n))
    (cond (is_true_guard m xs) (at_once R.GuardKnown n) p) (λ q. weight q.program ≤ weight (M.Bind m xs n))
    (λ i. bound_lighter m xs n)
    (λ i.
    cond_both (is_true_guard m xs) (at_once R.GuardKnown n) p (λ q. weight q.program ≤ weight (M.Bind m xs n))
    (λ j. omega arith) (λ j. h))

module _ (again : Way) (lighter : (at : Point) (m : Mon) → weight (again at m).program ≤ weight m) where
  taken_lighter : (at : Point) (es : List Exp) (xs : List Name) (n : Mon) (i : ℕ) (o : Option Taken) → taken_at i es xs ≡ o →
      weight (put_taken again at (M.Bind (M.Ret es) xs n) i n o).program ≤ weight (M.Bind (M.Ret es) xs n)
  taken_lighter at es xs n i None h = omega arith
  taken_lighter at es xs n i (Some k) h =
      omega (arith, put_lighter es xs n i k h, lighter at (with_values k.exps k.names (program_substituted k.name k.exp n)))

  at_lighter : (at : Point) (es : List Exp) (xs : List Name) (n : Mon) (o : Option ℕ) →
      weight (put_at again at es xs n o).program ≤ weight (M.Bind (M.Ret es) xs n)
  at_lighter at es xs n None = omega arith
  at_lighter at es xs n (Some i) = taken_lighter at es xs n i (taken_at i es xs) refl

  pub sequence_lighter : (at : Point) (m : Mon) (xs : List Name) (n : Mon) →
      weight (bound again at m xs n).program ≤ weight (M.Bind m xs n)
  sequence_lighter at (M.Bind a zs b) xs n =
      let r = bound again (behind a zs at) b xs n in
      shorter_lighter (M.Bind a zs b) xs n
      (cond (all_kept zs xs n) (turned a zs b xs n r (λ r. bound again at a zs r)) (unchanged (M.Bind (M.Bind a zs b) xs n)))
      (cond_both (all_kept zs xs n) (turned a zs b xs n r (λ r. bound again at a zs r))
      (unchanged (M.Bind (M.Bind a zs b) xs n))
      (λ q. weight q.program ≤ weight (M.Bind (M.Bind a zs b) xs n))
      (λ e.
      omega (
        arith,
        sequence_lighter at a zs r.program,
        first_lighter a zs b xs n r.program (sequence_lighter (behind a zs at) b xs n),
      ))
      (λ e. omega arith))
  sequence_lighter at (M.Ret es) xs n =
      shorter_lighter (M.Ret es) xs n (put_at again at es xs n (first_put [] es xs n)) (at_lighter at es xs n (first_put [] es xs n))
  sequence_lighter at m xs n = shorter_lighter m xs n (unchanged (M.Bind m xs n)) (omega arith)

  -- a sequence whose first part is no heavier than it was

  module _ (last : Point → Polished) (n : Mon) (lasts : (at : Point) → weight (last at).program ≤ weight n) where
    settled_lighter : (at : Point) (t : Tree Rule) (m : Mon) (xs : List Name) →
        weight (settled again last at t m xs).program ≤ weight (M.Bind m xs n)
    settled_lighter at t m xs =
        omega (arith, lasts (behind m xs at), sequence_lighter at m xs (last (behind m xs at)).program)

    put_or_settled_lighter : (at : Point) (t : Tree Rule) (es : List Exp) (xs : List Name) (o : Option ℕ) →
        weight (put_or_settled again last at t es xs n o).program ≤ weight (M.Bind (M.Ret es) xs n)
    put_or_settled_lighter at t es xs None = settled_lighter at t (M.Ret es) xs
    put_or_settled_lighter at t es xs (Some i) = at_lighter at es xs n (Some i)

    pub followed_lighter : (at : Point) (t : Tree Rule) (o m : Mon) (xs : List Name) →
        weight (followed again last at t o m xs n).program ≤ weight (M.Bind m xs n)
    followed_lighter at t o (M.Bind a zs b) xs =
        let part = parted t o b in
        let w = followed again last (behind a zs at) part.tree part.second b xs n in
        let turn = then_all part.before (M.Bind a zs part.second) xs n
        (turned a zs part.second xs n w (λ r. bound again at a zs r)) in
        cond_both (is_bind_ret (M.Bind a zs b) xs n) (then_all t (M.Bind a zs b) xs n (at_once R.BindRet (M.Bind a zs b)))
        (cond (all_kept zs xs n) turn (settled again last at t (M.Bind a zs b) xs))
        (λ q. weight q.program ≤ weight (M.Bind (M.Bind a zs b) xs n))
        (λ e. omega arith)
        (λ e.
        cond_both (all_kept zs xs n) turn (settled again last at t (M.Bind a zs b) xs)
        (λ q. weight q.program ≤ weight (M.Bind (M.Bind a zs b) xs n))
        (λ i.
        omega (
          arith,
          sequence_lighter at a zs w.program,
          first_lighter a zs b xs n w.program (followed_lighter (behind a zs at) part.tree part.second b xs),
        ))
        (λ i. settled_lighter at t (M.Bind a zs b) xs))
    followed_lighter at t o (M.Ret es) xs = put_or_settled_lighter at t es xs (first_constant es xs n)
    followed_lighter at t o (M.Guard e) [] =
        cond_both (is_known at.facts e) (then_all t (M.Guard e) [] n (and_then (leaf R.GuardKnown) n (last at)))
        (settled again last at t (M.Guard e) [])
        (λ q. weight q.program ≤ weight (M.Bind (M.Guard e) [] n))
        (λ k. omega (arith, lasts at))
        (λ k. settled_lighter at t (M.Guard e) [])
    followed_lighter at t o m xs = settled_lighter at t m xs

  leaf_weight : (m : Mon) → IsLeaf m → weight m ≤ 0
  leaf_weight (M.Bind m xs n) h = absurd h
  leaf_weight (M.If e m n) h = absurd h
  leaf_weight (M.Loop starts guard test m) h = absurd h
  leaf_weight m h = omega arith

  chosen_lighter : (at : Point) (x m n : Mon) (first second : Point → Polished) → IsIf m n x →
      ((a : Point) → weight (first a).program ≤ weight m) → ((a : Point) → weight (second a).program ≤ weight n) →
      weight (chosen at x first second).program ≤ suc (weight m + weight n)
  chosen_lighter at (M.If (TruthLit true) a b) m n first second i h k = omega (arith, h at)
  chosen_lighter at (M.If (TruthLit false) a b) m n first second i h k = omega (arith, k at)
  chosen_lighter at (M.If e a b) m n first second i h k =
      omega (arith, h (knowing (Whole e) at), k (knowing (NotTrue e) at))
  chosen_lighter at x m n first second i h k = absurd i

  turning_lighter : (at : Point) (x m : Mon) (body : Point → Polished) → IsLoop m x →
      ((a : Point) → weight (body a).program ≤ weight m) → weight (turning at x body).program ≤ suc (weight m)
  turning_lighter at (M.Loop starts guard test a) m body i h = omega (arith, h (within starts (Whole test ∷ Whole guard ∷ []) at))
  turning_lighter at x m body i h = absurd i

  short_alike : (at : Point) (m : Mon) → Alike m (shortened_in at m).program
  short_alike at m = steps_alike shortened at (direct_nodes m) m

  with_lighter : (m : Mon) (at : Point) → weight (polished_with again m at).program ≤ weight m
  with_lighter (M.Bind m xs n) at =
      let p = polished_with again m at in
      omega (arith, with_lighter m at, followed_lighter (polished_with again n) n (with_lighter n) at p.tree m p.program xs)
  with_lighter (M.If e m n) at =
      chosen_lighter at (shortened_in at (M.If e m n)).program m n (polished_with again m) (polished_with again n)
      (short_alike at (M.If e m n)) (with_lighter m) (with_lighter n)
  with_lighter (M.Loop starts guard test m) at =
      turning_lighter at (shortened_in at (M.Loop starts guard test m)).program m (polished_with again m)
      (short_alike at (M.Loop starts guard test m)) (with_lighter m)
  with_lighter (M.Ret es) at = leaf_weight (shortened_in at (M.Ret es)).program (short_alike at (M.Ret es))
  with_lighter (M.Guard e) at = leaf_weight (shortened_in at (M.Guard e)).program (short_alike at (M.Guard e))
  with_lighter (M.Write q e) at = leaf_weight (shortened_in at (M.Write q e)).program (short_alike at (M.Write q e))
  with_lighter (M.Call f es) at = leaf_weight (shortened_in at (M.Call f es)).program (short_alike at (M.Call f es))
  with_lighter (M.Pick j) at = leaf_weight (shortened_in at (M.Pick j)).program (short_alike at (M.Pick j))

within_lighter : (k : ℕ) (at : Point) (m : Mon) → weight (polished_within k at m).program ≤ weight m
within_lighter zero at m = with_lighter (λ a n. unchanged n) (λ a n. omega arith) m at
within_lighter (suc k) at m = with_lighter (polished_within k) (within_lighter k) m at

pub polished_lighter : (at : Point) (m : Mon) → weight (polished at m).program ≤ weight m
polished_lighter at m = within_lighter (positions m) at m
