-- A sequence of tidy programs is made tidy by the step that is told before.
use Rattle.std.proofs.Common.{◌≡◌, ℕ, Bool, true, false, cond, ◌||◌, List, [], Option, Some, None, refl, ap, ◌∙◌}
use Rattle.std.specs.Option.{option_map}
use Rattle.c_values.specs.Name.{Name}
use Rattle.expression_lang.specs.Expression.{Exp}
use Rattle.monad_lang.specs.Program as M
use Rattle.monad_lang.specs.Program.{Mon}
use Rattle.monad_lang.specs.Form.{is_bind_ret, is_true_guard, all_kept}
use Rattle.rule_eq.specs.Rule as R
use Rattle.rule_eq.specs.Rule.{Point}
use Rattle.rule_eq.specs.Table.{Taken, taken_at, behind}
use Rattle.polish.specs.Polished.{Polished, Way, leaf, unchanged, at_once, and_then, what_is_bound, first_put, put_taken, put_at, turned, bound}
use Rattle.polish.specs.CodeNext.{Settling, Stays, Gives, Skips, Turns, Puts, is_nothing, gives_names, where_put, otherwise, settling_of, stepped}
use Rattle.polish.specs.CodePutting.{with_taken, put_into}
use Rattle.polish.proofs.Cases.{some_same}

pub is_given : (m : Mon) (xs : List Name) (n : Mon) → is_bind_ret m xs n ≡ (is_nothing m xs || gives_names xs n)
is_given (M.Ret []) [] n = refl
is_given m xs (M.Ret es) = refl
is_given m xs n = refl

pub bound_either : (m : Mon) (xs : List Name) (n : Mon) → what_is_bound m xs n ≡ cond (is_nothing m xs) n m
bound_either (M.Ret []) [] n = refl
bound_either m xs n = refl

module _ (again : Way) (at : Point) where
  put_by : (es : List Exp) (xs : List Name) (n : Mon) (o : Option ℕ) →
      put_at again at es xs n o ≡ stepped again at (where_put o) (M.Ret es) xs n
  put_by es xs n None = refl
  put_by es xs n (Some i) = refl

  pub bound_stepped : (m : Mon) (xs : List Name) (n : Mon) → bound again at m xs n ≡ stepped again at (settling_of m xs n) m xs n
  bound_stepped m xs n = by_head m ∙ ap (λ b. stepped again at (cond b Gives (cond (is_true_guard m xs) Skips (otherwise m xs n))) m xs n) (is_given m xs n)
    where
      by : (m : Mon) (b c : Bool) (next : Settling) (p : Polished) → p ≡ stepped again at next m xs n →
          cond b (at_once R.BindRet (what_is_bound m xs n)) (cond c (at_once R.GuardKnown n) p) ≡ stepped again at (cond b Gives (cond c Skips next)) m xs n
      by m true c next p h = refl
      by m false true next p h = refl
      by m false false next p h = h

      turns : (a : Mon) (zs : List Name) (b : Mon) (k : Bool) →
          cond k (turned a zs b xs n (bound again (behind a zs at) b xs n) (λ r. bound again at a zs r)) (unchanged (M.Bind (M.Bind a zs b) xs n))
          ≡ stepped again at (cond k Turns Stays) (M.Bind a zs b) xs n
      turns a zs b true = refl
      turns a zs b false = refl

      by_head : (m : Mon) → bound again at m xs n ≡ stepped again at (cond (is_bind_ret m xs n) Gives (cond (is_true_guard m xs) Skips (otherwise m xs n))) m xs n
      by_head (M.Bind a zs b) =
          by (M.Bind a zs b) (is_bind_ret (M.Bind a zs b) xs n) (is_true_guard (M.Bind a zs b) xs) _ _ (turns a zs b (all_kept zs xs n))
      by_head (M.Ret es) = by (M.Ret es) (is_bind_ret (M.Ret es) xs n) (is_true_guard (M.Ret es) xs) _ _ (put_by es xs n (first_put [] es xs n))
      by_head (M.Guard e) = by (M.Guard e) (is_bind_ret (M.Guard e) xs n) (is_true_guard (M.Guard e) xs) Stays _ refl
      by_head (M.If e a b) = by (M.If e a b) (is_bind_ret (M.If e a b) xs n) (is_true_guard (M.If e a b) xs) Stays _ refl
      by_head (M.Write place e) = by (M.Write place e) (is_bind_ret (M.Write place e) xs n) (is_true_guard (M.Write place e) xs) Stays _ refl
      by_head (M.Loop starts guard test a) =
          by (M.Loop starts guard test a) (is_bind_ret (M.Loop starts guard test a) xs n) (is_true_guard (M.Loop starts guard test a) xs) Stays _ refl
      by_head (M.Call f es) = by (M.Call f es) (is_bind_ret (M.Call f es) xs n) (is_true_guard (M.Call f es) xs) Stays _ refl
      by_head (M.Pick k) = by (M.Pick k) (is_bind_ret (M.Pick k) xs n) (is_true_guard (M.Pick k) xs) Stays _ refl

  -- where a value is put in, and where there is none
  pub put_stepped : (i : ℕ) (m : Mon) (xs : List Name) (n p : Mon) → put_into i m xs n ≡ Some p →
      stepped again at (Puts i) m xs n ≡ and_then (leaf (R.RetOne i)) p (again at p)
  put_stepped i (M.Ret es) xs n p h = by (taken_at i es xs) h
    where
      is_some : (a b : Mon) → ◌≡◌ {A = Option Mon} (Some a) (Some b) → and_then (leaf (R.RetOne i)) a (again at a) ≡ and_then (leaf (R.RetOne i)) b (again at b)
      is_some a b e = ap (λ q. and_then (leaf (R.RetOne i)) q (again at q)) (some_same a b e)

      by : (o : Option Taken) → option_map (λ k. with_taken n k) o ≡ Some p →
          put_taken again at (M.Bind (M.Ret es) xs n) i n o ≡ and_then (leaf (R.RetOne i)) p (again at p)
      by None e = absurd cc
      by (Some k) e = is_some (with_taken n k) p e
  put_stepped i m xs n p h = absurd cc

  pub none_stepped : (i : ℕ) (m : Mon) (xs : List Name) (n : Mon) → put_into i m xs n ≡ None →
      stepped again at (Puts i) m xs n ≡ unchanged (M.Bind m xs n)
  none_stepped i (M.Ret es) xs n h = by (taken_at i es xs) h
    where
      by : (o : Option Taken) → option_map (λ k. with_taken n k) o ≡ None →
          put_taken again at (M.Bind (M.Ret es) xs n) i n o ≡ unchanged (M.Bind (M.Ret es) xs n)
      by None e = refl
      by (Some k) e = absurd cc
  none_stepped i m xs n h = refl
