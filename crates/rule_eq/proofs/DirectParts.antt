-- The expressions that stand directly in two sides that fit a point are well-sorted, whatever names are in scope.
use Rattle.std.proofs.Common.{◌≡◌, List, [], ◌∷◌, Option, Some, subst}
use Rattle.c_values.specs.Name.{Name}
use Rattle.expression_lang.specs.Expression.{Exp}
use Rattle.expression_lang.specs.Signature.{signature}
use Rattle.expression_lang.specs.Sort.{Scalar, Scope, is_truth}
use Rattle.expression_lang.specs.Sorted.{program_sort, scalars_of, fits_place}
use Rattle.ac_expr.specs.CodeApart.{IsSomeSorted}
use Rattle.ac_expr.specs.CodeApart as other
use Rattle.ac_expr.proofs.PartsSorted.{IsSorted as HasSort, AreSorted}
use Rattle.monad_lang.specs.Program as M
use Rattle.monad_lang.specs.Program.{Mon, Start}
use Rattle.monad_lang.specs.Sorted.{Setting, place_sort}
use Rattle.monad_lang.proofs.Given.{fits_parts}
use Rattle.monad_sorts.specs.CodeTold.{with_names}
use Rattle.program_facts.proofs.Sorts.{call_parts}
use Rattle.rule_parts.specs.Starts.{start_exps}
use Rattle.rule_eq.specs.CodeExps.{write_exps, AreSomewhereSorted}
use Rattle.rule_eq.specs.CodeFits.{IsSorted, IsSomewhereSorted}
use Rattle.rule_eq.proofs.Direct.{scalars_sorted, starts_are_sorted, truth_sorted, write_sorted}
use Rattle.rule_eq.proofs.Fitting.{choice_sorted, turn_sorted, itself_fits}

-- with the names that are in scope, or others
some_sorted : (g : Scope) (names : Name → Option Scalar) (e : Exp) → HasSort (other.with_names names g) e → IsSomeSorted g e
some_sorted g names e h = (names, h.0, h.1)

all_sorted : (g : Scope) (names : Name → Option Scalar) (es : List Exp) → AreSorted (other.with_names names g) es →
    AreSomewhereSorted g es
all_sorted g names [] h = tt
all_sorted g names (e ∷ es) h = (some_sorted g names e h.0, all_sorted g names es h.1)

module _ (t : Setting) where
  pub ret_sorted : (es : List Exp) → IsSomewhereSorted t (M.Ret es) → AreSomewhereSorted t.scope es
  ret_sorted es h = all_sorted t.scope h.0 es (scalars_sorted (with_names h.0 t).scope es h.1.0 h.1.1)

  pub guard_sorted : (e : Exp) → IsSomewhereSorted t (M.Guard e) → IsSomeSorted t.scope e
  guard_sorted e h =
      let g = (with_names h.0 t).scope in
      some_sorted t.scope h.0 e (truth_sorted g e (fits_parts (is_truth (program_sort g e)) (Some []) h.1.0 h.1.1).0)

  pub test_sorted : (e : Exp) (m n : Mon) → IsSomewhereSorted t (M.If e m n) → IsSomeSorted t.scope e
  test_sorted e m n h =
      let u = with_names h.0 t in
      some_sorted t.scope h.0 e (truth_sorted u.scope e (choice_sorted u e m n h.1).test)

  pub write_is_sorted : (place : M.Place) (e : Exp) → IsSomewhereSorted t (M.Write place e) →
      AreSomewhereSorted t.scope (write_exps place e)
  write_is_sorted place e h =
      let g = (with_names h.0 t).scope in
      all_sorted t.scope h.0 (write_exps place e)
      (write_sorted g place e (fits_parts (fits_place (place_sort g place) (program_sort g e)) (Some []) h.1.0 h.1.1).0)

  pub call_sorted : (f : Name) (es : List Exp) → IsSomewhereSorted t (M.Call f es) → AreSomewhereSorted t.scope es
  call_sorted f es h =
      let u = with_names h.0 t in
      let i = call_parts u.sort_for (signature u.functions f) (scalars_of u.scope es) h.1.0 h.1.1 in
      all_sorted t.scope h.0 es (scalars_sorted u.scope es _ i.2)

  pub starts_sorted : (starts : List Start) (guard test : Exp) (m : Mon) → IsSomewhereSorted t (M.Loop starts guard test m) →
      AreSomewhereSorted t.scope (start_exps starts)
  starts_sorted starts guard test m h =
      let u = with_names h.0 t in
      all_sorted t.scope h.0 (start_exps starts)
      (starts_are_sorted u.scope starts _ (turn_sorted u starts guard test m h.1).begin)

  pub loop_guard_sorted : (starts : List Start) (guard test : Exp) (m : Mon) → IsSomewhereSorted t (M.Loop starts guard test m) →
      IsSomeSorted t.scope guard
  loop_guard_sorted starts guard test m h =
      let i = turn_sorted (with_names h.0 t) starts guard test m h.1 in
      some_sorted t.scope _ guard (truth_sorted _ guard i.guard_sorted)

  pub loop_test_sorted : (starts : List Start) (guard test : Exp) (m : Mon) → IsSomewhereSorted t (M.Loop starts guard test m) →
      IsSomeSorted t.scope test
  loop_test_sorted starts guard test m h =
      let i = turn_sorted (with_names h.0 t) starts guard test m h.1 in
      some_sorted t.scope _ test (truth_sorted _ test i.test_sorted)

-- the right side, which is this program
pub right_fits : (t : Setting) (b c : Mon) → b ≡ c → IsSorted t b → IsSomewhereSorted t c
right_fits t b c e h = subst (λ q. IsSomewhereSorted t q) e (itself_fits t b h)
