-- The parts of sides that fit a point fit the points of the parts.
use Rattle.std.proofs.Common.{◌≡◌, ℕ, suc, true, ◌&&◌, List, [], length, Option, Some, unwrap_or, sym, ap, ◌∙◌, subst}
use Rattle.std.proofs.lemmas.Bool.{and_parts, eqb-true}
use Rattle.c_values.specs.Name.{Name, are_distinct}
use Rattle.expression_lang.specs.Expression.{Exp}
use Rattle.expression_lang.specs.Sort.{Scalar, is_truth}
use Rattle.expression_lang.specs.Sorted.{names_with, program_sort}
use Rattle.ac_expr.specs.Fact.{Fact}
use Rattle.monad_lang.specs.Program as M
use Rattle.monad_lang.specs.Program.{Mon, Start}
use Rattle.monad_lang.specs.Run.{start_names}
use Rattle.monad_lang.specs.Sorted.{Setting, setting_with, scalars_given, start_scalars, are_scalars, one_for_each, where_fits}
use Rattle.monad_lang.proofs.Given.{then_parts, given_there, fits_parts}
use Rattle.monad_sorts.specs.CodeTold.{starts_told, values_told, with_names, names_into, names_after, part_after}
use Rattle.monad_sorts.proofs.ToldSorts.{starts_are}
use Rattle.monad_sorts.proofs.ValuesTold.{names_length, somes_length, setting_is, values_are}
use Rattle.rule_eq.specs.Rule.{Point}
use Rattle.rule_eq.specs.Table.{behind, within, IsBetween}
use Rattle.rule_eq.specs.CodeFits.{IsSorted, IsSomewhereSorted, Fits}

-- what is well-sorted in a well-sorted program

pub record BindSorted (t : Setting) (m : Mon) (xs : List Name) (n : Mon) : Type 0 where
  pub given : List Scalar
  pub first : scalars_given t m ≡ Some given
  pub many : length xs ≡ length given
  pub second : IsSorted (setting_with xs given t) n

pub bind_sorted : (t : Setting) (m : Mon) (xs : List Name) (n : Mon) → IsSorted t (M.Bind m xs n) → BindSorted t m xs n
bind_sorted t m xs n h =
    let o = then_parts (scalars_given t m)
    (λ ss. where_fits (one_for_each xs ss && are_distinct xs) (scalars_given (setting_with xs ss t) n)) h.0 h.1 in
    let f = fits_parts (one_for_each xs o.0 && are_distinct xs) (scalars_given (setting_with xs o.0 t) n) h.0 o.2 in
    record {
      given = o.0;
      first = o.1;
      many = eqb-true (length xs) (length o.0) (and_parts (one_for_each xs o.0) (are_distinct xs) f.0).0;
      second = (h.0, f.1);
    }

pub record ChoiceSorted (t : Setting) (e : Exp) (m n : Mon) : Type 0 where
  pub test : is_truth (program_sort t.scope e) ≡ true
  pub first : IsSorted t m
  pub second : IsSorted t n

pub choice_sorted : (t : Setting) (e : Exp) (m n : Mon) → IsSorted t (M.If e m n) → ChoiceSorted t e m n
choice_sorted t e m n h =
    let o = then_parts (scalars_given t m)
    (λ ss. where_fits (is_truth (program_sort t.scope e) && are_scalars ss (scalars_given t n)) (Some ss)) h.0 h.1 in
    let f = fits_parts (is_truth (program_sort t.scope e) && are_scalars o.0 (scalars_given t n)) (Some o.0) h.0 o.2 in
    let both = and_parts (is_truth (program_sort t.scope e)) (are_scalars o.0 (scalars_given t n)) f.0 in
    record { test = both.0; first = (o.0, o.1); second = (o.0, given_there o.0 (scalars_given t n) both.1) }

pub record TurnSorted (t : Setting) (starts : List Start) (guard test : Exp) (m : Mon) : Type 0 where
  pub given : List Scalar
  pub begin : start_scalars t.scope starts ≡ Some given
  pub guard_sorted : is_truth (program_sort (setting_with (start_names starts) given t).scope guard) ≡ true
  pub test_sorted : is_truth (program_sort (setting_with (start_names starts) given t).scope test) ≡ true
  pub body : IsSorted (setting_with (start_names starts) given t) m

pub turn_sorted : (t : Setting) (starts : List Start) (guard test : Exp) (m : Mon) → IsSorted t (M.Loop starts guard test m) →
    TurnSorted t starts guard test m
turn_sorted t starts guard test m h =
    let o = then_parts (start_scalars t.scope starts) (λ ss.
    let inner = setting_with (start_names starts) ss t in
    where_fits (are_distinct (start_names starts) && is_truth (program_sort inner.scope guard)
    && is_truth (program_sort inner.scope test) && are_scalars ss (scalars_given inner m)) (Some ss)) h.0 h.1 in
    let inner = setting_with (start_names starts) o.0 t in
    let before = are_distinct (start_names starts) && is_truth (program_sort inner.scope guard) in
    let tests = before && is_truth (program_sort inner.scope test) in
    let body = are_scalars o.0 (scalars_given inner m) in
    let f = fits_parts (tests && body) (Some o.0) h.0 o.2 in
    let p = and_parts tests body f.0 in
    let q = and_parts before (is_truth (program_sort inner.scope test)) p.0 in
    let r = and_parts (are_distinct (start_names starts)) (is_truth (program_sort inner.scope guard)) q.0 in
    record {
      given = o.0;
      begin = o.1;
      guard_sorted = r.1;
      test_sorted = q.1;
      body = (o.0, given_there o.0 (scalars_given inner m) p.1);
    }

given_is : (o : Option (List Scalar)) (ss : List Scalar) → o ≡ Some ss → ss ≡ unwrap_or o []
given_is o ss h = sym (ap (λ p. unwrap_or p []) h)

-- the right side's part

behind_sorted : (at : Point) (m : Mon) (xs : List Name) (n : Mon) → IsSorted at.setting (M.Bind m xs n) →
    IsSorted (behind m xs at).setting n
behind_sorted at m xs n h =
    let s = bind_sorted at.setting m xs n h in
    subst (λ ss. IsSorted (setting_with xs ss at.setting) n) (given_is (scalars_given at.setting m) s.given s.first) s.second

within_sorted : (at : Point) (starts : List Start) (guard test : Exp) (m : Mon) (fs : List Fact) →
    IsSorted at.setting (M.Loop starts guard test m) → IsSorted (within starts fs at).setting m
within_sorted at starts guard test m fs h =
    let s = turn_sorted at.setting starts guard test m h in
    subst (λ ss. IsSorted (setting_with (start_names starts) ss at.setting) m)
    (given_is (start_scalars at.setting.scope starts) s.given s.begin) s.body

-- both sides

pub itself_fits : (t : Setting) (m : Mon) → IsSorted t m → IsSomewhereSorted t m
itself_fits t m h = (t.scope.names, h)

pub bind_fits : (at : Point) (m m' : Mon) (xs ys : List Name) (n n' : Mon) →
    Fits at.setting (M.Bind m xs n) (M.Bind m' ys n') → Fits at.setting m m' × Fits (behind m' ys at).setting n n'
bind_fits at m m' xs ys n n' f =
    let i = bind_sorted (with_names f.left.0 at.setting) m xs n f.left.1 in
    let j = bind_sorted at.setting m' ys n' f.right in (
      record { left = (f.left.0, (i.given, i.first)); right = (j.given, j.first) },
      record { left = (names_with xs i.given f.left.0, i.second); right = behind_sorted at m' ys n' f.right },
    )

pub choice_fits : (t : Setting) (e e' : Exp) (m m' n n' : Mon) → Fits t (M.If e m n) (M.If e' m' n') → Fits t m m' × Fits t n n'
choice_fits t e e' m m' n n' f =
    let i = choice_sorted (with_names f.left.0 t) e m n f.left.1 in
    let j = choice_sorted t e' m' n' f.right in
    (record { left = (f.left.0, i.first); right = j.first }, record { left = (f.left.0, i.second); right = j.second })

pub turn_fits : (at : Point) (starts starts' : List Start) (guard guard' test test' : Exp) (m m' : Mon) (fs : List Fact) →
    Fits at.setting (M.Loop starts guard test m) (M.Loop starts' guard' test' m') → Fits (within starts' fs at).setting m m'
turn_fits at starts starts' guard guard' test test' m m' fs f =
    let i = turn_sorted (with_names f.left.0 at.setting) starts guard test m f.left.1 in
    record {
      left = (names_with (start_names starts) i.given f.left.0, i.body);
      right = within_sorted at starts' guard' test' m' fs f.right;
    }

pub between_fits : (at : Point) (m n m' : Mon) → Fits at.setting m m' → IsBetween at n m' → Fits at.setting m n × Fits at.setting n m'
between_fits at m n m' f h = (
  record { left = f.left; right = (h.0, h.1) },
  record { left = itself_fits at.setting n (h.0, h.1); right = f.right },
)

-- names in scope behind a program, and in a loop, as the code has them

pub names_behind : (t : Setting) (names : Name → Option Scalar) (count : ℕ) (whole m : Mon) (xs : List Name) (n : Mon) →
    part_after count whole ≡ M.Bind m xs n → IsSorted (with_names (names_after t count names whole) t) (M.Bind m xs n) →
    with_names (names_after t (suc count) names whole) t
    ≡ setting_with xs (unwrap_or (scalars_given (with_names (names_after t count names whole) t) m) [])
    (with_names (names_after t count names whole) t)
names_behind t names count whole m xs n e h =
    let here = with_names (names_after t count names whole) t in
    let s = bind_sorted here m xs n h in
    ap (λ p. with_names (names_into t (names_after t count names whole) p) t) e
    ∙ setting_is here xs (values_told here m) s.given (values_are m here s.given s.first) s.many
    ∙ ap (λ ss. setting_with xs ss here) (given_is (scalars_given here m) s.given s.first)

pub names_within : (t : Setting) (names : Name → Option Scalar) (starts : List Start) (guard test : Exp) (m : Mon) →
    IsSorted (with_names names t) (M.Loop starts guard test m) →
    with_names (names_after t 1 names (M.Loop starts guard test m)) t
    ≡ setting_with (start_names starts) (unwrap_or (start_scalars (with_names names t).scope starts) []) (with_names names t)
names_within t names starts guard test m h =
    let here = with_names names t in
    let s = turn_sorted here starts guard test m h in
    let are = starts_are here.scope starts s.given s.begin in
    let many = names_length here.scope starts ∙ ap length are ∙ somes_length s.given in
    setting_is here (start_names starts) (starts_told here.scope starts) s.given are many
    ∙ ap (λ ss. setting_with (start_names starts) ss here) (given_is (start_scalars here.scope starts) s.given s.begin)
