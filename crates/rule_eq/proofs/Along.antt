-- What the kernel finds along a sequence: the claims of a rule's two parts, and the point behind.
use Rattle.std.proofs.Common.{◌≡◌, ℕ, zero, suc, ◌+◌, true, List, [], ◌∷◌, Option, refl, sym, ap, ap₂, ◌∙◌, arith}
use Rattle.c_values.specs.Name.{Name}
use Rattle.expression_lang.specs.Expression.{TruthLit}
use Rattle.expression_lang.specs.Sort.{Scalar}
use Rattle.ac_expr.specs.Fact.{Fact}
use Rattle.ac_expr.specs.Passed.{Part, passed, after}
use Rattle.monad_lang.specs.Program as M
use Rattle.monad_lang.specs.Program.{Mon}
use Rattle.monad_lang.specs.Sorted.{Setting}
use Rattle.monad_sorts.specs.CodeTold.{with_names, names_after, last_part, part_after}
use Rattle.program_facts.specs.Flow.{parts}
use Rattle.rule_eq.specs.Rule as R
use Rattle.rule_eq.specs.Rule.{Rule, Point, does}
use Rattle.rule_eq.specs.Table.{point, row}
use Rattle.rule_eq.specs.CodeFits.{IsSorted, Fits}
use Rattle.rule_eq.specs.CodeSteps.{is_along, is_leaf, left_first, right_first, left_behind, right_behind, point_behind, passes, rest_of}
use Rattle.rule_eq.proofs.Fitting.{bind_fits, between_fits, names_behind}

pub step_parts : (at : Point) (rule : Rule) (a b : Mon) → is_along rule ≡ true → (row at rule a b).holds →
    (row at rule a b).parts
    ≡ does at (left_first rule a) (right_first rule b) ∷ does (point_behind rule b at) (left_behind rule a) (right_behind rule b) ∷ []
step_parts at (R.Trans n) a b s h = refl
step_parts at R.Bind (M.Bind m xs n) (M.Bind m' xs' n') s h = refl
step_parts at R.Bind a b s h = absurd h
step_parts at rule a b s h = cc

pub step_fits : (at : Point) (rule : Rule) (a b : Mon) → is_along rule ≡ true → (row at rule a b).holds → Fits at.setting a b →
    Fits at.setting (left_first rule a) (right_first rule b)
    × Fits (point_behind rule b at).setting (left_behind rule a) (right_behind rule b)
step_fits at (R.Trans n) a b s h f = between_fits at a n b f h
step_fits at R.Bind (M.Bind m xs n) (M.Bind m' xs' n') s h f = bind_fits at m m' xs xs' n n' f
step_fits at R.Bind a b s h f = absurd h
step_fits at rule a b s h f = cc

-- a rule that has no parts
pub leaf_parts : (at : Point) (rule : Rule) (a b : Mon) → is_leaf rule ≡ true → (row at rule a b).parts ≡ []
leaf_parts at (R.Trans n) a b s = cc
leaf_parts at R.Bind a b s = cc
leaf_parts at R.If a b s = cc
leaf_parts at R.Loop a b s = cc
leaf_parts at (R.RetOne i) (M.Bind (M.Ret es) xs m) b s = refl
leaf_parts at R.BindRet (M.Bind m xs n) b s = refl
leaf_parts at R.Assoc (M.Bind (M.Bind a xs b) ys c) d s = refl
leaf_parts at R.IfConst (M.If (TruthLit true) m n) b s = refl
leaf_parts at R.GuardKnown (M.Bind (M.Guard e) [] m) b s = refl
leaf_parts _ _ _ _ _ = refl

-- so many parts more
passed_none : (k : ℕ) (fs : List Fact) → passed k [] fs ≡ fs
passed_none zero fs = refl
passed_none (suc k) fs = refl

passed_more : (n k : ℕ) (ps : List Part) (fs : List Fact) → passed k (rest_of n ps) (passed n ps fs) ≡ passed (n + k) ps fs
passed_more zero k ps fs = let e : k ≡ 0 + k = omega arith in ap (λ j. passed j ps fs) e
passed_more (suc n) k [] fs = passed_none k fs ∙ sym (passed_none (suc n + k) fs)
passed_more (suc n) k (p ∷ ps) fs =
    let e : suc (n + k) ≡ suc n + k = omega arith in
    passed_more n k ps (after p fs) ∙ ap (λ j. passed j (p ∷ ps) fs) e

rest_none : (k : ℕ) → rest_of k [] ≡ []
rest_none zero = refl
rest_none (suc k) = refl

rest_more : (n k : ℕ) (ps : List Part) → rest_of k (rest_of n ps) ≡ rest_of (n + k) ps
rest_more zero k ps = let e : k ≡ 0 + k = omega arith in ap (λ j. rest_of j ps) e
rest_more (suc n) k [] = rest_none k ∙ sym (rest_none (suc n + k))
rest_more (suc n) k (p ∷ ps) =
    let e : suc (n + k) ≡ suc n + k = omega arith in
    rest_more n k ps ∙ ap (λ j. rest_of j (p ∷ ps)) e

-- where so many parts of a program were passed
abbrev pub here : Setting → List Fact → (Name → Option Scalar) → Mon → ℕ → Point
here t fs names whole count = point (passed count (parts whole) fs) (with_names (names_after t count names whole) t)

module _ (t : Setting) (fs : List Fact) (names : Name → Option Scalar) (whole : Mon) (count : ℕ) where
  abbrev at : Point
  at = here t fs names whole count

  pub behind_is : (rule : Rule) (a b : Mon) (k : ℕ) → is_along rule ≡ true → (row at rule a b).holds → IsSorted at.setting b →
      k ≡ count + passes rule → part_after count whole ≡ b → rest_of count (parts whole) ≡ parts b →
      here t fs names whole k ≡ point_behind rule b at
  behind_is (R.Trans n) a b k s h sorted e p r = let same : k ≡ count = omega arith in ap (λ j. here t fs names whole j) same
  behind_is R.Bind (M.Bind m xs n) (M.Bind m' xs' n') k s h sorted e p r =
      let more : k ≡ suc count = omega arith in
      let one : k ≡ count + 1 = omega arith in
      ap₂ point
      (ap (λ j. passed j (parts whole) fs) one ∙ sym (passed_more count 1 (parts whole) fs)
      ∙ ap (λ ps. passed 1 ps (passed count (parts whole) fs)) r)
      (ap (λ j. with_names (names_after t j names whole) t) more ∙ names_behind t names count whole m' xs' n' p sorted)
  behind_is R.Bind a b k s h sorted e p r = absurd h
  behind_is rule a b k s h sorted e p r = cc

  pub part_behind : (rule : Rule) (a b : Mon) (k : ℕ) → is_along rule ≡ true → (row at rule a b).holds → k ≡ count + passes rule →
      part_after count whole ≡ b → part_after k whole ≡ right_behind rule b
  part_behind (R.Trans n) a b k s h e p = let same : k ≡ count = omega arith in ap (λ j. part_after j whole) same ∙ p
  part_behind R.Bind (M.Bind m xs n) (M.Bind m' xs' n') k s h e p =
      let more : k ≡ suc count = omega arith in
      ap (λ j. part_after j whole) more ∙ ap last_part p
  part_behind R.Bind a b k s h e p = absurd h
  part_behind rule a b k s h e p = cc

  pub rest_behind : (rule : Rule) (a b : Mon) (k : ℕ) → is_along rule ≡ true → (row at rule a b).holds → k ≡ count + passes rule →
      rest_of count (parts whole) ≡ parts b → rest_of k (parts whole) ≡ parts (right_behind rule b)
  rest_behind (R.Trans n) a b k s h e r = let same : k ≡ count = omega arith in ap (λ j. rest_of j (parts whole)) same ∙ r
  rest_behind R.Bind (M.Bind m xs n) (M.Bind m' xs' n') k s h e r =
      let one : k ≡ count + 1 = omega arith in
      ap (λ j. rest_of j (parts whole)) one ∙ sym (rest_more count 1 (parts whole)) ∙ ap (λ ps. rest_of 1 ps) r
  rest_behind R.Bind a b k s h e r = absurd h
  rest_behind rule a b k s h e r = cc
