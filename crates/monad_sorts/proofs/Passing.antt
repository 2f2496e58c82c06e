-- Names after so many last parts: after some, and then after others.
use Rattle.std.proofs.Common.{◌≡◌, ℕ, zero, suc, ◌+◌, Bool, ◌&&◌, List, [], ◌∷◌, ◌++◌, length, Option, Some, None, refl, sym, ap, ◌∙◌, subst, arith}
use Rattle.c_values.specs.Name.{Name, with_name, are_distinct}
use Rattle.expression_lang.specs.Expression.{Exp}
use Rattle.expression_lang.specs.Sort.{Scalar, is_truth}
use Rattle.expression_lang.specs.Sorted.{program_sort}
use Rattle.monad_lang.specs.Program as M
use Rattle.monad_lang.specs.Program.{Mon, Start}
use Rattle.monad_lang.specs.Run.{start_names}
use Rattle.monad_lang.specs.Sorted.{Setting}
use Rattle.monad_sorts.specs.CodeTold.{names_given, with_names, values_told, told_at, last_of, last_part, names_into, part_after, names_after}
use Rattle.monad_sorts.specs.CodeSorted.{starts_scalars, same_told, is_sorted, is_front_sorted}

pub part_sum : (h k n : ℕ) (m : Mon) → n ≡ h + k → part_after n m ≡ part_after k (part_after h m)
part_sum h zero n m e = let same : n ≡ h = omega arith in ap (λ j. part_after j m) same
part_sum h (suc k) n m e =
    let same : n ≡ suc (h + k) = omega arith in
    ap (λ j. part_after j m) same ∙ ap last_part (part_sum h k (h + k) m refl)

pub names_sum : (t : Setting) (h k n : ℕ) (names : Name → Option Scalar) (m : Mon) → n ≡ h + k →
    names_after t n names m ≡ names_after t k (names_after t h names m) (part_after h m)
names_sum t h zero n names m e = let same : n ≡ h = omega arith in ap (λ j. names_after t j names m) same
names_sum t h (suc k) n names m e =
    let same : n ≡ suc (h + k) = omega arith in
    ap (λ j. names_after t j names m) same
    ∙ ap (λ p. names_into t (names_after t (h + k) names m) p) (part_sum h k (h + k) m refl)
    ∙ ap (λ f. names_into t f (part_after k (part_after h m))) (names_sum t h k (h + k) names m refl)

-- two halves
pub halves : (t : Setting) (names : Name → Option Scalar) (h k n : ℕ) (m r : Mon) → n ≡ h + k → r ≡ part_after h m →
    names_after t k (names_after t h names m) r ≡ names_after t n names m
halves t names h k n m r e p = ap (λ q. names_after t k (names_after t h names m) q) p ∙ sym (names_sum t h k n names m e)

-- a program is well-sorted if its last part is, and what is asked of the rest holds
pub front_sorted : (t : Setting) (names : Name → Option Scalar) (m n : Mon) → last_of m ≡ Some n →
    is_sorted (with_names names t) m
    ≡ (is_front_sorted (with_names names t) m && is_sorted (with_names (names_into t names m) t) n)
front_sorted t names (M.Bind m xs n) r e =
    let same : n ≡ r = cc in
    ap (λ q. is_front_sorted (with_names names t) (M.Bind m xs n)
    && is_sorted (with_names (names_into t names (M.Bind m xs n)) t) q) same
front_sorted t names (M.If c m n) r e =
    let same : n ≡ r = cc in
    ap (λ q. is_front_sorted (with_names names t) (M.If c m n) && is_sorted (with_names names t) q) same
front_sorted t names (M.Loop starts guard test m) r e =
    let same : m ≡ r = cc in
    ap (λ q. is_front_sorted (with_names names t) (M.Loop starts guard test m)
    && is_sorted (with_names (names_into t names (M.Loop starts guard test m)) t) q) same
front_sorted t names _ r e = absurd cc

pub last_is : (m n : Mon) → last_of m ≡ Some n → n ≡ last_part m
last_is (M.Bind m xs n) r e = cc
last_is (M.If c m n) r e = cc
last_is (M.Loop starts guard test m) r e = cc
last_is _ r e = absurd cc

-- a step along the last parts
pub step_sorted : (t : Setting) (names : Name → Option Scalar) (steps : ℕ) (m rest n : Mon) → rest ≡ part_after steps m →
    last_of rest ≡ Some n →
    is_sorted (with_names (names_after t steps names m) t) rest
    ≡ (is_front_sorted (with_names (names_after t steps names m) t) rest
    && is_sorted (with_names (names_after t (steps + 1) names m) t) n)
step_sorted t names steps m rest n e h =
    let more : suc steps ≡ steps + 1 = omega arith in
    front_sorted t (names_after t steps names m) rest n h
    ∙ ap (λ r. is_front_sorted (with_names (names_after t steps names m) t) rest
    && is_sorted (with_names (names_into t (names_after t steps names m) r) t) n) e
    ∙ ap (λ k. is_front_sorted (with_names (names_after t steps names m) t) rest
    && is_sorted (with_names (names_after t k names m) t) n) more

pub step_last : (steps : ℕ) (m rest n : Mon) → rest ≡ part_after steps m → last_of rest ≡ Some n → n ≡ part_after (steps + 1) m
step_last steps m rest n e h =
    let more : suc steps ≡ steps + 1 = omega arith in
    last_is rest n h ∙ ap last_part e ∙ ap (λ k. part_after k m) more

pub all_sorted : (t : Setting) (m : Mon) → last_of m ≡ None → is_front_sorted t m ≡ is_sorted t m
all_sorted t (M.Bind m xs n) e = absurd cc
all_sorted t (M.If c m n) e = absurd cc
all_sorted t (M.Loop starts guard test m) e = absurd cc
all_sorted _ _ _ = refl

-- what is asked of a loop but that its body is well-sorted

turn_is : (t : Setting) (names : Name → Option Scalar) (starts : List Start) (guard test : Exp) (body : Mon) (x z w v : Bool) →
    x ≡ (starts_scalars (with_names names t).scope starts && are_distinct (start_names starts)) →
    z ≡ is_truth (program_sort (with_names (names_into t names (M.Loop starts guard test body)) t).scope guard) →
    w ≡ is_truth (program_sort (with_names (names_into t names (M.Loop starts guard test body)) t).scope test) →
    v ≡ same_told (values_told (with_names names t) (M.Loop starts guard test body))
    (values_told (with_names (names_into t names (M.Loop starts guard test body)) t) body) →
    (x && z && w && v) ≡ is_front_sorted (with_names names t) (M.Loop starts guard test body)
turn_is t names starts guard test body x z w v hx hz hw hv =
    ap (λ b. b && z && w && v) hx
    ∙ ap (λ b. starts_scalars (with_names names t).scope starts && are_distinct (start_names starts) && b && w && v) hz
    ∙ ap (λ b. starts_scalars (with_names names t).scope starts && are_distinct (start_names starts)
    && is_truth (program_sort (with_names (names_into t names (M.Loop starts guard test body)) t).scope guard) && b && v) hw
    ∙ ap (λ b. starts_scalars (with_names names t).scope starts && are_distinct (start_names starts)
    && is_truth (program_sort (with_names (names_into t names (M.Loop starts guard test body)) t).scope guard)
    && is_truth (program_sort (with_names (names_into t names (M.Loop starts guard test body)) t).scope test) && b) hv

pub turn_sorted : (t : Setting) (names : Name → Option Scalar) (m : Mon) (starts : List Start) (guard test : Exp) (body : Mon)
    (x z w v : Bool) →
    m ≡ M.Loop starts guard test body →
    x ≡ (starts_scalars (with_names names t).scope starts && are_distinct (start_names starts)) →
    z ≡ is_truth (program_sort (with_names (names_into t names m) t).scope guard) →
    w ≡ is_truth (program_sort (with_names (names_into t names m) t).scope test) →
    v ≡ same_told (values_told (with_names names t) m) (values_told (with_names (names_into t names m) t) body) →
    (x && z && w && v) ≡ is_front_sorted (with_names names t) m
turn_sorted t names m starts guard test body x z w v e =
    subst (λ q.
    x ≡ (starts_scalars (with_names names t).scope starts && are_distinct (start_names starts)) →
    z ≡ is_truth (program_sort (with_names (names_into t names q) t).scope guard) →
    w ≡ is_truth (program_sort (with_names (names_into t names q) t).scope test) →
    v ≡ same_told (values_told (with_names names t) q) (values_told (with_names (names_into t names q) t) body) →
    (x && z && w && v) ≡ is_front_sorted (with_names names t) q) (sym e)
    (turn_is t names starts guard test body x z w v)

-- the last of names comes first
pub last_given : (xs : List Name) (x : Name) (os : List (Option Scalar)) (names : Name → Option Scalar) →
    names_given (xs ++ (x ∷ [])) os names ≡ with_name x (told_at os (length xs)) (names_given xs os names)
last_given [] x [] names = refl
last_given [] x (o ∷ os) names = refl
last_given (y ∷ xs) x [] names = last_given xs x [] (with_name y None names)
last_given (y ∷ xs) x (o ∷ os) names = last_given xs x os (with_name y o names)
