-- What marking positions does.
use Rattle.std.proofs.Common.{◌≡◌, ◌≢◌, ℕ, zero, suc, ◌+◌, ◌<◌, Bool, true, false, cond, List, [], ◌∷◌, ◌++◌, length, get_or, ◌⊎◌, inl, inr, refl, sym, ap, ◌∙◌, arith}
use Rattle.std.proofs.Math.ListN.{set}
use Rattle.std.proofs.lemmas.List.{get_or_default, length_push, length-set, get_or-set_same, get_or-set_other}
use Rattle.std.proofs.lemmas.Bool.{cases_eq}
use Rattle.std.proofs.lemmas.Bool.Decides.{nat_tests}
use Rattle.c_levels.specs.CodeSpread.{Among, IsMarked, Marking, is_unmarked, marked, all_marked}

-- how many aren't marked
abbrev pub unmarked : List Bool → ℕ
unmarked [] = 0
unmarked (true ∷ ms) = unmarked ms
unmarked (false ∷ ms) = suc (unmarked ms)

-- one more is marked
unmarked-set : (ms : List Bool) (i : ℕ) → i < length ms → get_or ms i true ≡ false → suc (unmarked (set ms i true)) ≡ unmarked ms
unmarked-set [] i lt e = absurd (omega arith)
unmarked-set (true ∷ ms) zero lt e = cc
unmarked-set (false ∷ ms) zero lt e = refl
unmarked-set (true ∷ ms) (suc i) lt e = unmarked-set ms i (omega arith) e
unmarked-set (false ∷ ms) (suc i) lt e = ap suc (unmarked-set ms i (omega arith) e)

-- what marking these has done
pub record Marks (is : List ℕ) (old new : Marking) : Type 0 where
  pub count : length new.marks ≡ length old.marks
  pub grown : (k : ℕ) → IsMarked old.marks k → IsMarked new.marks k
  pub all : (k : ℕ) → Among k is → k < length old.marks → IsMarked new.marks k
  pub only : (k : ℕ) → IsMarked new.marks k → IsMarked old.marks k ⊎ (Among k is × Among k new.work)
  pub kept : (k : ℕ) → Among k old.work → Among k new.work
  pub put : (k : ℕ) → Among k new.work → Among k old.work ⊎ (Among k is × (k < length old.marks))
  pub left : unmarked new.marks + length new.work ≡ unmarked old.marks + length old.work

pub among_left : (k : ℕ) (xs ys : List ℕ) → Among k xs → Among k (xs ++ ys)
among_left k [] ys a = absurd a
among_left k (x ∷ xs) ys (inl e) = inl e
among_left k (x ∷ xs) ys (inr a) = inr (among_left k xs ys a)

pub among_right : (k : ℕ) (xs ys : List ℕ) → Among k ys → Among k (xs ++ ys)
among_right k [] ys a = a
among_right k (x ∷ xs) ys a = inr (among_right k xs ys a)

pub among_parts : (k : ℕ) (xs ys : List ℕ) → Among k (xs ++ ys) → Among k xs ⊎ Among k ys
among_parts k [] ys a = inr a
among_parts k (x ∷ xs) ys (inl e) = inl (inl e)
among_parts k (x ∷ xs) ys (inr a) = elim (among_parts k xs ys a) [ inl b ↦ inl (inr b) | inr b ↦ inr b ]

same_or_other : (i k : ℕ) → (k ≡ i) ⊎ (k ≢ i)
same_or_other i k = cases_eq k i

-- at a position without a mark
newly : (i : ℕ) (s : Marking) → i < length s.marks → get_or s.marks i true ≡ false →
    Marks (i ∷ []) s (record { marks = set s.marks i true; work = s.work ++ (i ∷ []) })
newly i s lt e = record {
  count = length-set s.marks i true;
  grown = λ k h. elim (same_or_other i k) [
    | inl q ↦ ap (λ j. get_or (set s.marks i true) j false) q ∙ get_or-set_same s.marks i true false lt
    | inr q ↦ get_or-set_other s.marks i k true false q ∙ h
  ];
  all = λ k a h. elim a [ inl q ↦ ap (λ j. get_or (set s.marks i true) j false) q ∙ get_or-set_same s.marks i true false lt | inr b ↦ absurd b ];
  only = λ k h. elim (same_or_other i k) [
    | inl q ↦ inr (inl q, among_right k s.work (i ∷ []) (inl q))
    | inr q ↦ inl (sym (get_or-set_other s.marks i k true false q) ∙ h)
  ];
  kept = λ k a. among_left k s.work (i ∷ []) a;
  put = λ k a. elim (among_parts k s.work (i ∷ []) a) [ inl b ↦ inl b | inr b ↦ elim b [ inl q ↦ inr (inl q, omega arith) | inr c ↦ absurd c ] ];
  left = let u = unmarked-set s.marks i lt e in let n = length_push s.work i in omega arith;
}

is_in : (i : ℕ) (ms : List Bool) → is_unmarked ms i ≡ true → i < length ms
is_in i ms e = grind (arith, nat_tests)

is_free : (i : ℕ) (ms : List Bool) → is_unmarked ms i ≡ true → get_or ms i true ≡ false
is_free i ms e = grind (arith, nat_tests)

is_taken : (i : ℕ) (ms : List Bool) → is_unmarked ms i ≡ false → i < length ms → get_or ms i true ≡ true
is_taken i ms e lt = grind (arith, nat_tests)

-- marking one position
pub one_marked : (i : ℕ) (s : Marking) → Marks (i ∷ []) s (marked i s)
one_marked i s = by_cases (is_unmarked s.marks i) refl
  where
    by_cases : (b : Bool) → is_unmarked s.marks i ≡ b → Marks (i ∷ []) s (cond b (record { marks = set s.marks i true; work = s.work ++ (i ∷ []) }) s)
    by_cases true e = newly i s (is_in i s.marks e) (is_free i s.marks e)
    by_cases false e = record {
      count = refl;
      grown = λ k h. h;
      all = λ k a h. elim a [ inl q ↦ get_or_default s.marks k false true h ∙ ap (λ j. get_or s.marks j true) q ∙ is_taken i s.marks e (omega arith) | inr z ↦ absurd z ];
      only = λ k h. inl h;
      kept = λ k a. a;
      put = λ k a. inl a;
      left = refl;
    }

pub none_marked : (s : Marking) → Marks [] s s
none_marked s = record { count = refl; grown = λ k h. h; all = λ k a h. absurd a; only = λ k h. inl h; kept = λ k a. a; put = λ k a. inl a; left = refl }

then_marked : (i : ℕ) (is : List ℕ) (a b c : Marking) → Marks (i ∷ []) a b → Marks is b c → Marks (i ∷ is) a c
then_marked i is a b c h g = record {
  count = g.count ∙ h.count;
  grown = λ k m. g.grown k (h.grown k m);
  all = λ k m lt. elim m [ inl q ↦ g.grown k (h.all k (inl q) lt) | inr n ↦ g.all k n (omega (arith, h.count)) ];
  only = λ k m. elim (g.only k m) [
    | inl n ↦ elim (h.only k n) [ inl o ↦ inl o | inr o ↦ elim o.0 [ inl q ↦ inr (inl q, g.kept k o.1) | inr z ↦ absurd z ] ]
    | inr n ↦ inr (inr n.0, n.1)
  ];
  kept = λ k m. g.kept k (h.kept k m);
  put = λ k m. elim (g.put k m) [
    | inl n ↦ elim (h.put k n) [ inl o ↦ inl o | inr o ↦ elim o.0 [ inl q ↦ inr (inl q, o.1) | inr z ↦ absurd z ] ]
    | inr n ↦ inr (inr n.0, omega (arith, h.count))
  ];
  left = g.left ∙ h.left;
}

pub all_are_marked : (is : List ℕ) (s : Marking) → Marks is s (all_marked is s)
all_are_marked [] s = none_marked s
all_are_marked (i ∷ is) s = then_marked i is s (marked i s) (all_marked is (marked i s)) (one_marked i s) (all_are_marked is (marked i s))
