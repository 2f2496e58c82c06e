-- What a stretch says of the names that its parts bind.
use Rattle.std.proofs.Common.{◌≡◌, ◌<◌, ◌+◌, ◌*◌, ◌%◌, ◌^◌, ◌++◌, ℕ, zero, suc, max, Bool, true, false, cond, ◌&&◌, List, [], ◌∷◌, Some, None, refl, sym, ap, ap₂, ◌∙◌, arith}
use Rattle.std.specs.Int.{bit_at, w64}
use Rattle.std.specs.Int.RustNames.{bit_or}
use Rattle.std.proofs.lemmas.Nat.Bits.{bit_at_or, bit_at_set_same}
use Rattle.std.proofs.lemmas.Slice.Eq.{bytes_eq-Decides}
use Rattle.rule_trees.specs.RuleTree.{Tree, node, tree, no_trees}
use Rattle.c_values.specs.Name.{Name, same_name}
use Rattle.expression_lang.specs.Sort.{Kind}
use Rattle.expression_lang.specs.Signature.{Binder, binder}
use Rattle.monad_lang.specs.Program as M
use Rattle.monad_lang.specs.Program.{Mon}
use Rattle.rule_word.specs.declared.stretch.Stretch as S
use Rattle.rule_word.specs.Rule as R
use Rattle.rule_word.specs.Rule.{Rule}
use Rattle.rule_word.specs.Scopes.{with_kinds}
use Rattle.rule_word.specs.CodeNames.{with_passed, kind_passed, kind_in}
use Rattle.rule_word.specs.CodeStretch.{mark, is_one, is_marked, marked, are_marked, are_names_marked, count_in, tree_in, parts_in, tree_at, parts_at, behind_place, first_bound, between_bound, late_bound, found_behind, behind, LeadsOn, IsKept, IsNext}
use Rattle.rule_word.proofs.KindsAmong.{passed_found, passed_missed}

abbrev pub set : ℕ → ℕ → ℕ
set n k = bit_or n (1 * 2 ^ k % 2 ^ 64)

positive_is_one : (n : ℕ) → 0 < n → is_one n ≡ true
positive_is_one zero h = absurd (omega arith)
positive_is_one (suc n) h = refl

one_is_positive : (n : ℕ) → is_one n ≡ true → 0 < n
one_is_positive zero h = absurd cc
one_is_positive (suc n) h = omega arith

pub stays_set : (n k i : ℕ) → is_one (bit_at n i) ≡ true → is_one (bit_at (set n k) i) ≡ true
stays_set n k i h =
    let was : 0 < bit_at n i = one_is_positive (bit_at n i) h in
    let e : bit_at (set n k) i ≡ max (bit_at n i) (bit_at (1 * 2 ^ k % 2 ^ 64) i) = bit_at_or n (1 * 2 ^ k % 2 ^ 64) i in
    positive_is_one (bit_at (set n k) i) (omega arith)

pub is_set : (n k : ℕ) → k < 64 → is_one (bit_at (set n k) k) ≡ true
is_set n k h = ap is_one (bit_at_set_same w64 n k h)

-- binders before others
pub more_kinds : (xs : List Name) (js : List Kind) (own bs : List Binder) → with_kinds xs js (own ++ bs) ≡ with_kinds xs js own ++ bs
more_kinds (x ∷ xs) (j ∷ js) own bs = more_kinds xs js (binder x j ∷ own) bs
more_kinds [] js own bs = refl
more_kinds (x ∷ xs) [] own bs = refl

more_passed : (n : ℕ) (t : Tree Rule) (m : Mon) (own bs : List Binder) → with_passed n t m (own ++ bs) ≡ with_passed n t m own ++ bs
more_passed (suc n) (node (R.Bind js) (tree t (tree u no_trees))) (M.Bind m xs rest) own bs =
    ap (λ cs. with_passed n u rest cs) (more_kinds xs js own bs) ∙ more_passed n u rest (with_kinds xs js own) bs
more_passed _ t m own bs = refl

pub passed_alone : (n : ℕ) (t : Tree Rule) (m : Mon) (bs : List Binder) → with_passed n t m bs ≡ with_passed n t m [] ++ bs
passed_alone n t m bs = more_passed n t m [] bs

-- marked names
all_marked : (marks : ℕ) (bs : List Binder) → are_marked marks bs ≡ true → marked marks bs ≡ bs
all_marked marks [] h = refl
all_marked marks (b ∷ bs) h = by (λ i. all_marked marks bs i) (is_marked marks b.name) refl where
  by : (are_marked marks bs ≡ true → marked marks bs ≡ bs) → (t : Bool) → is_marked marks b.name ≡ t → marked marks (b ∷ bs) ≡ b ∷ bs
  by rest true e = ap (λ s. cond s (b ∷ marked marks bs) (marked marks bs)) e ∙ ap (λ cs. b ∷ cs) (rest (sym (ap (λ s. s && are_marked marks bs) e) ∙ h))
  by rest false e = let clash : false ≡ true = sym (ap (λ s. s && are_marked marks bs) e) ∙ h in absurd cc

same_mark : (marks : ℕ) (x y : Name) → same_name x y ≡ true → is_marked marks x ≡ is_marked marks y
same_mark marks x y c = ap (λ z. is_marked marks z) ((bytes_eq-Decides x y).0 c)

unmarked : (marks : ℕ) (own bs : List Binder) (y : Name) → is_marked marks y ≡ false → kind_in (marked marks own ++ bs) y ≡ kind_in bs y
unmarked marks [] bs y h = refl
unmarked marks (a ∷ own) bs y h = by (unmarked marks own bs y h) (is_marked marks a.name) (same_name a.name y) refl refl where
  by : kind_in (marked marks own ++ bs) y ≡ kind_in bs y → (t c : Bool) → is_marked marks a.name ≡ t → same_name a.name y ≡ c → kind_in (marked marks (a ∷ own) ++ bs) y ≡ kind_in bs y
  by rest false c e f = ap (λ s. kind_in (cond s (a ∷ marked marks own) (marked marks own) ++ bs) y) e ∙ rest
  by rest true true e f = let clash : true ≡ false = sym e ∙ same_mark marks a.name y f ∙ h in absurd cc
  by rest true false e f =
      ap (λ s. kind_in (cond s (a ∷ marked marks own) (marked marks own) ++ bs) y) e
      ∙ ap (λ d. cond d (Some a.kind) (kind_in (marked marks own ++ bs) y)) f ∙ rest

still_marked : (marks : ℕ) (own bs cs : List Binder) (y : Name) → is_marked marks y ≡ true → kind_in bs y ≡ kind_in cs y → kind_in (marked marks own ++ bs) y ≡ kind_in (own ++ cs) y
still_marked marks [] bs cs y h k = k
still_marked marks (a ∷ own) bs cs y h k = by (still_marked marks own bs cs y h k) (is_marked marks a.name) (same_name a.name y) refl refl where
  by : kind_in (marked marks own ++ bs) y ≡ kind_in (own ++ cs) y → (t c : Bool) → is_marked marks a.name ≡ t → same_name a.name y ≡ c → kind_in (marked marks (a ∷ own) ++ bs) y ≡ kind_in (a ∷ (own ++ cs)) y
  by rest true c e f = ap (λ s. kind_in (cond s (a ∷ marked marks own) (marked marks own) ++ bs) y) e ∙ ap (λ o. cond (same_name a.name y) (Some a.kind) o) rest
  by rest false true e f = let clash : false ≡ true = sym e ∙ same_mark marks a.name y f ∙ h in absurd cc
  by rest false false e f =
      ap (λ s. kind_in (cond s (a ∷ marked marks own) (marked marks own) ++ bs) y) e ∙ rest
      ∙ sym (ap (λ d. cond d (Some a.kind) (kind_in (own ++ cs) y)) f)

-- the names in scope at the second place
abbrev before_late : S.Stretch → List Binder → List Binder
before_late s bs = behind_place s s.middle s.between (with_passed s.before (tree_in s) (parts_in s) bs)

-- what one part of a sequence binds, where another goes on where it ends
both_bound : (n k : ℕ) (t u : Tree Rule) (m l : Mon) → LeadsOn u l n t m → (bs : List Binder) → with_passed (n + k) t m bs ≡ with_passed k u l [] ++ with_passed n t m bs
both_bound n k t u m l h bs = sym (h k bs) ∙ passed_alone k u l (with_passed n t m bs)

module _ (s : S.Stretch) (y : Name) where
  pub not_marked : is_marked s.marks y ≡ false → (bs : List Binder) → kind_in (found_behind s bs) y ≡ kind_in bs y
  not_marked h bs =
      unmarked s.marks (late_bound s) (marked s.marks (between_bound s) ++ (marked s.marks (first_bound s) ++ bs)) y h
      ∙ unmarked s.marks (between_bound s) (marked s.marks (first_bound s) ++ bs) y h ∙ unmarked s.marks (first_bound s) bs y h

  module _ (h : is_marked s.marks y ≡ true) where
    first_looked : (bs : List Binder) → kind_in (marked s.marks (first_bound s) ++ bs) y ≡ kind_in (with_passed s.before (tree_in s) (parts_in s) bs) y
    first_looked bs =
        still_marked s.marks (first_bound s) bs bs y h refl ∙ ap (λ cs. kind_in cs y) (sym (passed_alone s.before (tree_in s) (parts_in s) bs))

    between_looked : (bs : List Binder) → kind_in (marked s.marks (between_bound s) ++ (marked s.marks (first_bound s) ++ bs)) y ≡ kind_in (before_late s bs) y
    between_looked bs =
        let first : List Binder = with_passed s.before (tree_in s) (parts_in s) bs in
        still_marked s.marks (between_bound s) (marked s.marks (first_bound s) ++ bs) first y h (first_looked bs)
        ∙ ap (λ cs. kind_in cs y) (sym (passed_alone s.between (tree_at (tree_in s) s.middle) (parts_at (parts_in s) s.middle) first))

    looked : (bs : List Binder) → kind_in (found_behind s bs) y ≡ kind_in (behind_place s s.late s.since (before_late s bs)) y
    looked bs =
        still_marked s.marks (late_bound s) (marked s.marks (between_bound s) ++ (marked s.marks (first_bound s) ++ bs)) (before_late s bs) y h (between_looked bs)
        ∙ ap (λ cs. kind_in cs y) (sym (passed_alone s.since (tree_at (tree_in s) s.late) (parts_at (parts_in s) s.late) (before_late s bs)))

    pub found_late : (k : Kind) → kind_passed s.since (tree_at (tree_in s) s.late) (parts_at (parts_in s) s.late) y None ≡ Some k → (bs : List Binder) → kind_in (found_behind s bs) y ≡ Some k
    found_late k e bs = looked bs ∙ passed_found s.since (tree_at (tree_in s) s.late) (parts_at (parts_in s) s.late) (before_late s bs) y k e

    module _ (e : kind_passed s.since (tree_at (tree_in s) s.late) (parts_at (parts_in s) s.late) y None ≡ None) where
      not_late : (bs : List Binder) → kind_in (found_behind s bs) y ≡ kind_in (before_late s bs) y
      not_late bs = looked bs ∙ passed_missed s.since (tree_at (tree_in s) s.late) (parts_at (parts_in s) s.late) (before_late s bs) y e

      pub found_between : (k : Kind) → kind_passed s.between (tree_at (tree_in s) s.middle) (parts_at (parts_in s) s.middle) y None ≡ Some k → (bs : List Binder) → kind_in (found_behind s bs) y ≡ Some k
      found_between k f bs =
          not_late bs ∙ passed_found s.between (tree_at (tree_in s) s.middle) (parts_at (parts_in s) s.middle) (with_passed s.before (tree_in s) (parts_in s) bs) y k f

      module _ (f : kind_passed s.between (tree_at (tree_in s) s.middle) (parts_at (parts_in s) s.middle) y None ≡ None) where
        not_between : (bs : List Binder) → kind_in (found_behind s bs) y ≡ kind_in (with_passed s.before (tree_in s) (parts_in s) bs) y
        not_between bs =
            not_late bs ∙ passed_missed s.between (tree_at (tree_in s) s.middle) (parts_at (parts_in s) s.middle) (with_passed s.before (tree_in s) (parts_in s) bs) y f

        pub found_first : (k : Kind) → kind_passed s.before (tree_in s) (parts_in s) y None ≡ Some k → (bs : List Binder) → kind_in (found_behind s bs) y ≡ Some k
        found_first k g bs = not_between bs ∙ passed_found s.before (tree_in s) (parts_in s) bs y k g

        pub found_nowhere : kind_passed s.before (tree_in s) (parts_in s) y None ≡ None → (bs : List Binder) → kind_in (found_behind s bs) y ≡ kind_in bs y
        found_nowhere g bs = not_between bs ∙ passed_missed s.before (tree_in s) (parts_in s) bs y g

-- where a name is found, and where it isn't
pub ruleset looked_up = (found_late, found_between, found_first, found_nowhere, not_marked)

-- what the code finds is what is there
pub all_found : (s : S.Stretch) → IsKept s → (bs : List Binder) → found_behind s bs ≡ behind s bs
all_found s kept bs =
    let first = all_marked s.marks (first_bound s) kept.first in
    let between = all_marked s.marks (between_bound s) kept.between in
    let late = all_marked s.marks (late_bound s) kept.late in
    ap₂ (λ cs ds. cs ++ ds) late (ap₂ (λ cs ds. cs ++ (ds ++ bs)) between first ∙ ap (λ cs. between_bound s ++ cs) (sym (passed_alone s.before (tree_in s) (parts_in s) bs)))
    ∙ ap (λ cs. late_bound s ++ cs) (sym (both_bound s.before s.between (tree_in s) (tree_at (tree_in s) s.middle) (parts_in s) (parts_at (parts_in s) s.middle) kept.to_middle bs))
    ∙ sym (both_bound (s.before + s.between) s.since (tree_in s) (tree_at (tree_in s) s.late) (parts_in s) (parts_at (parts_in s) s.late) kept.to_late bs)

-- one name more is marked
pub more_marked : (n : ℕ) (x : Name) (xs : List Name) → mark x < 64 → (m : ℕ) → ((y : Name) → is_marked (set n (mark x)) y ≡ true → is_marked m y ≡ true) → are_names_marked m xs ≡ true → are_names_marked m (x ∷ xs) ≡ true
more_marked n x xs few m kept h = ap₂ (λ b c. b && c) (kept x (is_set n (mark x) few)) h

-- names that are marked bind what is marked
kinds_marked : (marks : ℕ) (xs : List Name) (js : List Kind) (bs : List Binder) → are_names_marked marks xs ≡ true → are_marked marks bs ≡ true → are_marked marks (with_kinds xs js bs) ≡ true
kinds_marked marks [] js bs h k = k
kinds_marked marks (x ∷ xs) [] bs h k = k
kinds_marked marks (x ∷ xs) (j ∷ js) bs h k = by (λ i e. kinds_marked marks xs js (binder x j ∷ bs) i e) (is_marked marks x) refl where
  by : (are_names_marked marks xs ≡ true → are_marked marks (binder x j ∷ bs) ≡ true → are_marked marks (with_kinds xs js (binder x j ∷ bs)) ≡ true) → (t : Bool) → is_marked marks x ≡ t →
      are_marked marks (with_kinds xs js (binder x j ∷ bs)) ≡ true
  by rest true e = rest (sym (ap (λ b. b && are_names_marked marks xs) e) ∙ h) (ap₂ (λ b c. b && c) e k)
  by rest false e = let clash : false ≡ true = sym (ap (λ b. b && are_names_marked marks xs) e) ∙ h in absurd cc

more_are_marked : (marks more : ℕ) (bs : List Binder) → ((y : Name) → is_marked marks y ≡ true → is_marked more y ≡ true) → are_marked marks bs ≡ true → are_marked more bs ≡ true
more_are_marked marks more [] kept h = refl
more_are_marked marks more (b ∷ bs) kept h = by (λ i. more_are_marked marks more bs kept i) (is_marked marks b.name) refl where
  by : (are_marked marks bs ≡ true → are_marked more bs ≡ true) → (t : Bool) → is_marked marks b.name ≡ t → are_marked more (b ∷ bs) ≡ true
  by rest true e = ap₂ (λ c d. c && d) (kept b.name e) (rest (sym (ap (λ c. c && are_marked marks bs) e) ∙ h))
  by rest false e = let clash : false ≡ true = sym (ap (λ c. c && are_marked marks bs) e) ∙ h in absurd cc

both_marked : (marks : ℕ) (own bs : List Binder) → are_marked marks own ≡ true → are_marked marks bs ≡ true → are_marked marks (own ++ bs) ≡ true
both_marked marks [] bs h k = k
both_marked marks (a ∷ own) bs h k = by (λ i. both_marked marks own bs i k) (is_marked marks a.name) refl where
  by : (are_marked marks own ≡ true → are_marked marks (own ++ bs) ≡ true) → (t : Bool) → is_marked marks a.name ≡ t → are_marked marks (a ∷ (own ++ bs)) ≡ true
  by rest true e = ap₂ (λ c d. c && d) e (rest (sym (ap (λ c. c && are_marked marks own) e) ∙ h))
  by rest false e = let clash : false ≡ true = sym (ap (λ c. c && are_marked marks own) e) ∙ h in absurd cc

of_both : (marks : ℕ) (own bs : List Binder) → are_marked marks (own ++ bs) ≡ true → are_marked marks own ≡ true
of_both marks [] bs h = refl
of_both marks (a ∷ own) bs h = by (λ i. of_both marks own bs i) (is_marked marks a.name) refl where
  by : (are_marked marks (own ++ bs) ≡ true → are_marked marks own ≡ true) → (t : Bool) → is_marked marks a.name ≡ t → are_marked marks (a ∷ own) ≡ true
  by rest true e = ap₂ (λ c d. c && d) e (rest (sym (ap (λ c. c && are_marked marks (own ++ bs)) e) ∙ h))
  by rest false e = let clash : false ≡ true = sym (ap (λ c. c && are_marked marks (own ++ bs)) e) ∙ h in absurd cc

-- nothing is passed yet
pub none_passed : (t : Tree Rule) (m : Mon) → LeadsOn t m 0 t m
none_passed t m k bs = let e : k ≡ 0 + k = omega arith in ap (λ j. with_passed j t m bs) e

-- one part more
module _ (s : S.Stretch) (kept : IsKept s) (xs : List Name) (js : List Kind) (u : Tree Rule) (rest : Mon) (next : IsNext xs js u rest (count_in s) (tree_in s) (parts_in s)) (more : ℕ)
    (stays : (y : Name) → is_marked s.marks y ≡ true → is_marked more y ≡ true) (own : are_names_marked more xs ≡ true) where
  pub first_stays : are_marked more (first_bound s) ≡ true
  first_stays = more_are_marked s.marks more (first_bound s) stays kept.first

  pub between_stays : are_marked more (between_bound s) ≡ true
  between_stays = more_are_marked s.marks more (between_bound s) stays kept.between

  late_stays : are_marked more (late_bound s) ≡ true
  late_stays = more_are_marked s.marks more (late_bound s) stays kept.late

  -- where the places move up
  pub first_longer : are_marked more (with_passed (s.before + s.between) (tree_in s) (parts_in s) []) ≡ true
  first_longer =
      ap (λ bs. are_marked more bs) (both_bound s.before s.between (tree_in s) (tree_at (tree_in s) s.middle) (parts_in s) (parts_at (parts_in s) s.middle) kept.to_middle [])
      ∙ both_marked more (between_bound s) (first_bound s) between_stays first_stays

  all_marked_so_far : are_marked more (behind s []) ≡ true
  all_marked_so_far =
      let before : List Binder = with_passed (s.before + s.between) (tree_in s) (parts_in s) [] in
      ap (λ bs. are_marked more bs) (both_bound (s.before + s.between) s.since (tree_in s) (tree_at (tree_in s) s.late) (parts_in s) (parts_at (parts_in s) s.late) kept.to_late [])
      ∙ both_marked more (late_bound s) before late_stays first_longer

  pub late_longer : are_marked more (behind_place s s.late (s.since + 1) []) ≡ true
  late_longer =
      let before : List Binder = with_passed (s.before + s.between) (tree_in s) (parts_in s) [] in
      let count : s.before + s.between + (s.since + 1) ≡ count_in s + 1 = omega arith in
      let bound : behind_place s s.late (s.since + 1) [] ++ before ≡ with_kinds xs js (behind s []) =
      sym (both_bound (s.before + s.between) (s.since + 1) (tree_in s) (tree_at (tree_in s) s.late) (parts_in s) (parts_at (parts_in s) s.late) kept.to_late [])
      ∙ ap (λ n. with_passed n (tree_in s) (parts_in s) []) count ∙ next.bound [] in
      of_both more (behind_place s s.late (s.since + 1) []) before (ap (λ bs. are_marked more bs) bound ∙ kinds_marked more xs js (behind s []) own all_marked_so_far)

  pub onward_there : LeadsOn u rest (s.before + s.between + (s.since + 1)) (tree_in s) (parts_in s)
  onward_there k bs =
      let count : count_in s + 1 ≡ s.before + s.between + (s.since + 1) = omega arith in
      ap (λ n. with_passed k u rest (with_passed n (tree_in s) (parts_in s) bs)) (sym count) ∙ next.onward k bs ∙ ap (λ n. with_passed (n + k) (tree_in s) (parts_in s) bs) count
