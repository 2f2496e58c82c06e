-- What stands shorter in an expression's place is made of it by a row of the table of steps; and a row keeps sorts, leaves fewer
-- nodes, and brings no part that passes a test, but constants.
use Rattle.std.proofs.Common.{◌≡◌, ℕ, zero, ◌<◌, ◌≤◌, ◌==◌, Bool, true, false, not, ◌&&◌, ◌||◌, List, Option, Some, pos, inl, inr, ◌⊎◌, refl, sym, ap, ◌∙◌, subst, arith}
use Rattle.std.proofs.lemmas.Bool.{and_parts, or_parts, eqb-true}
use Rattle.c_values.specs.Word.{Word}
use Rattle.c_values.specs.Number.{NumberOp, Add, least, greatest}
use Rattle.expression_lang.specs.Expression.{Exp, WordLit, NumberLit, TruthLit, ToNat, ToInt, ToWord, Arith, Between, Eq, And, Or, Imp, Not, If}
use Rattle.expression_lang.specs.Form.{has}
use Rattle.expression_lang.specs.Sort.{Sort, Scope, sort_of, is_width, is_number, is_truth, is_word_of, is_unary, word_width, number_sort, truth_sort, word_sort, where_holds, of_word, are_same}
use Rattle.expression_lang.proofs.Inversion.{where_inv, word_inv, width_inv, number_inv, truth_inv, word_of_inv, same_inv}
use Rattle.ac_expr.specs.Fact.{Fact}
use Rattle.ac_expr.specs.SameExp.{same_exp}
use Rattle.ac_expr.specs.Step.{IsFlag, IsInWord, Shortens}
use Rattle.ac_expr.proofs.SameExps.{exp_is}
use Rattle.expression_steps.specs.Rewritten.{nodes}
use Rattle.expression_steps.specs.Shortened.{where_true, by_right, shorter_and, shorter_or, shorter_imp, shorter_if, is_flag, shorter_unequal, shorter_not, shorter_sum, shorter_arith, shorter_word, shorter_value, shorter}
use Rattle.expression_steps.specs.Known.{is_known}
use Rattle.polish.proofs.Cases.{some_same}
use Rattle.expression_steps.proofs.KnownIs.{known_exactly}

-- Rows

where_is : (b : Bool) (a e : Exp) → where_true b a ≡ Some e → (b ≡ true) × (e ≡ a)
where_is true a e h = (refl, sym (some_same a e h))
where_is false a e h = absurd cc

right_is : (a b e : Exp) → by_right a b ≡ Some e → (b ≡ TruthLit true) × (e ≡ a)
right_is a (TruthLit true) e h = (refl, sym (some_same a e h))
right_is a b e h = absurd cc

abbrev AndRow : Exp → Exp → Exp → Type 0
AndRow a b e =
    ((a ≡ TruthLit true) × (e ≡ b)) ⊎ ((b ≡ TruthLit true) × (e ≡ a)) ⊎ ((a ≡ TruthLit false) × (e ≡ TruthLit false))

and_is : (a b e : Exp) → shorter_and a b ≡ Some e → AndRow a b e
and_is (TruthLit true) b e h = inl (refl, sym (some_same b e h))
and_is (TruthLit false) b e h = inr (inr (refl, sym (some_same (TruthLit false) e h)))
and_is a b e h = inr (inl (right_is a b e h))

or_is : (a b e : Exp) → shorter_or a b ≡ Some e →
    ((a ≡ TruthLit false) × (e ≡ b)) ⊎ ((a ≡ TruthLit true) × (e ≡ TruthLit true))
or_is (TruthLit true) b e h = inr (refl, sym (some_same (TruthLit true) e h))
or_is (TruthLit false) b e h = inl (refl, sym (some_same b e h))
or_is a b e h = absurd cc

imp_is : (a b e : Exp) → shorter_imp a b ≡ Some e →
    ((a ≡ TruthLit true) × (e ≡ b)) ⊎ ((a ≡ TruthLit false) × (e ≡ TruthLit true))
imp_is (TruthLit true) b e h = inl (refl, sym (some_same b e h))
imp_is (TruthLit false) b e h = inr (refl, sym (some_same (TruthLit true) e h))
imp_is a b e h = absurd cc

abbrev IfRow : Exp → Exp → Exp → Exp → Type 0
IfRow c a b e = ((c ≡ TruthLit true) × (e ≡ a)) ⊎ ((c ≡ TruthLit false) × (e ≡ b)) ⊎ ((b ≡ a) × (e ≡ a))

if_is : (c a b e : Exp) → shorter_if c a b ≡ Some e → IfRow c a b e
if_is (TruthLit true) a b e h = inl (refl, sym (some_same a e h))
if_is (TruthLit false) a b e h = inr (inl (refl, sym (some_same b e h)))
if_is c a b e h = let k = where_is (same_exp b a) a e h in inr (inr (exp_is b a k.0, k.1))

flag_is : (u v w : Word) → is_flag u v w ≡ true → IsFlag u v w
flag_is u v w h =
    let d = and_parts (u.width == w.width && u.bits == 1 && v.width == w.width && v.bits == w.bits) (w.bits == 0) h in
    let c = and_parts (u.width == w.width && u.bits == 1 && v.width == w.width) (v.bits == w.bits) d.0 in
    let b = and_parts (u.width == w.width && u.bits == 1) (v.width == w.width) c.0 in
    let a = and_parts (u.width == w.width) (u.bits == 1) b.0 in
    record {
      one = same_word u (record { width = w.width; bits = 1 }) (eqb-true u.width w.width a.0) (eqb-true u.bits 1 a.1);
      zero = same_word v w (eqb-true v.width w.width b.1) (eqb-true v.bits w.bits c.1);
      bits = eqb-true w.bits 0 d.1;
    }
  where
    same_word : (u v : Word) → u.width ≡ v.width → u.bits ≡ v.bits → u ≡ v
    same_word u v h k =
        ap (λ n. record { width = n; bits = u.bits }) h ∙ ap (λ n. record { width = v.width; bits = n }) k

unequal_is : (g : Scope) (fs : List Fact) (a b e : Exp) → shorter_unequal a b ≡ Some e → Shortens g fs (Not (Eq a b)) e
unequal_is g fs (If c (WordLit u) (WordLit v)) (WordLit w) e h =
    let k = where_is (is_flag u v w) c e h in (flag_is u v w k.0, k.1)
unequal_is g fs a b e h = absurd cc

not_is : (g : Scope) (fs : List Fact) (a e : Exp) → shorter_not a ≡ Some e → Shortens g fs (Not a) e
not_is g fs (Not a) e h = sym (some_same a e h)
not_is g fs (Eq a b) e h = unequal_is g fs a b e h
not_is g fs a e h = absurd cc

sum_is : (a b e : Exp) → shorter_sum a b ≡ Some e → (b ≡ NumberLit (pos 0)) × (e ≡ a)
sum_is a (NumberLit (pos zero)) e h = (refl, sym (some_same a e h))
sum_is a b e h = absurd cc

arith_is : (g : Scope) (fs : List Fact) (op : NumberOp) (a b e : Exp) → shorter_arith op a b ≡ Some e →
    Shortens g fs (Arith op a b) e
arith_is g fs Add a b e h = sum_is a b e h
arith_is g fs op a b e h = absurd cc

width_of : (n : ℕ) (o : Option Sort) → is_word_of n o ≡ true → word_width o ≡ Some n
width_of n o h = ap word_width (word_of_inv n o h)

word_is : (g : Scope) (fs : List Fact) (n : ℕ) (a e : Exp) → shorter_word g n a ≡ Some e → Shortens g fs (ToWord n a) e
word_is g fs n (ToNat a) e h =
    let k = where_is (is_word_of n (sort_of g a)) a e h in (width_of n (sort_of g a) k.0, k.1)
word_is g fs n (ToInt a) e h =
    let k = where_is (is_word_of n (sort_of g a)) a e h in (width_of n (sort_of g a) k.0, k.1)
word_is g fs n a e h = absurd cc

in_word : (fs : List Fact) (sign : Bool) (n : ℕ) (a e : Exp) → shorter_value fs sign (ToWord n a) ≡ Some e →
    IsInWord fs sign n a × (e ≡ a)
in_word fs sign n a e h =
    let r = Between (least sign n) a (greatest sign n) in
    let k = where_is (is_width n && is_known fs r) a e h in
    ((known_exactly fs r).0 (and_parts (is_width n) (is_known fs r) k.0).1, k.1)

nat_is : (g : Scope) (fs : List Fact) (a e : Exp) → shorter_value fs false a ≡ Some e → Shortens g fs (ToNat a) e
nat_is g fs (ToWord n a) e h = in_word fs false n a e h
nat_is g fs a e h = absurd cc

int_is : (g : Scope) (fs : List Fact) (a e : Exp) → shorter_value fs true a ≡ Some e → Shortens g fs (ToInt a) e
int_is g fs (ToWord n a) e h = in_word fs true n a e h
int_is g fs a e h = absurd cc

equal_is : (a b e : Exp) → where_true (same_exp b a) (TruthLit true) ≡ Some e → (b ≡ a) × (e ≡ TruthLit true)
equal_is a b e h = let k = where_is (same_exp b a) (TruthLit true) e h in (exp_is b a k.0, k.1)

pub shorter_is : (g : Scope) (fs : List Fact) (a e : Exp) → shorter g fs a ≡ Some e → Shortens g fs a e
shorter_is g fs (And a b) e h = and_is a b e h
shorter_is g fs (Or a b) e h = or_is a b e h
shorter_is g fs (Imp a b) e h = imp_is a b e h
shorter_is g fs (If c a b) e h = if_is c a b e h
shorter_is g fs (Not a) e h = not_is g fs a e h
shorter_is g fs (Eq a b) e h = equal_is a b e h
shorter_is g fs (Arith op a b) e h = arith_is g fs op a b e h
shorter_is g fs (ToWord n a) e h = word_is g fs n a e h
shorter_is g fs (ToNat a) e h = nat_is g fs a e h
shorter_is g fs (ToInt a) e h = int_is g fs a e h
shorter_is g fs a e h = absurd cc

-- Sorts

both_truths : (x y o : Option Sort) (r : Sort) → where_holds (is_truth x && is_truth y) o ≡ Some r →
    (x ≡ truth_sort) × (y ≡ truth_sort) × (o ≡ Some r)
both_truths x y o r h =
    let w = where_inv (is_truth x && is_truth y) o r h in
    let p = and_parts (is_truth x) (is_truth y) w.0 in
    (truth_inv x p.0, truth_inv y p.1, w.1)

not_truth : (x o : Option Sort) (r : Sort) → where_holds (is_truth x) o ≡ Some r → (x ≡ truth_sort) × (o ≡ Some r)
not_truth x o r h = let w = where_inv (is_truth x) o r h in (truth_inv x w.0, w.1)

truth_row : (g : Scope) (a e : Exp) (r : Sort) → e ≡ a → sort_of g a ≡ truth_sort → truth_sort ≡ Some r → sort_of g e ≡ Some r
truth_row g a e r h k i = ap (λ x. sort_of g x) h ∙ k ∙ i

if_sorts : (c a b : Option Sort) (r : Sort) → where_holds (is_truth c && are_same a b) a ≡ Some r →
    (c ≡ truth_sort) × (a ≡ Some r) × (b ≡ Some r)
if_sorts c a b r h =
    let w = where_inv (is_truth c && are_same a b) a r h in
    let p = and_parts (is_truth c) (are_same a b) w.0 in
    let s = same_inv a b p.1 in
    (truth_inv c p.0, w.1, s.2 ∙ sym s.1 ∙ w.1)

number_under : (g : Scope) (n : ℕ) (a : Exp) (o : Sort) →
    of_word (word_width (sort_of g (ToWord n a))) (λ m. number_sort) ≡ Some o → sort_of g a ≡ Some o
number_under g n a o k =
    let i = word_inv (word_width (sort_of g (ToWord n a))) (λ m. number_sort) o k in
    let w = where_inv (is_width n && is_number (sort_of g a)) (word_sort n) _ (width_inv (sort_of g (ToWord n a)) i.0 i.1) in
    number_inv (sort_of g a) (and_parts (is_width n) (is_number (sort_of g a)) w.0).1 ∙ i.2

word_under : (g : Scope) (n : ℕ) (a e : Exp) (q : Option Sort) (o : Sort) →
    where_holds (is_width n && is_number q) (word_sort n) ≡ Some o →
    (word_width (sort_of g a) ≡ Some n) × (e ≡ a) → sort_of g e ≡ Some o
word_under g n a e q o h k =
    ap (λ x. sort_of g x) k.1 ∙ width_inv (sort_of g a) n k.0
    ∙ (where_inv (is_width n && is_number q) (word_sort n) o h).1

-- the test of what is compared with 0
flag_test : (g : Scope) (c : Exp) (u v w : Word) (o : Sort) → sort_of g
    (Not (Eq (If c (WordLit u) (WordLit v)) (WordLit w))) ≡ Some o →
    sort_of g c ≡ Some o
flag_test g c u v w o h =
    let i = If c (WordLit u) (WordLit v) in
    let n = not_truth (sort_of g (Eq i (WordLit w))) truth_sort o h in
    let q = where_inv (are_same (sort_of g i) (sort_of g (WordLit w))) truth_sort _ n.0 in
    let s = same_inv (sort_of g i) (sort_of g (WordLit w)) q.0 in
    let t = if_sorts (sort_of g c) (sort_of g (WordLit u)) (sort_of g (WordLit v)) s.0 s.1 in
    t.0 ∙ n.1

pub shortens_sorts : (g : Scope) (fs : List Fact) (a e : Exp) → Shortens g fs a e → (o : Sort) → sort_of g a ≡ Some o →
    sort_of g e ≡ Some o
shortens_sorts g fs (Not (Not a)) e h o k =
    let n = not_truth (sort_of g (Not a)) truth_sort o k in
    truth_row g a e o h (not_truth (sort_of g a) truth_sort _ n.0).0 n.1
shortens_sorts g fs (And a b) e (inl h) o k =
    let p = both_truths (sort_of g a) (sort_of g b) truth_sort o k in truth_row g b e o h.1 p.1 p.2
shortens_sorts g fs (And a b) e (inr (inl h)) o k =
    let p = both_truths (sort_of g a) (sort_of g b) truth_sort o k in truth_row g a e o h.1 p.0 p.2
shortens_sorts g fs (And a b) e (inr (inr h)) o k =
    truth_row g (TruthLit false) e o h.1 refl (both_truths (sort_of g a) (sort_of g b) truth_sort o k).2
shortens_sorts g fs (Or a b) e (inl h) o k =
    let p = both_truths (sort_of g a) (sort_of g b) truth_sort o k in truth_row g b e o h.1 p.1 p.2
shortens_sorts g fs (Or a b) e (inr h) o k =
    truth_row g (TruthLit true) e o h.1 refl (both_truths (sort_of g a) (sort_of g b) truth_sort o k).2
shortens_sorts g fs (Imp a b) e (inl h) o k =
    let p = both_truths (sort_of g a) (sort_of g b) truth_sort o k in truth_row g b e o h.1 p.1 p.2
shortens_sorts g fs (Imp a b) e (inr h) o k =
    truth_row g (TruthLit true) e o h.1 refl (both_truths (sort_of g a) (sort_of g b) truth_sort o k).2
shortens_sorts g fs (If c a b) e (inl h) o k =
    ap (λ x. sort_of g x) h.1 ∙ (if_sorts (sort_of g c) (sort_of g a) (sort_of g b) o k).1
shortens_sorts g fs (If c a b) e (inr (inl h)) o k =
    ap (λ x. sort_of g x) h.1 ∙ (if_sorts (sort_of g c) (sort_of g a) (sort_of g b) o k).2
shortens_sorts g fs (If c a b) e (inr (inr h)) o k =
    ap (λ x. sort_of g x) h.1 ∙ (if_sorts (sort_of g c) (sort_of g a) (sort_of g b) o k).1
shortens_sorts g fs (Eq a b) e h o k =
    truth_row g (TruthLit true) e o h.1 refl (where_inv (are_same (sort_of g a) (sort_of g b)) truth_sort o k).1
shortens_sorts g fs (Arith Add a b) e h o k =
    let w = where_inv (not (is_unary Add) && is_number (sort_of g a) && is_number (sort_of g b)) number_sort o k in
    let p = and_parts (not (is_unary Add) && is_number (sort_of g a)) (is_number (sort_of g b)) w.0 in
    let q = and_parts (not (is_unary Add)) (is_number (sort_of g a)) p.0 in
    ap (λ x. sort_of g x) h.1 ∙ number_inv (sort_of g a) q.1 ∙ w.1
shortens_sorts g fs (Not (Eq (If c (WordLit u) (WordLit v)) (WordLit w))) e h o k =
    ap (λ x. sort_of g x) h.1 ∙ flag_test g c u v w o k
shortens_sorts g fs (ToWord n (ToNat a)) e h o k = word_under g n a e (sort_of g (ToNat a)) o k h
shortens_sorts g fs (ToWord n (ToInt a)) e h o k = word_under g n a e (sort_of g (ToInt a)) o k h
shortens_sorts g fs (ToNat (ToWord n a)) e h o k = ap (λ x. sort_of g x) h.1 ∙ number_under g n a o k
shortens_sorts g fs (ToInt (ToWord n a)) e h o k = ap (λ x. sort_of g x) h.1 ∙ number_under g n a o k
shortens_sorts g fs a e h o k = absurd h

-- Nodes

pub some_nodes : (e : Exp) → 1 ≤ nodes e
some_nodes (Between low a high) = omega arith
some_nodes _ = omega arith

-- the part is smaller
smaller : (e a : Exp) (n : ℕ) → e ≡ a → nodes a < n → nodes e < n
smaller e a n h k = subst (λ x. nodes x < n) (sym h) k

pub shortens_nodes : (g : Scope) (fs : List Fact) (a e : Exp) → Shortens g fs a e → nodes e < nodes a
shortens_nodes g fs (Not (Not a)) e h = smaller e a _ h (omega arith)
shortens_nodes g fs (And a b) e (inl h) = smaller e b _ h.1 (omega (arith, some_nodes a))
shortens_nodes g fs (And a b) e (inr (inl h)) = smaller e a _ h.1 (omega (arith, some_nodes b))
shortens_nodes g fs (And a b) e (inr (inr h)) = smaller e (TruthLit false) _ h.1 (omega (arith, some_nodes a))
shortens_nodes g fs (Or a b) e (inl h) = smaller e b _ h.1 (omega (arith, some_nodes a))
shortens_nodes g fs (Or a b) e (inr h) = smaller e (TruthLit true) _ h.1 (omega (arith, some_nodes a))
shortens_nodes g fs (Imp a b) e (inl h) = smaller e b _ h.1 (omega (arith, some_nodes a))
shortens_nodes g fs (Imp a b) e (inr h) = smaller e (TruthLit true) _ h.1 (omega (arith, some_nodes a))
shortens_nodes g fs (If c a b) e (inl h) = smaller e a _ h.1 (omega (arith, some_nodes c))
shortens_nodes g fs (If c a b) e (inr (inl h)) = smaller e b _ h.1 (omega (arith, some_nodes c))
shortens_nodes g fs (If c a b) e (inr (inr h)) = smaller e a _ h.1 (omega (arith, some_nodes c))
shortens_nodes g fs (Eq a b) e h = smaller e (TruthLit true) _ h.1 (omega (arith, some_nodes a))
shortens_nodes g fs (Arith Add a b) e h = smaller e a _ h.1 (omega (arith, some_nodes b))
shortens_nodes g fs (Not (Eq (If c (WordLit u) (WordLit v)) (WordLit w))) e h = smaller e c _ h.1 (omega arith)
shortens_nodes g fs (ToWord n (ToNat a)) e h = smaller e a _ h.1 (omega arith)
shortens_nodes g fs (ToWord n (ToInt a)) e h = smaller e a _ h.1 (omega arith)
shortens_nodes g fs (ToNat (ToWord n a)) e h = smaller e a _ h.1 (omega arith)
shortens_nodes g fs (ToInt (ToWord n a)) e h = smaller e a _ h.1 (omega arith)
shortens_nodes g fs a e h = absurd h

-- Tests

module _ (test : Exp → Bool) (constants : (b : Bool) → test (TruthLit b) ≡ false) where
  same_free : (e a : Exp) → e ≡ a → has test a ≡ false → has test e ≡ false
  same_free e a h k = ap (λ x. has test x) h ∙ k

  one_part : (e a : Exp) → (test e || has test a) ≡ false → has test a ≡ false
  one_part e a k = (or_parts (test e) (has test a) k).1

  two_parts : (e a b : Exp) → ((test e || has test a) || has test b) ≡ false → (has test a ≡ false) × (has test b ≡ false)
  two_parts e a b k =
      let p = or_parts (test e || has test a) (has test b) k in (one_part e a p.0, p.1)

  three_parts : (e c a b : Exp) → (((test e || has test c) || has test a) || has test b) ≡ false →
      (has test c ≡ false) × (has test a ≡ false) × (has test b ≡ false)
  three_parts e c a b k =
      let p = or_parts ((test e || has test c) || has test a) (has test b) k in
      let q = two_parts e c a p.0 in (q.0, q.1, p.1)

  pub shortens_free : (g : Scope) (fs : List Fact) (a e : Exp) → Shortens g fs a e → has test a ≡ false → has test e ≡ false
  shortens_free g fs (Not (Not a)) e h k = same_free e a h (one_part (Not a) a (one_part (Not (Not a)) (Not a) k))
  shortens_free g fs (And a b) e (inl h) k = same_free e b h.1 (two_parts (And a b) a b k).1
  shortens_free g fs (And a b) e (inr (inl h)) k = same_free e a h.1 (two_parts (And a b) a b k).0
  shortens_free g fs (And a b) e (inr (inr h)) k = same_free e (TruthLit false) h.1 (constants false)
  shortens_free g fs (Or a b) e (inl h) k = same_free e b h.1 (two_parts (Or a b) a b k).1
  shortens_free g fs (Or a b) e (inr h) k = same_free e (TruthLit true) h.1 (constants true)
  shortens_free g fs (Imp a b) e (inl h) k = same_free e b h.1 (two_parts (Imp a b) a b k).1
  shortens_free g fs (Imp a b) e (inr h) k = same_free e (TruthLit true) h.1 (constants true)
  shortens_free g fs (If c a b) e (inl h) k = same_free e a h.1 (three_parts (If c a b) c a b k).1
  shortens_free g fs (If c a b) e (inr (inl h)) k = same_free e b h.1 (three_parts (If c a b) c a b k).2
  shortens_free g fs (If c a b) e (inr (inr h)) k = same_free e a h.1 (three_parts (If c a b) c a b k).1
  shortens_free g fs (Eq a b) e h k = same_free e (TruthLit true) h.1 (constants true)
  shortens_free g fs (Arith Add a b) e h k = same_free e a h.1 (two_parts (Arith Add a b) a b k).0
  shortens_free g fs (Not (Eq (If c (WordLit u) (WordLit v)) (WordLit w))) e h k =
      let i = If c (WordLit u) (WordLit v) in
      let p = two_parts (Eq i (WordLit w)) i (WordLit w) (one_part (Not (Eq i (WordLit w))) (Eq i (WordLit w)) k) in
      same_free e c h.1 (three_parts i c (WordLit u) (WordLit v) p.0).0
  shortens_free g fs (ToWord n (ToNat a)) e h k = same_free e a h.1
      (one_part (ToNat a) a (one_part (ToWord n (ToNat a)) (ToNat a) k))
  shortens_free g fs (ToWord n (ToInt a)) e h k = same_free e a h.1
      (one_part (ToInt a) a (one_part (ToWord n (ToInt a)) (ToInt a) k))
  shortens_free g fs (ToNat (ToWord n a)) e h k =
      same_free e a h.1 (one_part (ToWord n a) a (one_part (ToNat (ToWord n a)) (ToWord n a) k))
  shortens_free g fs (ToInt (ToWord n a)) e h k =
      same_free e a h.1 (one_part (ToWord n a) a (one_part (ToInt (ToWord n a)) (ToWord n a) k))
  shortens_free g fs a e h k = absurd h
