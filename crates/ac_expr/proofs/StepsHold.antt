-- What one step takes an expression to has its value, where the facts hold; and so have two expressions that are one step apart.
use Rattle.std.proofs.Common.{◌≡◌, ℕ, ◌≤◌, ◌==◌, Bool, true, false, not, ◌&&◌, ◌||◌, List, Option, Some, pos, inl, inr, refl, sym, ap, ◌∙◌, subst, arith}
use Rattle.std.proofs.Math.IntN.{+ℤ_idr}
use Rattle.std.proofs.lemmas.Bool.{and_parts, and_from, true≢false}
use Rattle.std.proofs.lemmas.Bool.Decides.{Decides-int_eq, Decides-eqb}
use Rattle.std.proofs.Math.Bool.{not-not, and-true, and-false}
use Rattle.c_values.specs.Name.{Name}
use Rattle.c_values.specs.Width.{IsWidth}
use Rattle.c_values.specs.Word.{Word, IsWord}
use Rattle.c_values.specs.Number.{Add, least, greatest}
use Rattle.c_values.specs.Value.{Value, Values, Bits, Number, Truth, Parts, no_values, more, word_in, number_in, truth_in, same_value, same_values}
use Rattle.c_values.specs.Layout.{Layout, IsLayout, GlobalVar, global_type}
use Rattle.c_values.proofs.WordValues.{unsigned-word, signed-word, word-unsigned, word-signed}
use Rattle.expression_lang.specs.Expression.{Exp, WordLit, NumberLit, ToNat, ToInt, ToWord, Arith, Between, Eq, And, Or, Imp, Not, If}
use Rattle.expression_lang.specs.Form.{has}
use Rattle.expression_lang.specs.Evaluation.{Env, State, value, if_truth}
use Rattle.expression_lang.specs.Sort.{Scalar, WordSort, NumberSort, TruthSort, Sort, Of, Scope, sort_of, word_width, is_width, is_number, is_truth, truth_sort, number_sort, word_sort, where_holds, of_word, are_same}
use Rattle.expression_lang.specs.Signature.{no_env}
use Rattle.expression_lang.specs.States.{IsOfSort, IsEnvironment, IsState}
use Rattle.expression_lang.proofs.Fine.{HasSort, fine, width_of_test}
use Rattle.expression_lang.proofs.Inversion.{where_inv, word_inv, width_inv, number_inv, truth_inv, same_inv}
use Rattle.ac_expr.specs.Fact.{Fact, AllSay}
use Rattle.ac_expr.specs.Known.{IsKnown}
use Rattle.ac_expr.specs.Step.{is_open, is_wide, no_state, constant_value, constant, IsItsValue, IsFlag, Shortens, IsStep}
use Rattle.ac_expr.proofs.KnownHolds.{known_holds}
use Rattle.ac_expr.proofs.SameValues.{value_same}

-- values of scalars

truth_is : (v : Value) → IsOfSort TruthSort v → Truth (truth_in v) ≡ v
truth_is (Truth b) h = refl
truth_is _ h = absurd h

number_is : (v : Value) → IsOfSort NumberSort v → Number (number_in v) ≡ v
number_is (Number n) h = refl
number_is _ h = absurd h

word_is : (n : ℕ) (v : Value) → IsOfSort (WordSort n) v → (Bits (word_in v) ≡ v) × IsWord n (word_in v)
word_is n (Bits w) h = (refl, h)
word_is _ _ h = absurd h

mutual
  same_itself : (v : Value) → same_value v v ≡ true
  same_itself (Bits w) = and_from (w.width == w.width) (w.bits == w.bits) ((Decides-eqb w.width w.width).1 refl) ((Decides-eqb w.bits w.bits).1 refl)
  same_itself (Number n) = (Decides-int_eq n n).1 refl
  same_itself (Truth true) = refl
  same_itself (Truth false) = refl
  same_itself (Parts vs) = all_themselves vs

  all_themselves : (vs : Values) → same_values vs vs ≡ true
  all_themselves no_values = refl
  all_themselves (more v vs) = and_from (same_value v v) (same_values vs vs) (same_itself v) (all_themselves vs)

both_same : (b : Bool) (v : Value) → if_truth b v v ≡ v
both_same true v = refl
both_same false v = refl

-- 1 is not 0, and 0 is
flag_shown : (u v w : Word) → IsFlag u v w → (b : Bool) → not (same_value (if_truth b (Bits u) (Bits v)) (Bits w)) ≡ b
flag_shown u v w h true =
    ap not (ap (λ x. same_value (Bits x) (Bits w)) h.one ∙ ap (λ n. (w.width == w.width) && (1 == n)) h.bits ∙ and-false (w.width == w.width))
flag_shown u v w h false = ap not (ap (λ x. same_value (Bits x) (Bits w)) h.zero ∙ same_itself (Bits w))

one_at_least : (n : ℕ) → IsWidth n → 1 ≤ n
one_at_least n (inl h) = subst (λ k. 1 ≤ k) (sym h) (omega arith)
one_at_least n (inr (inl h)) = subst (λ k. 1 ≤ k) (sym h) (omega arith)
one_at_least n (inr (inr (inl h))) = subst (λ k. 1 ≤ k) (sym h) (omega arith)
one_at_least n (inr (inr (inr h))) = subst (λ k. 1 ≤ k) (sym h) (omega arith)

module _ (l : Layout) (laid : IsLayout l) (vs : List GlobalVar) (env : Env) (s : State) (state : IsState l vs s) where
  abbrev pub Names : Type 0
  Names = Name → Option Scalar

  abbrev pub scope : Names → Scope
  scope names = record { layout = l; names = names; globals = global_type vs }

  abbrev at : Exp → Value
  at e = value l env s e

  -- the value of a well-sorted expression is of its sort
  pub of_its_sort : (names : Names) → IsEnvironment (scope names) env → (e : Exp) (o : Sort) → sort_of (scope names) e ≡ Some o → HasSort l o (at e)
  of_its_sort names k e o h = (fine (scope names) laid env s k state.globals state.heap e o h).sort

  -- in a scope that the environment fits
  module _ (names : Names) (fits : IsEnvironment (scope names) env) where
    abbrev sort : Exp → Option Sort
    sort e = sort_of (scope names) e

    as_truth : (e : Exp) → is_truth (sort e) ≡ true → Truth (truth_in (at e)) ≡ at e
    as_truth e h = truth_is (at e) (of_its_sort names fits e (Of TruthSort) (truth_inv (sort e) h))

    as_number : (e : Exp) → is_number (sort e) ≡ true → Number (number_in (at e)) ≡ at e
    as_number e h = number_is (at e) (of_its_sort names fits e (Of NumberSort) (number_inv (sort e) h))

    as_word : (e : Exp) (n : ℕ) → word_width (sort e) ≡ Some n → (Bits (word_in (at e)) ≡ at e) × IsWord n (word_in (at e))
    as_word e n h = word_is n (at e) (of_its_sort names fits e (Of (WordSort n)) (width_inv (sort e) n h))

    two_truths : (a b : Exp) (o : Sort) → where_holds (is_truth (sort a) && is_truth (sort b)) truth_sort ≡ Some o → (is_truth (sort a) ≡ true) × (is_truth (sort b) ≡ true)
    two_truths a b o h = and_parts (is_truth (sort a)) (is_truth (sort b)) (where_inv (is_truth (sort a) && is_truth (sort b)) truth_sort o h).0

  -- A row of the table, whose left side is well-sorted in one scope, and which speaks of the widths in another; the environment fits both.
  module _ (fs : List Fact) (said : AllSay l env s fs) (names other : Names) (fits : IsEnvironment (scope names) env) (fits' : IsEnvironment (scope other) env) where
    abbrev truth : (e : Exp) → is_truth (sort_of (scope other) e) ≡ true → Truth (truth_in (at e)) ≡ at e
    truth = as_truth other fits'

    abbrev sort' : Exp → Option Sort
    sort' x = sort_of (scope other) x

    parted : (a b : Exp) (o : Sort) → where_holds (is_truth (sort_of (scope other) a) && is_truth (sort_of (scope other) b)) truth_sort ≡ Some o →
        (Truth (truth_in (at a)) ≡ at a) × (Truth (truth_in (at b)) ≡ at b)
    parted a b o h = let k = two_truths other fits' a b o h in (truth a k.0, truth b k.1)

    and_holds : (a b e : Exp) (o : Sort) → sort_of (scope other) (And a b) ≡ Some o → Shortens (scope names) fs (And a b) e → at (And a b) ≡ at e
    and_holds a b e o h (inl k) = ap (λ x. at (And x b)) k.0 ∙ (parted a b o h).1 ∙ ap at (sym k.1)
    and_holds a b e o h (inr (inl k)) = ap (λ x. at (And a x)) k.0 ∙ ap (λ b. Truth b) (and-true (truth_in (at a))) ∙ (parted a b o h).0 ∙ ap at (sym k.1)
    and_holds a b e o h (inr (inr k)) = ap (λ x. at (And x b)) k.0 ∙ ap at (sym k.1)

    or_holds : (a b e : Exp) (o : Sort) → sort_of (scope other) (Or a b) ≡ Some o → Shortens (scope names) fs (Or a b) e → at (Or a b) ≡ at e
    or_holds a b e o h (inl k) = ap (λ x. at (Or x b)) k.0 ∙ (parted a b o h).1 ∙ ap at (sym k.1)
    or_holds a b e o h (inr k) = ap (λ x. at (Or x b)) k.0 ∙ ap at (sym k.1)

    imp_holds : (a b e : Exp) (o : Sort) → sort_of (scope other) (Imp a b) ≡ Some o → Shortens (scope names) fs (Imp a b) e → at (Imp a b) ≡ at e
    imp_holds a b e o h (inl k) = ap (λ x. at (Imp x b)) k.0 ∙ (parted a b o h).1 ∙ ap at (sym k.1)
    imp_holds a b e o h (inr k) = ap (λ x. at (Imp x b)) k.0 ∙ ap at (sym k.1)

    if_holds : (c a b e : Exp) → Shortens (scope names) fs (If c a b) e → at (If c a b) ≡ at e
    if_holds c a b e (inl k) = ap (λ x. at (If x a b)) k.0 ∙ ap at (sym k.1)
    if_holds c a b e (inr (inl k)) = ap (λ x. at (If x a b)) k.0 ∙ ap at (sym k.1)
    if_holds c a b e (inr (inr k)) = ap (λ x. at (If c a x)) k.0 ∙ both_same (truth_in (at c)) (at a) ∙ ap at (sym k.1)

    not_inside : (a : Exp) (o : Sort) → where_holds (is_truth (sort_of (scope other) a)) truth_sort ≡ Some o → is_truth (sort_of (scope other) a) ≡ true
    not_inside a o h = (where_inv (is_truth (sort_of (scope other) a)) truth_sort o h).0

    flag_holds : (c e : Exp) (u v w : Word) (o : Sort) → sort_of (scope other) (Not (Eq (If c (WordLit u) (WordLit v)) (WordLit w))) ≡ Some o → IsFlag u v w → e ≡ c → at (Not (Eq (If c (WordLit u) (WordLit v)) (WordLit w))) ≡ at e
    flag_holds c e u v w o h k i =
        ap (λ b. Truth b) (flag_shown u v w k (truth_in (at c))) ∙ truth c is ∙ ap at (sym i)
      where
        tested : (q : Option Sort) (r : Option Sort) (o : Sort) → where_holds (is_truth (where_holds (are_same q r) truth_sort)) truth_sort ≡ Some o → are_same q r ≡ true
        tested q r o h = by_test (are_same q r) (where_inv (is_truth (where_holds (are_same q r) truth_sort)) truth_sort o h).0
          where
            by_test : (b : Bool) → is_truth (where_holds b truth_sort) ≡ true → b ≡ true
            by_test true i = refl
            by_test false i = absurd cc

        is : is_truth (sort' c) ≡ true
        is =
            let q = same_inv (sort' (If c (WordLit u) (WordLit v))) (sort' (WordLit w)) (tested (sort' (If c (WordLit u) (WordLit v))) (sort' (WordLit w)) o h) in
            let r = where_inv (is_truth (sort' c) && are_same (sort' (WordLit u)) (sort' (WordLit v))) (sort' (WordLit u)) q.0 q.1 in
            (and_parts (is_truth (sort' c)) (are_same (sort' (WordLit u)) (sort' (WordLit v))) r.0).0

    word_holds : (n : ℕ) (a e : Exp) → word_width (sort_of (scope names) a) ≡ Some n → e ≡ a → (at (ToWord n (ToNat a)) ≡ at e) × (at (ToWord n (ToInt a)) ≡ at e)
    word_holds n a e h i =
        let k = as_word names fits a n h in
        (ap (λ w. Bits w) (word-unsigned n (word_in (at a)) k.1) ∙ k.0 ∙ ap at (sym i), ap (λ w. Bits w) (word-signed n (word_in (at a)) k.1) ∙ k.0 ∙ ap at (sym i))

    -- a word that is made of a number
    made : (n : ℕ) (a : Exp) (f : ℕ → Option Sort) (o : Sort) → of_word (word_width (sort_of (scope other) (ToWord n a))) f ≡ Some o → IsWidth n × (Number (number_in (at a)) ≡ at a)
    made n a f o h =
        let i = word_inv (word_width (sort_of (scope other) (ToWord n a))) f o h in
        let j = width_inv (sort_of (scope other) (ToWord n a)) i.0 i.1 in
        let k = where_inv (is_width n && is_number (sort_of (scope other) a)) (word_sort n) (Of (WordSort i.0)) j in
        let p = and_parts (is_width n) (is_number (sort_of (scope other) a)) k.0 in
        (width_of_test n p.0, as_number other fits' a p.1)

    nat_holds : (n : ℕ) (a e : Exp) (o : Sort) → sort_of (scope other) (ToNat (ToWord n a)) ≡ Some o → IsKnown fs (Between (least false n) a (greatest false n)) → e ≡ a → at (ToNat (ToWord n a)) ≡ at e
    nat_holds n a e o h k i =
        let m = made n a (λ n. number_sort) o h in
        ap (λ z. Number z) (unsigned-word n (number_in (at a)) (known_holds l env s fs _ said k)) ∙ m.1 ∙ ap at (sym i)

    int_holds : (n : ℕ) (a e : Exp) (o : Sort) → sort_of (scope other) (ToInt (ToWord n a)) ≡ Some o → IsKnown fs (Between (least true n) a (greatest true n)) → e ≡ a → at (ToInt (ToWord n a)) ≡ at e
    int_holds n a e o h k i =
        let m = made n a (λ n. number_sort) o h in
        ap (λ z. Number z) (signed-word n (number_in (at a)) (one_at_least n m.0) (known_holds l env s fs _ said k)) ∙ m.1 ∙ ap at (sym i)

    plus_holds : (a b e : Exp) (o : Sort) → sort_of (scope other) (Arith Add a b) ≡ Some o → b ≡ NumberLit (pos 0) → e ≡ a → at (Arith Add a b) ≡ at e
    plus_holds a b e o h k i =
        let j = where_inv (true && is_number (sort_of (scope other) a) && is_number (sort_of (scope other) b)) number_sort o h in
        let q = and_parts (is_number (sort_of (scope other) a)) (is_number (sort_of (scope other) b)) j.0 in
        ap (λ x. at (Arith Add a x)) k ∙ ap (λ z. Number z) (+ℤ_idr (number_in (at a))) ∙ as_number other fits' a q.0 ∙ ap at (sym i)

    pub shortens_holds : (a e : Exp) (o : Sort) → sort_of (scope other) a ≡ Some o → Shortens (scope names) fs a e → at a ≡ at e
    shortens_holds (Not (Not a)) e o h k =
        ap (λ b. Truth b) (not-not (truth_in (at a))) ∙ truth a (not_inside a (Of TruthSort) (truth_inv (sort_of (scope other) (Not a)) (not_inside (Not a) o h))) ∙ ap at (sym k)
    shortens_holds (And a b) e o h k = and_holds a b e o h k
    shortens_holds (Or a b) e o h k = or_holds a b e o h k
    shortens_holds (Imp a b) e o h k = imp_holds a b e o h k
    shortens_holds (If c a b) e o h k = if_holds c a b e k
    shortens_holds (Eq a b) e o h k = ap (λ x. at (Eq a x)) k.0 ∙ ap (λ b. Truth b) (same_itself (at a)) ∙ ap at (sym k.1)
    shortens_holds (Arith Add a b) e o h k = plus_holds a b e o h k.0 k.1
    shortens_holds (Not (Eq (If c (WordLit u) (WordLit v)) (WordLit w))) e o h k = flag_holds c e u v w o h k.0 k.1
    shortens_holds (ToWord n (ToNat a)) e o h k = (word_holds n a e k.0 k.1).0
    shortens_holds (ToWord n (ToInt a)) e o h k = (word_holds n a e k.0 k.1).1
    shortens_holds (ToNat (ToWord n a)) e o h k = nat_holds n a e o h k.0 k.1
    shortens_holds (ToInt (ToWord n a)) e o h k = int_holds n a e o h k.0 k.1
    shortens_holds _ e o h k = absurd k

  -- constants alone have one value everywhere
  constants_same : (e : Exp) → has (λ x. is_open x || is_wide (constant_value l x)) e ≡ false → value l env s e ≡ constant_value l e
  constants_same e h =
      value_same l (λ x. is_open x || is_wide (constant_value l x)) env no_env s no_state
      (record {
        name = λ y k. absurd (true≢false k);
        load = λ t p path k. absurd (true≢false k);
        read = λ t p path k. absurd (true≢false k);
        global = λ y path k. absurd (true≢false k);
        tags = λ t p k. absurd (true≢false k);
      }) e h

  spelled : (v : Value) (e : Exp) → constant v ≡ Some e → v ≡ at e
  spelled (Bits w) e h = ap at (some_exp h)
    where
      some_exp : {a b : Exp} → ◌≡◌ {A = Option Exp} (Some a) (Some b) → a ≡ b
      some_exp h = cc
  spelled (Number n) e h = ap at (some_exp h)
    where
      some_exp : {a b : Exp} → ◌≡◌ {A = Option Exp} (Some a) (Some b) → a ≡ b
      some_exp h = cc
  spelled (Truth b) e h = ap at (some_exp h)
    where
      some_exp : {a b : Exp} → ◌≡◌ {A = Option Exp} (Some a) (Some b) → a ≡ b
      some_exp h = cc
  spelled (Parts vs) e h = absurd cc

  pub value_holds : (a e : Exp) → IsItsValue l a e → at a ≡ at e
  value_holds a e h = constants_same a h.0 ∙ spelled (constant_value l a) e h.1

  pub step_holds : (fs : List Fact) → AllSay l env s fs → (names other : Names) → IsEnvironment (scope names) env → IsEnvironment (scope other) env →
      (a e : Exp) (o : Sort) → sort_of (scope other) a ≡ Some o → IsStep (scope names) fs a e → at a ≡ at e
  step_holds fs said names other fits fits' a e o h (inl k) = shortens_holds fs said names other fits fits' a e o h k
  step_holds fs said names other fits fits' a e o h (inr k) = value_holds a e k
