-- Words that are numbers, names and truth values.
use Rattle.std.proofs.Common.{◌≡◌, ℕ, suc, ◌+◌, ◌%◌, ◌^◌, ◌<◌, ◌≤◌, inl, inr, Bool, true, false, cond, ◌||◌, ℤ, List, [], ◌∷◌, ◌++◌, Option, Some, None, Ok, Err, refl, ap, sym, ◌∙◌, arith, add-one, eqb-true, subst, lit<, lit≤, if◌then◌else◌}
use Rattle.std.specs.Prelude.{◌==◌, ◌&&◌, pos, negsuc}
use Rattle.std.specs.List.{list_all}
use Rattle.std.specs.Fmt.{decimal}
use Rattle.std.proofs.lemmas.Fmt.{decimal_by_steps_wide}
use Rattle.std.proofs.lemmas.Bool.{cond-true, cond-false, ltb-true, lt-ltb, false_from_ne_true, or_cases}
use Rattle.std.proofs.lemmas.Bool.Decides.{nat_tests}
use Rattle.c_values.specs.Name.{Name, same_name}
use Rattle.ac_sx.specs.Tree.{Tree, Atom, Node}
use Rattle.expression_lang.specs.Expression.{Exp, Var, NumberLit, TruthLit}
use Rattle.expression_text.specs.Reading.{Read, next}
use Rattle.expression_text.specs.Names.{begins_name, goes_on_name, is_name}
use Rattle.expression_text.specs.Numbers.{number_text, is_number, natural_in, negated, not_negated, number_in, number_from, number_at}
use Rattle.expression_text.specs.ExpText.{truth_word, exp_tree, is_width, is_exp}
use Rattle.expression_text.specs.Answer.{IsExpText}
use Rattle.expression_text.specs.ExpReading.{width_from, width_at, number_leaf_at, leaf_at}
use Rattle.expression_text.proofs.LookedUp.{name_is}
use Rattle.expression_text.proofs.NumbersRead.{natural_of, natural_is, number_plain}
use Rattle.expression_text.proofs.Behind.{IsReadAs, kept_ok, value_ok}

-- the first byte is a digit
abbrev pub BeginsWithDigit : List ℕ → Type 0
BeginsWithDigit [] = ⊥
BeginsWithDigit (c ∷ cs) = (48 ≤ c) × (c ≤ 57)

digit_more : (ds : List ℕ) (d : ℕ) → BeginsWithDigit ds → BeginsWithDigit (ds ++ d ∷ [])
digit_more [] d h = absurd h
digit_more (c ∷ cs) d h = h

pub decimal_begins : (n : ℕ) → n < 2 ^ 128 → BeginsWithDigit (decimal n)
decimal_begins n lt = decimal_by_steps_wide (λ m ds. BeginsWithDigit ds) (λ m less. (omega arith, omega arith)) (λ m ds _ h. digit_more ds (48 + m % 10) h) n (omega arith)

no_name_byte : (c : ℕ) → c ≤ 57 → (c ≡ 36 → ⊥) → begins_name c ≡ false
no_name_byte c le no_dollar = grind (arith, nat_tests)

digits_no_name : (w : List ℕ) → BeginsWithDigit w → is_name w ≡ false
digits_no_name [] h = absurd h
digits_no_name (c ∷ cs) h = let no : begins_name c ≡ false = no_name_byte c h.1 (λ e. let le = h.0 in omega arith) in ap (λ b. b && list_all goes_on_name cs) no

digits_no_minus : (w : List ℕ) → BeginsWithDigit w → (rest : List ℕ) → w ≡ 45 ∷ rest → ⊥
digits_no_minus [] h rest e = absurd h
digits_no_minus (c ∷ cs) h rest e = let same : c ≡ 45 = cc in let le = h.0 in omega arith

digits_no_truth : (w : List ℕ) → BeginsWithDigit w → (b : Bool) → same_name w (truth_word b) ≡ false
digits_no_truth [] h b = absurd h
digits_no_truth (c ∷ cs) h b = false_from_ne_true (same_name (c ∷ cs) (truth_word b)) (λ e. other b (name_is (c ∷ cs) (truth_word b) e))
  where
    other : (b : Bool) → c ∷ cs ≡ truth_word b → ⊥
    other true e = let same : c ≡ 35 = cc in let le = h.0 in omega arith
    other false e = let same : c ≡ 35 = cc in let le = h.0 in omega arith

-- the text of a number is no name and no truth value
abbrev pub IsPlainNumber : List ℕ → ℤ → Type 0
IsPlainNumber w z = (is_name w ≡ false) × ((b : Bool) → same_name w (truth_word b) ≡ false) × (number_in w ≡ Some z)

pub number_text_is : (z : ℤ) → is_number z ≡ true → IsPlainNumber (number_text z) z
number_text_is (pos n) is =
    let lt = ltb-true n (2 ^ 128) is in
    let digits = decimal_begins n lt in
    (digits_no_name (decimal n) digits, digits_no_truth (decimal n) digits, sym (number_plain (decimal n) (digits_no_minus (decimal n) digits)) ∙ ap not_negated (natural_of n lt))
number_text_is (negsuc n) is =
    let lt = ltb-true (n + 1) (2 ^ 128) is in
    let one : n + 1 ≡ suc n = add-one n in
    (refl, λ b. minus_no_truth b (decimal (n + 1)), ap negated (natural_of (n + 1) lt) ∙ ap (λ m. negated (Some m)) one)
  where
    minus_no_truth : (b : Bool) (ds : List ℕ) → same_name (45 ∷ ds) (truth_word b) ≡ false
    minus_no_truth true ds = refl
    minus_no_truth false ds = refl

negated_is : (o : Option ℕ) (z : ℤ) → negated o ≡ Some z → (m : ℕ) × (o ≡ Some (suc m)) × (z ≡ negsuc m)
negated_is (Some (suc m)) z e = let same : negsuc m ≡ z = cc in (m, refl, sym same)
negated_is _ z e = absurd cc

not_negated_is : (o : Option ℕ) (z : ℤ) → not_negated o ≡ Some z → (m : ℕ) × (o ≡ Some m) × (z ≡ pos m)
not_negated_is None z e = absurd cc
not_negated_is (Some m) z e = let same : pos m ≡ z = cc in (m, refl, sym same)

signed_is : (b : ℕ) (bs : List ℕ) (z : ℤ) (t : Bool) → (b == 45) ≡ t → (if t then negated (natural_in bs) else not_negated (natural_in (b ∷ bs))) ≡ Some z → (b ∷ bs ≡ number_text z) × (is_number z ≡ true)
signed_is b bs z true e f =
    let (m, there, same) = negated_is (natural_in bs) z f in
    let is = natural_is bs (suc m) there in
    let one : suc m ≡ m + 1 = sym (add-one m) in
    let less = is.1 in (
      ap (λ c. c ∷ bs) (eqb-true b 45 e) ∙ ap (λ ds. 45 ∷ ds) (is.0 ∙ ap decimal one) ∙ ap number_text (sym same),
      ap is_number same ∙ lt-ltb (m + 1) (2 ^ 128) (omega (arith, less)),
    )
signed_is b bs z false e f =
    let (m, there, same) = not_negated_is (natural_in (b ∷ bs)) z f in
    let is = natural_is (b ∷ bs) m there in
    (is.0 ∙ ap number_text (sym same), ap is_number same ∙ lt-ltb m (2 ^ 128) is.1)

pub number_in_is : (w : List ℕ) (z : ℤ) → number_in w ≡ Some z → (w ≡ number_text z) × (is_number z ≡ true)
number_in_is [] z e = absurd cc
number_in_is (b ∷ bs) z e = signed_is b bs z (b == 45) refl e

pub number_reads : (z : ℤ) → is_number z ≡ true → IsReadAs number_at (Atom (number_text z)) z
number_reads z is = λ at. ap (number_from at) (number_text_is z is).2

pub number_spells : (t : Tree) (at : ℕ) (z : ℤ) (n : ℕ) → number_at at t ≡ Ok (z, n) → (t ≡ Atom (number_text z)) × (is_number z ≡ true)
number_spells (Atom word) at z n e = at_number (number_in word) refl e
  where
    at_number : (o : Option ℤ) → number_in word ≡ o → number_from at o ≡ Ok (z, n) → (Atom word ≡ Atom (number_text z)) × (is_number z ≡ true)
    at_number None f g = absurd cc
    at_number (Some y) f g = let same = value_ok y (next at) z n g in let is = number_in_is word y f in (ap Atom (is.0 ∙ ap number_text same), ap is_number (sym same) ∙ is.1)
number_spells (Node ts) at z n e = absurd cc

-- what holds of each width
each_width : (P : ℕ → Type 0) → P 8 → P 16 → P 32 → P 64 → (n : ℕ) → is_width n ≡ true → P n
each_width P p8 p16 p32 p64 n e = elim (or_cases (n == 8 || n == 16 || n == 32) (n == 64) e) [
  | inr same ↦ subst P (sym (eqb-true n 64 same)) p64
  | inl e ↦ elim (or_cases (n == 8 || n == 16) (n == 32) e) [
    | inr same ↦ subst P (sym (eqb-true n 32 same)) p32
    | inl e ↦ elim (or_cases (n == 8) (n == 16) e) [
      | inr same ↦ subst P (sym (eqb-true n 16 same)) p16
      | inl same ↦ subst P (sym (eqb-true n 8 same)) p8
    ]
  ]
]

width_small : (n : ℕ) → is_width n ≡ true → n < 2 ^ 128
width_small n e = each_width (λ m. m < 2 ^ 128) (lit< tt) (lit< tt) (lit< tt) (lit< tt) n e

pub bits_small : (n : ℕ) → is_width n ≡ true → 2 ^ n ≤ 2 ^ 128
bits_small n e = each_width (λ m. 2 ^ m ≤ 2 ^ 128) (lit≤ tt) (lit≤ tt) (lit≤ tt) (lit≤ tt) n e

pub width_reads : (n : ℕ) → is_width n ≡ true → IsReadAs width_at (Atom (decimal n)) n
width_reads n is = λ at. ap (width_from at) (natural_of n (width_small n is)) ∙ cond-true (is_width n) (Ok (n, next at)) (Err at) is

pub width_spells : (t : Tree) (at x n : ℕ) → width_at at t ≡ Ok (x, n) → (t ≡ Atom (decimal x)) × (is_width x ≡ true)
width_spells (Atom word) at x n e = at_width (natural_in word) refl e
  where
    at_width : (o : Option ℕ) → natural_in word ≡ o → width_from at o ≡ Ok (x, n) → (Atom word ≡ Atom (decimal x)) × (is_width x ≡ true)
    at_width None f g = absurd cc
    at_width (Some m) f g =
        let p = kept_ok (is_width m) m (next at) at x n g in
        (ap Atom ((natural_is word m f).0 ∙ ap decimal p.1), ap is_width (sym p.1) ∙ p.0)
width_spells (Node ts) at x n e = absurd cc

-- leaves
name_no_truth : (x : Name) → is_name x ≡ true → (b : Bool) → same_name x (truth_word b) ≡ false
name_no_truth x is b = false_from_ne_true (same_name x (truth_word b)) (λ e. other b (name_is x (truth_word b) e))
  where
    other : (b : Bool) → x ≡ truth_word b → ⊥
    other true e = let no : is_name x ≡ false = ap is_name e in absurd cc
    other false e = let no : is_name x ≡ false = ap is_name e in absurd cc

pub truth_reads : (b : Bool) (at : ℕ) → leaf_at at (truth_word b) ≡ Ok (TruthLit b, next at)
truth_reads true at = refl
truth_reads false at = refl

past_truths : (at : ℕ) (w : Name) → ((b : Bool) → same_name w (truth_word b) ≡ false) → leaf_at at w ≡ (if is_name w then Ok (Var w, next at) else number_leaf_at at (number_in w))
past_truths at w other =
    cond-false (same_name w (truth_word true)) (Ok (TruthLit true, next at)) (if same_name w (truth_word false) then Ok (TruthLit false, next at) else if is_name w then Ok (Var w, next at) else number_leaf_at at (number_in w)) (other true)
    ∙ cond-false (same_name w (truth_word false)) (Ok (TruthLit false, next at)) (if is_name w then Ok (Var w, next at) else number_leaf_at at (number_in w)) (other false)

pub var_reads : (x : Name) (at : ℕ) → is_name x ≡ true → leaf_at at x ≡ Ok (Var x, next at)
var_reads x at is = past_truths at x (name_no_truth x is) ∙ cond-true (is_name x) (Ok (Var x, next at)) (number_leaf_at at (number_in x)) is

pub number_leaf_reads : (z : ℤ) (at : ℕ) → is_number z ≡ true → leaf_at at (number_text z) ≡ Ok (NumberLit z, next at)
number_leaf_reads z at is =
    let p = number_text_is z is in
    past_truths at (number_text z) p.1
    ∙ cond-false (is_name (number_text z)) (Ok (Var (number_text z), next at)) (number_leaf_at at (number_in (number_text z))) p.0
    ∙ ap (number_leaf_at at) p.2

pub exp_moved : {t : Tree} (e f : Exp) → e ≡ f → t ≡ exp_tree e → is_exp e ≡ true → IsExpText t f
exp_moved e f same is fine = (is ∙ ap exp_tree same, ap is_exp (sym same) ∙ fine)

pub leaf_spells : (word : Name) (at : ℕ) (e : Exp) (n : ℕ) → leaf_at at word ≡ Ok (e, n) → IsExpText (Atom word) e
leaf_spells word at e n read = at_true (same_name word (truth_word true)) refl read
  where
    number_case : (o : Option ℤ) → number_in word ≡ o → number_leaf_at at o ≡ Ok (e, n) → IsExpText (Atom word) e
    number_case None f g = absurd cc
    number_case (Some z) f g = let is = number_in_is word z f in exp_moved (NumberLit z) e (value_ok (NumberLit z) (next at) e n g) (ap Atom is.0) is.1

    at_name : (t : Bool) → is_name word ≡ t → cond {A = Read Exp} t (Ok (Var word, next at)) (number_leaf_at at (number_in word)) ≡ Ok (e, n) → IsExpText (Atom word) e
    at_name true f g = exp_moved (Var word) e (value_ok (Var word) (next at) e n g) refl f
    at_name false f g = number_case (number_in word) refl g

    at_false : (t : Bool) → same_name word (truth_word false) ≡ t → cond {A = Read Exp} t (Ok (TruthLit false, next at)) (if is_name word then Ok (Var word, next at) else number_leaf_at at (number_in word)) ≡ Ok (e, n) → IsExpText (Atom word) e
    at_false true f g = exp_moved (TruthLit false) e (value_ok (TruthLit false) (next at) e n g) (ap Atom (name_is word (truth_word false) f)) refl
    at_false false f g = at_name (is_name word) refl g

    at_true : (t : Bool) → same_name word (truth_word true) ≡ t → cond {A = Read Exp} t (Ok (TruthLit true, next at)) (if same_name word (truth_word false) then Ok (TruthLit false, next at) else if is_name word then Ok (Var word, next at) else number_leaf_at at (number_in word)) ≡ Ok (e, n) →
        IsExpText (Atom word) e
    at_true true f g = exp_moved (TruthLit true) e (value_ok (TruthLit true) (next at) e n g) (ap Atom (name_is word (truth_word true) f)) refl
    at_true false f g = at_false (same_name word (truth_word false)) refl g
