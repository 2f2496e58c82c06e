-- The truth value that is computed of a claim, from what is computed of its sides.
use Rattle.std.proofs.Common.{◌≡◌, ◌↔◌, IsTrue, Bool, true, false, Option, Some, None, ℤ, refl, sym, ap, ◌∙◌}
use Rattle.std.specs.Prelude.{int_le}
use Rattle.c_values.specs.Word.{Word}
use Rattle.c_values.specs.Value.{Value, Values, Bits, Number, Truth, Parts, same_value, nothing}
use Rattle.c_values.specs.Layout.{Layout}
use Rattle.c_values.specs.Path.{Spot}
use Rattle.c_values.specs.CodeSameValue.{value_is, same_value-refl}
use Rattle.c_values.proofs.Options.{some_is}
use Rattle.expression_lang.specs.Expression.{Exp, WordLit, NumberLit, TruthLit, If, At}
use Rattle.expression_lang.specs.Evaluation.{moved_to, if_truth}
use Rattle.ac_expr.specs.Step.{constant}
use Rattle.ac_expr.specs.CodeConstants.{of_two, by_truth, by_numbers, computed, number_of, as_constant}
use Rattle.ac_expr.proofs.ConstantsSound.{right, one_inv, two_inv}
use Rattle.entailment.specs.CodeTruth.{literal_truth, literal_number, truth_of}

-- an expression's own

pub truth_there : (o : Option Value) (x : Exp) → Some x ≡ as_constant o → literal_truth x ≡ truth_of o
truth_there (Some (Bits w)) x h = ap literal_truth (some_is h)
truth_there (Some (Number n)) x h = ap literal_truth (some_is h)
truth_there (Some (Truth b)) x h = ap literal_truth (some_is h)
truth_there (Some (Parts vs)) x h = absurd cc
truth_there None x h = absurd cc

pub no_truth : (o : Option Value) → None ≡ as_constant o → None ≡ truth_of o
no_truth (Some (Truth b)) h = absurd cc
no_truth _ h = refl

pub number_there : (o : Option Value) (x : Exp) → Some x ≡ as_constant o → literal_number x ≡ number_of o
number_there (Some (Bits w)) x h = ap literal_number (some_is h)
number_there (Some (Number n)) x h = ap literal_number (some_is h)
number_there (Some (Truth b)) x h = ap literal_number (some_is h)
number_there (Some (Parts vs)) x h = absurd cc
number_there None x h = absurd cc

pub no_number : (o : Option Value) → None ≡ as_constant o → None ≡ number_of o
no_number (Some (Number n)) h = absurd cc
no_number _ h = refl

-- of an order

abbrev pub order : Option Value → Option Value → Option Bool
order o p = truth_of (of_two o p (by_numbers (λ m n. Some (Truth (int_le m n)))))

pub order_there : (o p : Option Value) (m n : ℤ) → Some m ≡ number_of o → Some n ≡ number_of p → Some (int_le m n) ≡ order o p
order_there (Some (Number a)) (Some (Number b)) m n h k = let i : m ≡ a = some_is h in let j : n ≡ b = some_is k in cc
order_there (Some (Number a)) _ m n h k = absurd cc
order_there _ _ m n h k = absurd cc

pub no_first : (o p : Option Value) → None ≡ number_of o → None ≡ order o p
no_first (Some (Number a)) p h = absurd cc
no_first (Some (Bits a)) (Some p) h = refl
no_first (Some (Truth a)) (Some p) h = refl
no_first (Some (Parts a)) (Some p) h = refl
no_first (Some (Bits a)) None h = refl
no_first (Some (Truth a)) None h = refl
no_first (Some (Parts a)) None h = refl
no_first None p h = refl

pub no_second : (o p : Option Value) → None ≡ number_of p → None ≡ order o p
no_second None p h = refl
no_second (Some v) None h = refl
no_second (Some v) (Some (Number b)) h = absurd cc
no_second (Some (Number v)) (Some (Bits b)) h = refl
no_second (Some (Number v)) (Some (Truth b)) h = refl
no_second (Some (Number v)) (Some (Parts b)) h = refl
no_second (Some (Bits v)) (Some w) h = refl
no_second (Some (Truth v)) (Some w) h = refl
no_second (Some (Parts v)) (Some w) h = refl

-- of an equation

abbrev pub equation : Option Value → Option Value → Option Bool
equation o p = truth_of (of_two o p (λ v w. Some (Truth (same_value v w))))

abbrev literal_value : Exp → Value
literal_value (WordLit w) = Bits w
literal_value (NumberLit n) = Number n
literal_value (TruthLit b) = Truth b
literal_value _ = nothing

value_back : (v : Value) (x : Exp) → Some x ≡ constant v → literal_value x ≡ v
value_back (Bits w) x h = ap literal_value (some_is h)
value_back (Number n) x h = ap literal_value (some_is h)
value_back (Truth b) x h = ap literal_value (some_is h)
value_back (Parts vs) x h = absurd cc

as_true : (s t : Bool) → (s ≡ true → t ≡ true) → (t ≡ true → s ≡ true) → s ≡ t
as_true true t h k = sym (h refl)
as_true false true h k = k refl
as_true false false h k = refl

pub equal_there : (o p : Option Value) (x y : Exp) (t : Bool) → Some x ≡ as_constant o → Some y ≡ as_constant p →
    (IsTrue t ↔ (y ≡ x)) → Some t ≡ equation o p
equal_there (Some v) (Some w) x y t h k says =
    ap (λ b. Some b)
    (as_true t (same_value v w)
    (λ e. ap (λ u. same_value v u) (sym (value_back w y k) ∙ ap literal_value (says.0 e) ∙ value_back v x h) ∙ same_value-refl v)
    (λ e. says.1 (some_is (k ∙ ap constant (sym (value_is v w e)) ∙ sym h))))
equal_there None p x y t h k says = absurd cc
equal_there (Some v) None x y t h k says = absurd cc

-- parts are never computed

not_moved : (l : Layout) (w : Word) (o : Option Spot) (vs : Values) → moved_to l w o ≡ Parts vs → ⊥
not_moved l w None vs h = cc
not_moved l w (Some q) vs h = cc

-- one of two that aren't
neither_parts : (t : Bool) (o p : Option Value) (vs : Values) → (o ≡ Some (Parts vs) → ⊥) → (p ≡ Some (Parts vs) → ⊥) →
    of_two o p (λ v w. Some (if_truth t v w)) ≡ Some (Parts vs) → ⊥
neither_parts true o p vs h k i = let m = two_inv o p (λ v w. Some v) (Parts vs) i in h (m.2 ∙ m.4)
neither_parts false o p vs h k i = let m = two_inv o p (λ v w. Some w) (Parts vs) i in k (m.3 ∙ m.4)

chosen_parts : (u : Value) (o p : Option Value) (vs : Values) → (o ≡ Some (Parts vs) → ⊥) → (p ≡ Some (Parts vs) → ⊥) →
    by_truth (λ x. of_two o p (λ v w. Some (if_truth x v w))) u ≡ Some (Parts vs) → ⊥
chosen_parts (Truth t) o p vs h k i = neither_parts t o p vs h k i
chosen_parts _ o p vs h k i = cc

not_parts : (l : Layout) (e : Exp) (vs : Values) → computed l e ≡ Some (Parts vs) → ⊥
not_parts l (If c a b) vs h =
    let i = one_inv (computed l c) (by_truth (λ x. of_two (computed l a) (computed l b) (λ v w. Some (if_truth x v w)))) (Parts vs) h in
    chosen_parts i.0 (computed l a) (computed l b) vs (not_parts l a vs) (not_parts l b vs) i.2
not_parts l (At t p path) vs h = let i = (right l (At t p path) (Parts vs) h).value in not_moved l _ _ vs i
not_parts l e vs h = let i = (right l e (Parts vs) h).value in absurd cc

no_constant : (l : Layout) (e : Exp) → None ≡ as_constant (computed l e) → computed l e ≡ None
no_constant l e h = by (computed l e) refl h
  where
    by : (o : Option Value) → computed l e ≡ o → None ≡ as_constant o → computed l e ≡ None
    by None i k = i
    by (Some (Parts vs)) i k = absurd (not_parts l e vs i)
    by (Some (Bits w)) i k = absurd cc
    by (Some (Number n)) i k = absurd cc
    by (Some (Truth b)) i k = absurd cc

pub first_unequal : (l : Layout) (a b : Exp) → None ≡ as_constant (computed l a) → None ≡ equation (computed l a) (computed l b)
first_unequal l a b h = sym (ap (λ o. equation o (computed l b)) (no_constant l a h))

pub second_unequal : (l : Layout) (a b : Exp) → None ≡ as_constant (computed l b) → None ≡ equation (computed l a) (computed l b)
second_unequal l a b h = by (computed l a) ∙ sym (ap (λ o. equation (computed l a) o) (no_constant l b h))
  where
    by : (o : Option Value) → None ≡ equation o None
    by None = refl
    by (Some v) = refl
