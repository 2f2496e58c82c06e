-- The labels of a switch: values of its type, all different, and one `default` at most.
use Rattle.std.proofs.Common.{◌≡◌, Bool, true, false, ◌||◌, List, [], ◌∷◌, ◌++◌, ℤ, int_eq, ◌⊎◌, inl, inr, refl, sym, ap, ◌∙◌, subst, append_assoc, append-nil}
use Rattle.std.proofs.lemmas.Bool.{true≢false, or_left, or_right, or_from, or_cases, not_from_false}
use Rattle.std.proofs.lemmas.Bool.Decides.{Decides-int_eq}
use Rattle.std.specs.List.{list_any}
use Rattle.c_values.specs.Types.{Target, IntType, Integer}
use Rattle.c_values.specs.Number.{is_of_type}
use Rattle.c_grammar.specs.Tree as tree
use Rattle.c_lang.specs.Labels.{is_label}
use Rattle.c_lang.specs.WellTyped.{are_values, are_different}
use Rattle.c_lang.specs.WellTyped as W
use Rattle.typing_rules.specs.Scope.{Scope}
use Rattle.typing_rules.specs.Constant.{number_at}
use Rattle.typing_rules.specs.Operand.{ForValue}
use Rattle.typing_rules.specs.Expressions.{first, operand, integer_constant}
use Rattle.typing_rules.specs.Statements.{Labels, no_labels, both, case_label, default_label, label, labels}
use Rattle.typing_laws.specs.Written.{Each, IsLabel}
use Rattle.typing_laws.proofs.Tests as tests
use Rattle.typing_laws.proofs.Rulings.{Rules, ruled, refused_or}
use Rattle.typing_laws.proofs.Integers.{converted_fits}
use Rattle.typing_laws.proofs.Scopes.{Variables}
use Rattle.typing_laws.proofs.Later.{IsWithin, within_before}
use Rattle.typing_laws.proofs.Steps.{Judges, reach_then, reach_pure, reach_rule}
use Rattle.typing_laws.proofs.Operands.{operand_typed, reach_integer}

number_is : (m n : ℤ) → int_eq m n ≡ true → m ≡ n
number_is m n h = (Decides-int_eq m n).0 h

label_any : (n : ℤ) (ks : List ℤ) → list_any (int_eq n) ks ≡ is_label n ks
label_any n [] = refl
label_any n (k ∷ ks) = ap (λ b. int_eq n k || b) (label_any n ks)

-- each is new behind those before it
abbrev pub AreNew : List ℤ → List ℤ → Type 0
AreNew seen [] = Unit {0}
AreNew seen (n ∷ ns) = (is_label n seen ≡ false) × AreNew (seen ++ (n ∷ [])) ns

pub new_append : (seen ns ms : List ℤ) → AreNew seen ns → AreNew (seen ++ ns) ms → AreNew seen (ns ++ ms)
new_append seen [] ms h k = subst (λ s. AreNew s ms) (append-nil seen) k
new_append seen (n ∷ ns) ms h k = (h.0, new_append (seen ++ (n ∷ [])) ns ms h.1 (subst (λ s. AreNew s ms) (sym (append_assoc seen (n ∷ []) ns)) k))

label_append : (n : ℤ) (ks : List ℤ) (m : ℤ) → is_label n ks ≡ true → is_label n (ks ++ (m ∷ [])) ≡ true
label_append n [] m h = absurd (true≢false (sym h))
label_append n (k ∷ ks) m h = by_cases (or_cases (int_eq n k) (is_label n ks) h) (label_append n ks m)
  where
    by_cases : (int_eq n k ≡ true) ⊎ (is_label n ks ≡ true) → (is_label n ks ≡ true → is_label n (ks ++ (m ∷ [])) ≡ true) → (int_eq n k || is_label n (ks ++ (m ∷ []))) ≡ true
    by_cases (inl c) r = or_left (int_eq n k) (is_label n (ks ++ (m ∷ []))) c
    by_cases (inr c) r = or_right (int_eq n k) (is_label n (ks ++ (m ∷ []))) (r c)

label_last : (n : ℤ) (ks : List ℤ) → int_eq n n ≡ true → is_label n (ks ++ (n ∷ [])) ≡ true
label_last n [] h = or_left (int_eq n n) false h
label_last n (k ∷ ks) h = or_right (int_eq n k) (is_label n (ks ++ (n ∷ []))) (label_last n ks h)

number_itself : (n : ℤ) → int_eq n n ≡ true
number_itself n = (Decides-int_eq n n).1 refl

-- what was seen isn't among new ones
seen_apart : (seen ns : List ℤ) (n : ℤ) → is_label n seen ≡ true → AreNew seen ns → is_label n ns ≡ false
seen_apart seen [] n h k = refl
seen_apart seen (m ∷ ms) n h k = by_cases (int_eq n m) refl (seen_apart (seen ++ (m ∷ [])) ms n (label_append n seen m h) k.1)
  where
    by_cases : (b : Bool) → int_eq n m ≡ b → is_label n ms ≡ false → (b || is_label n ms) ≡ false
    by_cases true e r = absurd (true≢false (sym h ∙ ap (λ z. is_label z seen) (number_is n m e) ∙ k.0))
    by_cases false e r = r

pub new_different : (seen ns : List ℤ) → AreNew seen ns → are_different ns ≡ true
new_different seen [] h = refl
new_different seen (n ∷ ns) h =
    tests.both (not_from_false (is_label n ns) (seen_apart (seen ++ (n ∷ [])) ns n (label_last n seen (number_itself n)) h.1)) (new_different (seen ++ (n ∷ [])) ns h.1)

pub values_append : (t : Target) (i : IntType) (ns ms : List ℤ) → are_values t i ns ≡ true → are_values t i ms ≡ true → are_values t i (ns ++ ms) ≡ true
values_append t i [] ms h k = k
values_append t i (n ∷ ns) ms h k = tests.both (tests.left (is_of_type t i n) (are_values t i ns) h) (values_append t i ns ms (tests.right (is_of_type t i n) (are_values t i ns) h) k)

-- labels behind others
pub record IsLabels (i : IntType) (seen : Labels) (g : W.Scope) (a : Labels) : Type 0 where
  pub values : are_values g.layout.target i a.values ≡ true
  pub new : AreNew seen.values a.values
  pub default : seen.has_default ≡ true → a.has_default ≡ false

case_typed : (V : Variables) (i : IntType) (seen : Labels) (s : Scope) (g : W.Scope) (n : ℤ) → IsWithin V s g → Rules (IsLabels i seen g) (case_label seen (number_at s.layout (Integer i) n))
case_typed V i seen s g n w =
    let k = number_at s.layout (Integer i) n in
    refused_or (list_any (int_eq k) seen.values) _ _ (λ e. ruled (record {
      values = tests.both (subst (λ t. is_of_type t i k ≡ true) (sym w.grown.target) (converted_fits s.layout i n)) refl;
      new = (sym (label_any k seen.values) ∙ e, tt);
      default = λ d. refl;
    }))

default_typed : (i : IntType) (seen : Labels) (g : W.Scope) → Rules (IsLabels i seen g) (default_label seen)
default_typed i seen g = refused_or seen.has_default _ _ (λ e. ruled (record { values = refl; new = tt; default = λ d. absurd (true≢false (sym d ∙ e)) }))

module _ (V : Variables) where
  label_reached : (i : IntType) (seen : Labels) (l : tree.Label) → IsLabel l → Judges V (IsLabels i seen) (label i seen l)
  label_reached i seen (tree.Case at e) c s h =
      reach_then (integer_constant e s) _ (reach_integer (first e) s (operand ForValue e) (operand_typed V ForValue e c s h)) (λ n t k.
      reach_rule at t _ k.fits (λ g w. case_typed V i seen t g n w))
  label_reached i seen (tree.Default at) c s h = reach_rule at s _ h (λ g w. default_typed i seen g)

  both_labels : (i : IntType) (seen a b : Labels) (g : W.Scope) → IsLabels i seen g a → IsLabels i (both seen a) g b → IsLabels i seen g (both a b)
  both_labels i seen a b g h k = record {
    values = values_append g.layout.target i a.values b.values h.values k.values;
    new = new_append seen.values a.values b.values h.new k.new;
    default = λ d. or_from a.has_default b.has_default (h.default d) (k.default (or_left seen.has_default a.has_default d));
  }

  pub labels_reached : (i : IntType) (seen : Labels) (ls : List tree.Label) → Each IsLabel ls → Judges V (IsLabels i seen) (labels i seen ls)
  labels_reached i seen [] c s h = reach_pure s no_labels h (λ g w. record { values = refl; new = tt; default = λ d. refl })
  labels_reached i seen (l ∷ ls) c s h =
      reach_then (label i seen l s) _ (label_reached i seen l c.0 s h) (λ a t k.
      reach_then (labels i (both seen a) ls t) _ (labels_reached i (both seen a) ls c.1 t k.fits) (λ b u m.
      reach_pure u (both a b) m.fits (λ g w. both_labels i seen a b g (k.typed g (within_before m.later w)) (m.typed g w))))
