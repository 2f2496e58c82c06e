-- Labels of a switch: a word is that of a label exactly where its number is the label, and no label comes twice.
use Rattle.std.proofs.Common.{◌≡◌, ℕ, Bool, true, false, List, [], ◌∷◌, ◌++◌, ℤ, refl, sym, ap, ap₂, ◌∙◌}
use Rattle.std.specs.Prelude.{not, ◌&&◌, ◌||◌}
use Rattle.std.specs.Ordering.{int_eq}
use Rattle.std.proofs.lemmas.Bool.{false≢true, or_parts, not-true, and_parts}
use Rattle.std.proofs.lemmas.Bool.Decides.{Decides-int_eq}
use Rattle.c_values.specs.Types.{Target, IntType, width_of}
use Rattle.c_values.specs.Number.{is_of_type}
use Rattle.c_values.specs.Word.{word}
use Rattle.c_values.specs.Value as V
use Rattle.c_values.specs.Path.{IsBits}
use Rattle.c_values.specs.Layout.{Layout}
use Rattle.expression_lang.specs.Machine.{Machine}
use Rattle.simpl_lang.specs.Exec.{holds_on}
use Rattle.c_lang.specs.Typed as C
use Rattle.c_lang.specs.Labels.{is_label, has_label}
use Rattle.c_lang.specs.WellTyped.{all_labels, are_values, are_different}
use Rattle.c_meaning.specs.CValue.{number_at}
use Rattle.generation.specs.Generate.{is_one_of, switch_local}
use Rattle.generation.proofs.ExactNumbers.{label_exact}

module _ (t : Target) (i : IntType) where
  last_label : (b : Bool) → b ≡ (b || false)
  last_label true = refl
  last_label false = refl

  -- the operand is one of the labels
  module _ (l : Layout) (n : Machine) (s : ℕ) (v : V.Value) (is : n.locals (switch_local s) ≡ v) (h : IsBits (width_of t i) v) where
    pub labels_tested : (ks : List ℤ) → are_values t i ks ≡ true → holds_on l n (is_one_of t i s ks) ≡ is_label (number_at i v) ks
    labels_tested [] r = refl
    labels_tested (k ∷ []) r =
        let p = and_parts (is_of_type t i k) true r in
        ap (λ z. V.same_value z (V.Bits (word (width_of t i) k))) is ∙ label_exact t i v k h p.0 ∙ last_label (int_eq (number_at i v) k)
    labels_tested (k ∷ j ∷ ks) r =
        let p = and_parts (is_of_type t i k) (are_values t i (j ∷ ks)) r in
        ap₂ (λ a b. a || b) (ap (λ z. V.same_value z (V.Bits (word (width_of t i) k))) is ∙ label_exact t i v k h p.0) (labels_tested (j ∷ ks) p.1)

  pub values_apart : (ks js : List ℤ) → are_values t i (ks ++ js) ≡ true → (are_values t i ks ≡ true) × (are_values t i js ≡ true)
  values_apart [] js h = (refl, h)
  values_apart (k ∷ ks) js h =
      let p = and_parts (is_of_type t i k) (are_values t i (ks ++ js)) h in
      let q = values_apart ks js p.1 in
      (ap₂ (λ a b. a && b) p.0 q.0, q.1)

or_apart : (a b c : Bool) → (a || (b || c)) ≡ ((a || b) || c)
or_apart true b c = refl
or_apart false b c = refl

pub label_apart : (n : ℤ) (ks js : List ℤ) → is_label n (ks ++ js) ≡ (is_label n ks || is_label n js)
label_apart n [] js = refl
label_apart n (k ∷ ks) js = ap (λ b. int_eq n k || b) (label_apart n ks js) ∙ or_apart (int_eq n k) (is_label n ks) (is_label n js)

pub label_in_groups : (n : ℤ) (gs : C.Groups) → has_label n gs ≡ is_label n (all_labels gs)
label_in_groups n C.no_groups = refl
label_in_groups n (C.group ks d ss gs) = ap (λ b. is_label n ks || b) (label_in_groups n gs) ∙ sym (label_apart n ks (all_labels gs))

-- A label comes in one group alone.
pub different_apart : (n : ℤ) (ks js : List ℤ) → are_different (ks ++ js) ≡ true → (are_different js ≡ true) × (is_label n ks ≡ true → is_label n js ≡ false)
different_apart n [] js h = (h, λ e. absurd (false≢true e))
different_apart n (k ∷ ks) js h =
    let p = and_parts (not (is_label k (ks ++ js))) (are_different (ks ++ js)) h in
    let q = different_apart n ks js p.1 in
    (q.0, λ e. in_first (int_eq n k) refl e q.1 (not-true (is_label k (ks ++ js)) p.0))
  where
    in_first : (b : Bool) → int_eq n k ≡ b → (b || is_label n ks) ≡ true → (is_label n ks ≡ true → is_label n js ≡ false) → is_label k (ks ++ js) ≡ false → is_label n js ≡ false
    in_first true c e r z = ap (λ y. is_label y js) ((Decides-int_eq n k).0 c) ∙ (or_parts (is_label k ks) (is_label k js) (sym (label_apart k ks js) ∙ z)).1
    in_first false c e r z = r e
