-- The test of values is of equality.
use Rattle.std.proofs.Common.{◌≡◌, Bool, true, false, ◌&&◌, refl, sym, ap, ap₂, ◌∙◌, eqb-true, eq-eqb}
use Rattle.std.specs.Prelude.{◌==◌}
use Rattle.std.specs.Bool.{Decides}
use Rattle.std.specs.Cmp.{IsEquivalence, signed_Decides}
use Rattle.std.proofs.lemmas.Bool.{false≢true, and_parts, and_from}
use Rattle.std.proofs.lemmas.Bool.Decides.{same_from_decides}
use Rattle.c_values.specs.Word.{Word}
use Rattle.c_values.specs.Value.{Value, Values, Bits, Number, Truth, Parts, no_values, more, same_truth, same_value, same_values}

word_is : (a b : Word) → ((a.width == b.width) && (a.bits == b.bits)) ≡ true → a ≡ b
word_is a b h =
    let p = and_parts (a.width == b.width) (a.bits == b.bits) h in
    ap₂ (λ m n. record { width = m; bits = n }) (eqb-true a.width b.width p.0) (eqb-true a.bits b.bits p.1)

truth_is : (a b : Bool) → same_truth a b ≡ true → a ≡ b
truth_is true b h = sym h
truth_is false false h = refl
truth_is false true h = absurd (false≢true h)

same_truth-refl : (a : Bool) → same_truth a a ≡ true
same_truth-refl true = refl
same_truth-refl false = refl

mutual
  pub value_is : (v w : Value) → same_value v w ≡ true → v ≡ w
  value_is (Bits a) (Bits b) h = ap Bits (word_is a b h)
  value_is (Number a) (Number b) h = ap Number ((signed_Decides a b).0 h)
  value_is (Truth a) (Truth b) h = ap Truth (truth_is a b h)
  value_is (Parts vs) (Parts ws) h = ap Parts (values_are vs ws h)
  value_is _ _ h = absurd (false≢true h)

  values_are : (vs ws : Values) → same_values vs ws ≡ true → vs ≡ ws
  values_are no_values no_values h = refl
  values_are (more v vs) (more w ws) h =
      let p = and_parts (same_value v w) (same_values vs ws) h in
      ap₂ more (value_is v w p.0) (values_are vs ws p.1)
  values_are _ _ h = absurd (false≢true h)

mutual
  pub same_value-refl : (v : Value) → same_value v v ≡ true
  same_value-refl (Bits a) = and_from (a.width == a.width) (a.bits == a.bits) (eq-eqb a.width a.width refl) (eq-eqb a.bits a.bits refl)
  same_value-refl (Number n) = (signed_Decides n n).1 refl
  same_value-refl (Truth b) = same_truth-refl b
  same_value-refl (Parts vs) = same_values-refl vs

  same_values-refl : (vs : Values) → same_values vs vs ≡ true
  same_values-refl no_values = refl
  same_values-refl (more v vs) = and_from (same_value v v) (same_values vs vs) (same_value-refl v) (same_values-refl vs)

pub same_value-Decides : (v w : Value) → Decides (same_value v w) (v ≡ w)
same_value-Decides v w = (value_is v w, λ e. ap (same_value v) (sym e) ∙ same_value-refl v)

pub same_value-equiv : IsEquivalence same_value
same_value-equiv = record {
  refl = same_value-refl;
  symm = λ v w. same_from_decides (same_value v w) (same_value w v) (same_value-Decides v w) (λ h. sym (value_is w v h), λ e. (same_value-Decides w v).1 (sym e));
  congr = λ v w x h. ap (λ u. same_value u x) (value_is v w h);
}
