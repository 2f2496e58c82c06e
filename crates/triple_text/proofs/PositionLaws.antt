-- A number that isn't negative is read as a natural one.
use Rattle.std.proofs.Common.{◌≡◌, ℕ, ◌^◌, Bool, true, List, Option, Some, None, Ok, Err, refl, ap, sym, ◌∙◌, arith}
use Rattle.std.specs.Prelude.{ℤ, pos, int_lt}
use Rattle.std.proofs.lemmas.Bool.{ltb-true, lt-ltb}
use Rattle.ac_sx.specs.Tree.{Tree, Atom, Node}
use Rattle.expression_text.specs.declared.fault.TextFault.{TextFault}
use Rattle.expression_text.specs.declared.fault.TextFault.TheVariants as F
use Rattle.expression_text.specs.CodeFault.{Fails}
use Rattle.expression_text.specs.Reading.{Read, next}
use Rattle.expression_text.specs.Numbers.{natural_in, number_in, number_from, number_at, below, natural_at}
use Rattle.expression_text.proofs.NumbersRead.{natural_is}
use Rattle.expression_text.proofs.LeavesText.{number_text_is}

natural_number : (w : List ℕ) (m : ℕ) → natural_in w ≡ Some m → number_in w ≡ Some (pos m)
natural_number w m e =
    let is = natural_is w m e in
    ap number_in is.0 ∙ (number_text_is (pos m) (lt-ltb m (2 ^ 128) is.1)).2

no_number : (bound at : ℕ) (w : List ℕ) (n : ℕ) (o : Option ℕ) → natural_in w ≡ o → number_from at (number_in w) ≡ Err n → below bound at o ≡ Err n
no_number bound at w n (Some m) e f = absurd (let h = sym (ap (number_from at) (natural_number w m e)) ∙ f in cc)
no_number bound at w n None e f = from (number_in w) f
  where
    from : (o : Option ℤ) → number_from at o ≡ Err n → below bound at None ≡ Err n
    from (Some z) g = absurd cc
    from None g = let h : at ≡ n = cc in ap (λ k. Err k) h

-- what is no number is no position
pub number_refused : (fault : TextFault) (at : ℕ) (t : Tree) → Fails fault (number_at at t) → Fails fault (natural_at (2 ^ 128) at t)
number_refused (F.Shape n) at (Atom w) bad = no_number (2 ^ 128) at w n (natural_in w) refl bad
number_refused (F.Shape n) at (Node ts) bad = let h : at ≡ n = cc in ap (λ k. Err k) h
number_refused F.Memory at t bad = tt
number_refused F.NotText at t bad = absurd bad
number_refused F.Deep at t bad = absurd bad

not_below : (m : ℕ) (z : ℤ) (b : Bool) → pos m ≡ z → b ≡ int_lt z (pos 0) → b ≡ true → ⊥
not_below m z b same e f = let h : int_lt (pos m) (pos 0) ≡ true = ap (λ y. int_lt y (pos 0)) same ∙ sym e ∙ f in let lt = ltb-true m 0 h in omega arith

-- nor is one below zero
pub negative_refused : (at : ℕ) (t : Tree) (z : ℤ) (n : ℕ) (b : Bool) → number_at at t ≡ Ok (z, n) → b ≡ int_lt z (pos 0) → b ≡ true → natural_at (2 ^ 128) at t ≡ Err at
negative_refused at (Node ts) z n b read e f = refl
negative_refused at (Atom w) z n b read e f = from (natural_in w) refl
  where
    from : (o : Option ℕ) → natural_in w ≡ o → below (2 ^ 128) at o ≡ Err at
    from None g = refl
    from (Some m) g = absurd (not_below m z b (same (sym (ap (number_from at) (natural_number w m g)) ∙ read)) e f)
      where
        same : ◌≡◌ {A = Read ℤ} (Ok (pos m, next at)) (Ok (z, n)) → pos m ≡ z
        same h = let k : ◌≡◌ {A = ℤ × ℕ} (pos m, next at) (z, n) = cc in ap (λ (p : ℤ × ℕ). p.0) k
