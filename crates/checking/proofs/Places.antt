-- The function at whose place a unit's certificate isn't accepted.
use Rattle.std.proofs.Common.{◌≡◌, ℕ, suc, ◌+◌, List, [], ◌∷◌, slice_get, Some, Ok, Err, inl, inr, refl, sym, subst, arith}
use Rattle.expression_lang.specs.Signature.{Signature}
use Rattle.simpl_lang.specs.Command.{SimplFn, SimplUnit}
use Rattle.acceptance.specs.Certificate.{Steps}
use Rattle.acceptance.specs.Verdict.{Place, IsFunctionVerdict}
use Rattle.acceptance.specs.UnitVerdict.{UnitAnswer, of_function, listed, AreFunctionsVerdict, AfterList, IsUnitVerdict}

-- the one at this position of each list, which is refused at the place
pub record IsThere (u : SimplUnit) (fs : List SimplFn) (ss : List Signature) (cs : List Steps) (at : ℕ) (place : Place) : Type 0 where
  pub function : SimplFn
  pub signature : Signature
  pub steps : Steps
  pub is_function : slice_get fs at ≡ Some function
  pub is_signature : slice_get ss at ≡ Some signature
  pub are_steps : slice_get cs at ≡ Some steps
  pub verdict : IsFunctionVerdict u function signature steps (Err place)

pub same_place : {p q : Place} {m n : ℕ} → ◌≡◌ {A = UnitAnswer} (Err (of_function m p)) (Err (of_function n q)) → p ≡ q
same_place e = cc

pub same_at : {p q : Place} {m n : ℕ} → ◌≡◌ {A = UnitAnswer} (Err (of_function m p)) (Err (of_function n q)) → m ≡ n
same_at e = cc

module _ (u : SimplUnit) (at : ℕ) (place : Place) where
  within : (k : ℕ) (fs : List SimplFn) (ss : List Signature) (cs : List Steps) → AreFunctionsVerdict u k fs ss cs (Err (of_function at place)) → (i : ℕ) × (at ≡ k + i) × IsThere u fs ss cs i place
  within k [] [] [] h = absurd cc
  within k (f ∷ fs) (s ∷ ss) (c ∷ cs) (inl x) =
      let e = same_at x.2 in
      let here : at ≡ k + 0 = omega arith in (
        0,
        here,
        record {
          function = f;
          signature = s;
          steps = c;
          is_function = refl;
          is_signature = refl;
          are_steps = refl;
          verdict = subst (λ p. IsFunctionVerdict u f s c (Err p)) (sym (same_place x.2)) x.1;
        },
      )
  within k (f ∷ fs) (s ∷ ss) (c ∷ cs) (inr x) =
      let w = within (k + 1) fs ss cs x.1 in
      let t = w.2 in
      let e = w.1 in
      let further : at ≡ k + (w.0 + 1) = omega arith in
      let next : suc w.0 ≡ w.0 + 1 = omega arith in (
        w.0 + 1,
        further,
        subst (λ i. IsThere u (f ∷ fs) (s ∷ ss) (c ∷ cs) i place) next (record {
          function = t.function;
          signature = t.signature;
          steps = t.steps;
          is_function = t.is_function;
          is_signature = t.is_signature;
          are_steps = t.are_steps;
          verdict = t.verdict;
        }),
      )
  within k [] [] (c ∷ cs) h = absurd h
  within k [] (s ∷ ss) cs h = absurd h
  within k (f ∷ fs) [] cs h = absurd h
  within k (f ∷ fs) (s ∷ ss) [] h = absurd h

  pub function_there : (cs : List Steps) → listed 0 u.functions cs ≡ Ok tt → IsUnitVerdict u cs (Err (of_function at place)) → IsThere u u.functions u.signatures cs at place
  function_there cs e h =
      let w = within 0 u.functions u.signatures cs (subst (λ a. AfterList a (AreFunctionsVerdict u 0 u.functions u.signatures cs) (Err (of_function at place))) e h) in
      let same : w.0 ≡ at = let f = w.1 in omega arith in
      subst (λ i. IsThere u u.functions u.signatures cs i place) same w.2
