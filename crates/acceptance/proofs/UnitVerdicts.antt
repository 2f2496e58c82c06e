-- A verdict on a unit's certificate decides whether it is accepted, and there is one.
use Rattle.std.proofs.Common.{◌≡◌, ℕ, ◌+◌, Bool, true, false, cond, List, [], ◌∷◌, inl, inr, Result, Ok, Err, refl, sym, subst, ap, ◌∙◌}
use Rattle.std.proofs.lemmas.Bool.{and_parts, and_from, cond-true}
use Rattle.c_values.specs.Name.{same_name}
use Rattle.c_values.proofs.Laid.{name_is, same_name-refl}
use Rattle.expression_lang.specs.Signature.{Signature}
use Rattle.simpl_lang.specs.Command.{SimplFn, SimplUnit}
use Rattle.simpl_lang.specs.Sorted.{same_level}
use Rattle.simpl_lang.proofs.SameKinds.{level_is, same_level-refl}
use Rattle.acceptance.specs.Certificate.{Steps}
use Rattle.acceptance.specs.Accepted.{IsFunctionAccepted, AreFunctionsAccepted}
use Rattle.acceptance.specs.Verdict.{Place, Answer}
use Rattle.acceptance.specs.UnitVerdict.{of_list, of_function, UnitAnswer, is_listed, listed, AreFunctionsVerdict, AfterList, IsUnitVerdict, DecidesFunctions, DecidesUnit}
use Rattle.acceptance.proofs.Verdicts.{verdicts_decide, verdicts_are_one, accepted_by_steps, accepted_steps, ok_err}

listed_is : (f : SimplFn) (c : Steps) → is_listed f c ≡ true → (c.name ≡ f.name) × (c.level ≡ f.level)
listed_is f c h =
    let p = and_parts (same_name f.name c.name) (same_level f.level c.level) h in
    (sym (name_is f.name c.name p.0), sym (level_is f.level c.level p.1))

pub listed_parts : (at : ℕ) (f : SimplFn) (fs : List SimplFn) (c : Steps) (cs : List Steps) → listed at (f ∷ fs) (c ∷ cs) ≡ Ok tt →
    (is_listed f c ≡ true) × (listed (at + 1) fs cs ≡ Ok tt)
listed_parts at f fs c cs h = by_test (is_listed f c) refl h
  where
    by_test : (b : Bool) → is_listed f c ≡ b → cond b (listed (at + 1) fs cs) (Err at) ≡ Ok tt →
        (is_listed f c ≡ true) × (listed (at + 1) fs cs ≡ Ok tt)
    by_test true e k = (e, k)
    by_test false e k = ok_err (sym k)

module _ (u : SimplUnit) where
  accepted_is_listed : (f : SimplFn) (s : Signature) (c : Steps) → IsFunctionAccepted u f s c → is_listed f c ≡ true
  accepted_is_listed f s c h =
      and_from (same_name f.name c.name) (same_level f.level c.level)
      (subst (λ x. same_name f.name x ≡ true) (sym h.name) (same_name-refl f.name))
      (subst (λ l. same_level f.level l ≡ true) (sym h.level) (same_level-refl f.level))

  accepted_are_listed : (at : ℕ) (fs : List SimplFn) (ss : List Signature) (cs : List Steps) →
      AreFunctionsAccepted u fs ss cs → listed at fs cs ≡ Ok tt
  accepted_are_listed at [] [] [] h = refl
  accepted_are_listed at (f ∷ fs) (s ∷ ss) (c ∷ cs) h =
      cond-true (is_listed f c) (listed (at + 1) fs cs) (Err at) (accepted_is_listed f s c h.0)
      ∙ accepted_are_listed (at + 1) fs ss cs h.1
  accepted_are_listed at [] [] (c ∷ cs) h = absurd h
  accepted_are_listed at [] (s ∷ ss) cs h = absurd h
  accepted_are_listed at (f ∷ fs) [] cs h = absurd h
  accepted_are_listed at (f ∷ fs) (s ∷ ss) [] h = absurd h

  functions_decide : (at : ℕ) (fs : List SimplFn) (ss : List Signature) (cs : List Steps) → listed at fs cs ≡ Ok tt →
      (r : UnitAnswer) → AreFunctionsVerdict u at fs ss cs r → DecidesFunctions u fs ss cs r
  functions_decide at [] [] [] e (Ok done) h = tt
  functions_decide at [] [] [] e (Err q) h = ok_err (sym h)
  functions_decide at (f ∷ fs) (s ∷ ss) (c ∷ cs) e (Ok done) (inl x) = ok_err x.2
  functions_decide at (f ∷ fs) (s ∷ ss) (c ∷ cs) e (Ok done) (inr x) =
      let p = listed_parts at f fs c cs e in
      let q = listed_is f c p.0 in (
        accepted_by_steps u f s c q.0 q.1 (verdicts_decide u f s c (Ok tt) x.0),
        functions_decide (at + 1) fs ss cs p.1 (Ok done) x.1,
      )
  functions_decide at (f ∷ fs) (s ∷ ss) (c ∷ cs) e (Err q) (inl x) =
      λ k. verdicts_decide u f s c (Err x.0) x.1 (accepted_steps u f s c k.0)
  functions_decide at (f ∷ fs) (s ∷ ss) (c ∷ cs) e (Err q) (inr x) =
      λ k. functions_decide (at + 1) fs ss cs (listed_parts at f fs c cs e).1 (Err q) x.1 k.1
  functions_decide at [] [] (c ∷ cs) e r h = absurd h
  functions_decide at [] (s ∷ ss) cs e r h = absurd h
  functions_decide at (f ∷ fs) [] cs e r h = absurd h
  functions_decide at (f ∷ fs) (s ∷ ss) [] e r h = absurd h

  pub unit_verdicts_decide : (cs : List Steps) (r : UnitAnswer) → IsUnitVerdict u cs r → DecidesUnit u cs r
  unit_verdicts_decide cs r h = by_list (listed 0 u.functions cs) refl r h
    where
      by_list : (l : Answer) → listed 0 u.functions cs ≡ l → (r : UnitAnswer) →
          AfterList l (AreFunctionsVerdict u 0 u.functions u.signatures cs) r → DecidesUnit u cs r
      by_list (Ok done) e (Ok all) h = functions_decide 0 u.functions u.signatures cs e (Ok all) h
      by_list (Ok done) e (Err q) h = functions_decide 0 u.functions u.signatures cs e (Err q) h
      by_list (Err n) e (Ok all) h = ok_err h
      by_list (Err n) e (Err q) h = λ k. ok_err (sym (accepted_are_listed 0 u.functions u.signatures cs k) ∙ e)

  err_is : {p q : Place} → ◌≡◌ {A = Result (Unit {0}) Place} (Err p) (Err q) → p ≡ q
  err_is h = cc

  functions_are_one : (at : ℕ) (fs : List SimplFn) (ss : List Signature) (cs : List Steps) (r r' : UnitAnswer) →
      AreFunctionsVerdict u at fs ss cs r → AreFunctionsVerdict u at fs ss cs r' → r ≡ r'
  functions_are_one at [] [] [] r r' h k = h ∙ sym k
  functions_are_one at (f ∷ fs) (s ∷ ss) (c ∷ cs) r r' (inl x) (inl y) =
      x.2 ∙ ap (λ p. Err (of_function at p)) (err_is (verdicts_are_one u f s c (Err x.0) (Err y.0) x.1 y.1)) ∙ sym y.2
  functions_are_one at (f ∷ fs) (s ∷ ss) (c ∷ cs) r r' (inl x) (inr y) =
      ok_err (verdicts_are_one u f s c (Ok tt) (Err x.0) y.0 x.1)
  functions_are_one at (f ∷ fs) (s ∷ ss) (c ∷ cs) r r' (inr x) (inl y) =
      ok_err (verdicts_are_one u f s c (Ok tt) (Err y.0) x.0 y.1)
  functions_are_one at (f ∷ fs) (s ∷ ss) (c ∷ cs) r r' (inr x) (inr y) = functions_are_one (at + 1) fs ss cs r r' x.1 y.1
  functions_are_one at [] [] (c ∷ cs) r r' h k = absurd h
  functions_are_one at [] (s ∷ ss) cs r r' h k = absurd h
  functions_are_one at (f ∷ fs) [] cs r r' h k = absurd h
  functions_are_one at (f ∷ fs) (s ∷ ss) [] r r' h k = absurd h

  pub unit_verdicts_are_one : (cs : List Steps) (r r' : UnitAnswer) → IsUnitVerdict u cs r → IsUnitVerdict u cs r' → r ≡ r'
  unit_verdicts_are_one cs r r' h k = by_list (listed 0 u.functions cs) h k
    where
      by_list : (l : Answer) → AfterList l (AreFunctionsVerdict u 0 u.functions u.signatures cs) r →
          AfterList l (AreFunctionsVerdict u 0 u.functions u.signatures cs) r' → r ≡ r'
      by_list (Ok done) h k = functions_are_one 0 u.functions u.signatures cs r r' h k
      by_list (Err n) h k = h ∙ sym k

  -- a verdict from the parts that a checker finds
  pub unlisted : (cs : List Steps) (n : ℕ) → listed 0 u.functions cs ≡ Err n → IsUnitVerdict u cs (Err (of_list n))
  unlisted cs n e =
      subst (λ l. AfterList l (AreFunctionsVerdict u 0 u.functions u.signatures cs) (Err (of_list n))) (sym e) refl

  pub behind_list : (cs : List Steps) (r : UnitAnswer) → listed 0 u.functions cs ≡ Ok tt →
      AreFunctionsVerdict u 0 u.functions u.signatures cs r → IsUnitVerdict u cs r
  behind_list cs r e h =
      subst (λ l. AfterList l (AreFunctionsVerdict u 0 u.functions u.signatures cs) r) (sym e) h
