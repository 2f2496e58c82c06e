-- Answers, by whether names differ, and what they decide.
use Rattle.std.proofs.Common.{◌≡◌, ℕ, List, [], ◌∷◌, length, Option, Some, None, Ok, Err, refl, sym, ap, ap₂, subst, ◌∙◌}
use Rattle.std.proofs.lemmas.List.{length-map}
use Rattle.c_values.specs.Name.{Name}
use Rattle.expression_lang.specs.Signature.{Signature}
use Rattle.simpl_lang.specs.Command.{SimplFn, SimplUnit}
use Rattle.acceptance.specs.Certificate.{Steps}
use Rattle.acceptance.specs.Accepted.{AreFunctionsAccepted, IsAccepted}
use Rattle.acceptance.specs.UnitVerdict.{of_list, of_function, listed, IsUnitVerdict}
use Rattle.acceptance.proofs.UnitVerdicts.{unit_verdicts_decide}
use Rattle.checking.specs.Checked.{names_in, listed_apart}
use Rattle.checking.specs.Refused.{Answer, at_names, generated_names, names_apart, AreAtLevels, IsJudged, AfterNames, IsAnswer, Decides}
use Rattle.checking.proofs.Listed.{names_agree, none_apart, alike_listed, no_list}

accepted_names : (u : SimplUnit) (fs : List SimplFn) (ss : List Signature) (cs : List Steps) → AreFunctionsAccepted u fs ss cs →
    generated_names fs ≡ names_in cs
accepted_names u [] [] [] h = refl
accepted_names u (f ∷ fs) (s ∷ ss) (c ∷ cs) h = ap₂ (λ x xs. x ∷ xs) (sym h.0.name) (accepted_names u fs ss cs h.1)
accepted_names u [] [] (c ∷ cs) h = absurd h
accepted_names u [] (s ∷ ss) cs h = absurd h
accepted_names u (f ∷ fs) [] cs h = absurd h
accepted_names u (f ∷ fs) (s ∷ ss) [] h = absurd h

none_some : {A P : Type 0} (o : Option A) (a : A) → o ≡ None → o ≡ Some a → P
none_some o a h k = absurd cc

module _ (u : SimplUnit) (cs : List Steps) where
  -- the unit's list is the certificate's
  pub list_is : AreAtLevels u cs → names_apart u cs ≡ None → listed 0 u.functions cs ≡ Ok tt
  list_is levels none = alike_listed 0 u.functions cs (names_agree 0 (generated_names u.functions) (names_in cs) none) (levels none)

  pub as_many : names_apart u cs ≡ None → length u.functions ≡ length cs
  as_many none =
      sym (length-map u.functions (λ (f : SimplFn). f.name)) ∙ ap length (names_agree 0 (generated_names u.functions) (names_in cs) none)
      ∙ length-map cs (λ (c : Steps). c.name)

  pub not_of_list : AreAtLevels u cs → names_apart u cs ≡ None → (at : ℕ) → IsUnitVerdict u cs (Err (of_list at)) → ⊥
  not_of_list levels none at h = no_list u cs at (list_is levels none) h

  pub answer_apart : (at : ℕ) (name : Name) → names_apart u cs ≡ Some (at, name) → (r : Answer) → r ≡ Err (at_names at) → IsAnswer u cs r
  answer_apart at name e r h = subst (λ (o : Option (ℕ × Name)). AfterNames u cs o r) (sym e) h

  pub answer_judged : names_apart u cs ≡ None → (r : Answer) → IsJudged u cs r → IsAnswer u cs r
  answer_judged e r h = subst (λ (o : Option (ℕ × Name)). AfterNames u cs o r) (sym e) h

  pub judged_answer : names_apart u cs ≡ None → (r : Answer) → IsAnswer u cs r → IsJudged u cs r
  judged_answer e r h = subst (λ (o : Option (ℕ × Name)). AfterNames u cs o r) e h

  judged_decides : (r : Answer) → IsJudged u cs r → Decides u cs r
  judged_decides (Ok done) h = unit_verdicts_decide u cs (Ok done) h
  judged_decides (Err refused) h = unit_verdicts_decide u cs (Err (of_function h.0 h.1)) h.2

  accepted_none : IsAccepted u cs → names_apart u cs ≡ None
  accepted_none h =
      ap (λ (xs : List Name). listed_apart 0 xs (names_in cs)) (accepted_names u u.functions u.signatures cs h) ∙ none_apart 0 (names_in cs)

  pub answers_decide : (r : Answer) → IsAnswer u cs r → Decides u cs r
  answers_decide r h = by (names_apart u cs) refl h
    where
      by : (o : Option (ℕ × Name)) → names_apart u cs ≡ o → AfterNames u cs o r → Decides u cs r
      by None e k = judged_decides r k
      by (Some p) e k = subst (Decides u cs) (sym k) (λ accepted. none_some (names_apart u cs) p (accepted_none accepted) e)
