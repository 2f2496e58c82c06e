-- What is shown of the place where a certificate isn't accepted.
use Rattle.std.proofs.Common.{◌≡◌, ℕ, ◌<◌, ◌^◌, List, length, slice_get, Option, Some, None, Err, sym, ap, subst, ◌∙◌, arith}
use Rattle.std.proofs.lemmas.Option.{same_Some}
use Rattle.expression_lang.specs.Signature.{Signature}
use Rattle.simpl_lang.specs.Command.{SimplFn, SimplUnit}
use Rattle.rule_trees.specs.RuleTree.{last_number}
use Rattle.acceptance.specs.Certificate.{Steps}
use Rattle.acceptance.specs.Verdict.{Place, IsFunctionVerdict}
use Rattle.acceptance.specs.UnitVerdict.{of_function, IsUnitVerdict}
use Rattle.acceptance.proofs.UnitVerdicts.{unit_verdicts_are_one}
use Rattle.refused_parts.specs.Parts.{Part, IsPartAt}
use Rattle.checking.specs.Refused.{Refused, told, names_apart, AreAtLevels, IsAnswer}
use Rattle.checking.specs.RefusedPart.{part_text}
use Rattle.checking.specs.CodeParts.{place_in, IsShownAt, IsShownOf}
use Rattle.checking.proofs.Listed.{position_there}
use Rattle.checking.proofs.Answered.{list_is, judged_answer}
use Rattle.checking.proofs.Places.{IsThere, same_place, same_at, function_there}

module _ (u : SimplUnit) (cs : List Steps) (levels : AreAtLevels u cs) (none : names_apart u cs ≡ None) (few : length cs < 2 ^ 32) (r : Refused) (answer : IsAnswer u cs (Err r)) where
  -- the refusal is of a place of this function
  pub record IsPlaced : Type 0 where
    pub place : Place
    pub verdict : IsUnitVerdict u cs (Err (of_function r.function place))
    pub below : r.function < length cs
    pub is_place : place_in r ≡ Some place
    pub there : IsThere u u.functions u.signatures cs r.function place

  pub placed : IsPlaced
  placed =
      let (at, place, verdict, same) = judged_answer u cs none (Err r) answer in
      let lt : at < length cs = position_there u cs at place (list_is u cs levels none) verdict in
      let itself : told at ≡ at = omega (arith, lt, few) in
      let e : at ≡ r.function = sym (ap (λ (q : Refused). q.function) same ∙ itself) in
      let there = function_there u at place cs (list_is u cs levels none) verdict in
      record {
        place = place;
        verdict = subst (λ n. IsUnitVerdict u cs (Err (of_function n place))) e verdict;
        below = subst (λ n. n < length cs) e lt;
        is_place = ap place_in same;
        there = subst (λ n. IsThere u u.functions u.signatures cs n place) e there;
      }

  -- every verdict is this one
  only : (o : Option (List ℕ)) → IsShownAt u cs r.function placed.place o → IsShownOf u cs o
  only o h at place v =
      let e = unit_verdicts_are_one u cs (Err (of_function r.function placed.place)) (Err (of_function at place)) placed.verdict v in
      subst (λ n. IsShownAt u cs n place o) (same_at e) (subst (λ p. IsShownAt u cs r.function p o) (same_place e) h)

  module _ (place : Place) (is : Some place ≡ place_in r) (f : SimplFn) (steps : Steps) (is_function : slice_get u.functions r.function ≡ Some f) (are_steps : slice_get cs r.function ≡ Some steps) where
    this_place : place ≡ placed.place
    this_place = same_Some place placed.place (is ∙ placed.is_place)

    this_function : placed.there.function ≡ f
    this_function = same_Some placed.there.function f (sym placed.there.is_function ∙ is_function)

    these_steps : placed.there.steps ≡ steps
    these_steps = same_Some placed.there.steps steps (sym placed.there.are_steps ∙ are_steps)

    verdict_here : IsFunctionVerdict u f placed.there.signature steps (Err place)
    verdict_here =
        subst (λ p. IsFunctionVerdict u f placed.there.signature steps (Err p)) (sym this_place)
        (subst (λ x. IsFunctionVerdict u f placed.there.signature x (Err placed.place)) these_steps
        (subst (λ g. IsFunctionVerdict u g placed.there.signature placed.there.steps (Err placed.place)) this_function placed.there.verdict))

    pub shown_some : (part : Part) (shown : List ℕ) → ((s : Signature) → IsFunctionVerdict u f s steps (Err place) → place.node < last_number → IsPartAt u f s steps place part) → shown ≡ part_text part →
        IsShownOf u cs (Some shown)
    shown_some part shown about written =
        only (Some shown)
        (subst (λ p. IsShownAt u cs r.function p (Some shown)) this_place
        (λ below. record {
          function = f;
          is_function = is_function;
          signature = placed.there.signature;
          is_signature = placed.there.is_signature;
          steps = steps;
          are_steps = are_steps;
          part = part;
          about = about placed.there.signature verdict_here below;
          written = written;
        }))

    pub shown_none : ((s : Signature) → IsFunctionVerdict u f s steps (Err place) → place.node < last_number → ⊥) → IsShownOf u cs None
    shown_none never = only None (subst (λ p. IsShownAt u cs r.function p None) this_place (λ below. never placed.there.signature verdict_here below))
