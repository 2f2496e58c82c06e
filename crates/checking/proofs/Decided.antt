-- The verdict on a certificate, by what is answered of it for what is generated.
use Rattle.std.proofs.Common.{◌≡◌, ℕ, ◌<◌, ◌^◌, List, [], length, map, Some, None, inl, inr, refl, sym, ap, subst, ◌∙◌, arith}
use Rattle.std.specs.Prelude.{slice_get, slice_index_or, Ok, Err, codes}
use Rattle.std.proofs.lemmas.List.{length-map}
use Rattle.std.proofs.lemmas.Option.{slice_get-get_or}
use Rattle.c_values.specs.Name.{Name}
use Rattle.expression_lang.specs.CodeExpression.{level_of}
use Rattle.simpl_lang.specs.Command.{SimplUnit}
use Rattle.simpl_lang.specs.Sorted.{IsWellFormed}
use Rattle.c_lang.specs.Typed.{TypedUnit, TypedFn}
use Rattle.c_lang.specs.WellTyped.{IsWellTyped}
use Rattle.c_levels.specs.declared.modes.Modes.{Modes}
use Rattle.c_levels.specs.CodeModes.{levels_in, AreLevels}
use Rattle.generation.specs.Generate.{generated}
use Rattle.generation.proofs.WellFormedUnits.{generated_is_well_formed}
use Rattle.acceptance.specs.Certificate.{Steps}
use Rattle.acceptance.specs.Accepted.{IsAccepted}
use Rattle.acceptance.specs.UnitVerdict.{IsUnitVerdict}
use Rattle.acceptance.proofs.UnitVerdicts.{unit_verdicts_decide}
use Rattle.pipeline.proofs.AcceptedExact.{accepted_is_exact}
use Rattle.pipeline.proofs.AcceptedSteady.{accepted_is_steady}
use Rattle.unit_translation.proofs.LevelsThere.{levels_there}
use Rattle.unit_translation.proofs.Formed.{last_formed, last_programs, last_forms}
use Rattle.answers.specs.declared.status.Status.{Status}
use Rattle.answers.specs.declared.status.Status.TheVariants.{No}
use Rattle.checking.specs.Lines.{accepted_lines, refusal_line}
use Rattle.checking.specs.Checked.{names_in, function_names, level_in, apart, listed_apart, Accepts, IsVerdict}
use Rattle.checking.specs.Refused.{Refused, told, refused_text, at_place, names_apart, AreAtLevels, IsAnswer}
use Rattle.checking.specs.Levels.{levels_listed}
use Rattle.checking.proofs.Listed.{names_agree, levels_agree, names_generated, levels_generated, position_there}
use Rattle.checking.proofs.Answered.{list_is, judged_answer}

module _ (u : TypedUnit) (cs : List Steps) where
  pub differs : (at : ℕ) (name : Name) (status : Status) (lines : List ℕ) → apart u cs ≡ Some (at, name) →
      (status ≡ No) × (lines ≡ refusal_line name (codes "list") at) → IsVerdict u cs status lines
  differs at name status lines e h =
      subst (λ s. IsVerdict u cs s lines) (sym h.0) (inl (record { at = at; name = name; differs = e; written = h.1 }))

  module _ (listed : apart u cs ≡ None) where
    agree : function_names u.functions ≡ names_in cs
    agree = names_agree 0 (function_names u.functions) (names_in cs) listed

    pub lengths : length cs ≡ length u.functions
    lengths =
        let a = length-map cs (λ (c : Steps). c.name) in
        let b = length-map u.functions (λ (f : TypedFn). f.name) in
        let e = ap length agree in
        omega (arith, a, b, e)

    -- the code's levels
    pub long_enough : (m : Modes) → levels_in m ≡ levels_listed cs → length m.levels.items ≡ length u.functions
    long_enough m told =
        let a = length-map m.levels.items level_of in
        let b = length-map cs (λ (c : Steps). c.level) in
        let e = ap length told in
        omega (arith, a, b, e, lengths)

    module _ (typed : IsWellTyped u) where
      are_levels : map (λ (f : TypedFn). level_in cs f.name) u.functions ≡ levels_listed cs
      are_levels =
          let k = length-map cs (λ (c : Steps). c.level) in
          levels_agree u.functions cs (levels_listed cs) agree refl
          (levels_there u.functions (levels_listed cs) typed.names (omega (arith, k, lengths)))

      pub levels_are : (m : Modes) → levels_in m ≡ levels_listed cs → AreLevels u m (level_in cs)
      levels_are m told = are_levels ∙ sym told

      pub accepts : (lines : List ℕ) → IsAccepted (generated u (level_in cs)) cs → lines ≡ accepted_lines (level_in cs) u.functions → Accepts u cs lines
      accepts lines accepted e = record {
        listed = listed;
        accepted = accepted;
        of_unit = last_programs u (level_in cs) cs typed accepted;
        exact = accepted_is_exact u typed (level_in cs) cs accepted;
        well_formed = last_formed u (level_in cs) cs typed accepted;
        formed = last_forms u (level_in cs) cs typed accepted;
        steady = accepted_is_steady u typed (level_in cs) cs accepted;
        written = e;
      }

      module _ (g : SimplUnit) (is : g ≡ generated u (level_in cs)) where
        pub well_formed : IsWellFormed g
        well_formed = subst IsWellFormed (sym is) (generated_is_well_formed u typed (level_in cs))

        pub at_levels : AreAtLevels g cs
        at_levels = subst (λ (v : SimplUnit). AreAtLevels v cs) (sym is) (λ none. levels_generated u (level_in cs) ∙ are_levels)

        pub none_differ : names_apart g cs ≡ None
        none_differ =
            ap (λ (v : SimplUnit). names_apart v cs) is ∙ ap (λ xs. listed_apart 0 xs (names_in cs)) (names_generated u (level_in cs)) ∙ listed

        there : (r : _) → IsUnitVerdict g cs r → IsUnitVerdict (generated u (level_in cs)) cs r
        there r h = subst (λ (v : SimplUnit). IsUnitVerdict v cs r) is h

        pub is_accepted : IsAnswer g cs (Ok tt) → IsAccepted (generated u (level_in cs)) cs
        is_accepted h = unit_verdicts_decide (generated u (level_in cs)) cs (Ok tt) (there (Ok tt) (judged_answer g cs none_differ (Ok tt) h))

        named_there : (at : ℕ) → at < length cs → slice_get (function_names u.functions) at ≡ Some (slice_index_or (function_names u.functions) at [])
        named_there at lt =
            let a = length-map u.functions (λ (f : TypedFn). f.name) in
            slice_get-get_or (function_names u.functions) at [] (omega (arith, a, lengths, lt))

        told_itself : (at : ℕ) → at < length cs → length cs < 2 ^ 32 → told at ≡ at
        told_itself at lt few = omega (arith, lt, few)

        pub refuses : length cs < 2 ^ 32 → (refused : Refused) (status : Status) (lines : List ℕ) → IsAnswer g cs (Err refused) →
            (status ≡ No) × (lines ≡ refusal_line (slice_index_or (function_names u.functions) refused.function []) (refused_text refused.phase) refused.node) →
            IsVerdict u cs status lines
        refuses few refused status lines h e =
            let (at, place, verdict, same) = judged_answer g cs none_differ (Err refused) h in
            let lt : at < length cs = position_there g cs at place (list_is g cs at_levels none_differ) verdict in
            subst (λ s. IsVerdict u cs s lines) (sym e.0)
            (inr (record {
              listed = listed;
              at = at;
              place = place;
              verdict = there _ verdict;
              name = slice_index_or (function_names u.functions) at [];
              named = named_there at lt;
              written =
                  e.1 ∙ ap (λ (r : Refused). refusal_line (slice_index_or (function_names u.functions) r.function []) (refused_text r.phase) r.node) same
                  ∙ ap (λ k. refusal_line (slice_index_or (function_names u.functions) k []) (refused_text (at_place at place).phase) place.node) (told_itself at lt few);
            }))
