-- The units that an accepted certificate makes of a generated unit are ones that the rules take to each other.
use Rattle.std.proofs.Common.{◌≡◌, List, [], ◌∷◌, map, Option, Some, None, Bool, true, false, refl, ap}
use Rattle.std.proofs.lemmas.Bool.{and_parts}
use Rattle.c_values.specs.Name.{Name}
use Rattle.c_values.specs.Layout.{Layout}
use Rattle.expression_lang.specs.Sort.{Level, is_lifted}
use Rattle.expression_lang.specs.Signature.{Signature}
use Rattle.simpl_lang.specs.Command.{SimplFn, SimplUnit}
use Rattle.simpl_lang.specs.Sorted as Simpl
use Rattle.monad_lang.specs.Program.{Mon}
use Rattle.rule_heap.specs.Rule as H
use Rattle.c_lang.specs.Typed.{TypedFn, TypedUnit}
use Rattle.c_lang.specs.WellTyped.{IsWellTyped}
use Rattle.generation.specs.Generate.{generated}
use Rattle.generation.proofs.WellFormedUnits.{generated_is_well_formed}
use Rattle.pipeline.specs.Taken.{AreTaken}
use Rattle.acceptance.specs.Certificate.{Step, Steps, before_words}
use Rattle.acceptance.specs.Accepted.{is_on_words, IsHeapStep, IsFunctionAccepted, IsAccepted}
use Rattle.pipeline.specs.Units.{flat_unit, local_unit, heap_unit, word_unit, last_unit}
use Rattle.pipeline.proofs.Signed.{AreSigned, made, signed, generated_signed}
use Rattle.pipeline.proofs.UnitsMade.{AllOf, all_of, OnWords, OnNumbers, number_signatures, words_formed, numbers_formed}
use Rattle.pipeline.proofs.FlatUnit.{flat_taken, flat_formed}
use Rattle.pipeline.proofs.UnitsTaken.{locals_taken, heaps_taken, words_taken, equal_taken, last_are_programs}

-- the programs of each step give what their functions give

sorted_before_words : (u : SimplUnit) (s : Signature) (c : Steps) → OnWords u (λ c. c.local.program) s c → (b : Bool)
    (o : Option (Step Mon H.Rule)) → IsHeapStep u s c.local.program b o →
    is_on_words u s (before_words (record c { heap = o })) ≡ true
sorted_before_words u s c h true (Some step) k = (and_parts _ _ k.0).0
sorted_before_words u s c h false None k = h
sorted_before_words _ _ _ _ _ _ k = absurd k

module _ (u : SimplUnit) (f : SimplFn) (s : Signature) (c : Steps) (h : IsFunctionAccepted u f s c) where
  local_sorted : OnWords u (λ c. c.local.program) s c
  local_sorted = (and_parts _ _ h.local.formed).0

  heap_sorted : OnWords u before_words s c
  heap_sorted = sorted_before_words u s c local_sorted (is_lifted c.level) c.heap h.heap

  word_sorted : OnNumbers u (λ c. c.word.program) s c
  word_sorted = (and_parts _ _ h.word.formed).0

  last_sorted : OnNumbers u (λ c. c.equal.program) s c
  last_sorted = (and_parts _ _ h.equal.formed).0

same_names : (l : Layout) (levels : Name → Level) (fs : List TypedFn) →
    map (λ s. s.name) (signed l levels fs) ≡ map (λ f. f.name) (made l levels fs)
same_names l levels [] = refl
same_names l levels (f ∷ fs) = ap (λ xs. f.name ∷ xs) (same_names l levels fs)

module _ (u : TypedUnit) (levels : Name → Level) (cs : List Steps) (typed : IsWellTyped u)
    (accepted : IsAccepted (generated u levels) cs) where
  abbrev g : SimplUnit
  g = generated u levels

  formed : Simpl.IsWellFormed (generated u levels)
  formed = generated_is_well_formed u typed levels

  named : map (λ s. s.name) (generated u levels).signatures ≡ map (λ f. f.name) (generated u levels).functions
  named = same_names u.layout levels u.functions

  -- the functions on numbers have the signatures of the generated unit
  words_signed : AllOf (OnNumbers (generated u levels) (λ c. c.word.program)) (generated u levels).signatures cs
  words_signed = all_of g (OnNumbers g (λ c. c.word.program)) (word_sorted g) g.functions g.signatures cs accepted

  pub accepted_units_are_taken : AreTaken u levels (generated u levels) (flat_unit (generated u levels) cs)
      (local_unit (generated u levels) cs) (heap_unit (generated u levels) cs) (word_unit (generated u levels) cs)
      (last_unit (generated u levels) cs)
  accepted_units_are_taken =
      let signed_all : AreSigned g.signatures = generated_signed u levels formed in
      let same = number_signatures (λ c. c.word.program) (OnNumbers g (λ c. c.word.program)) g.signatures cs words_signed in
      record {
        typed = typed;
        generation = refl;
        exceptions = flat_taken g cs accepted;
        flat_formed = flat_formed g cs accepted formed;
        locals = record { layout = refl; globals = refl; functions = locals_taken g u.layout levels u.functions cs accepted };
        local_formed = words_formed g (λ c. c.local.program) cs formed named signed_all
            (all_of g (OnWords g (λ c. c.local.program)) (local_sorted g) g.functions g.signatures cs accepted);
        heaps = record { layout = refl; globals = refl; functions = heaps_taken u levels u.functions cs accepted };
        heap_formed = words_formed g before_words cs formed named signed_all
            (all_of g (OnWords g before_words) (heap_sorted g) g.functions g.signatures cs accepted);
        words = record { layout = refl; globals = refl; functions = words_taken g _ same g.functions g.signatures cs accepted };
        equality = record {
          layout = refl;
          globals = refl;
          functions = equal_taken g _ same (word_unit g cs).functions refl g.functions g.signatures cs accepted;
        };
        last_formed = numbers_formed g (λ c. c.equal.program) cs formed named signed_all
            (all_of g (OnNumbers g (λ c. c.equal.program)) (last_sorted g) g.functions g.signatures cs accepted);
        programs = record { layout = refl; globals = refl; functions = last_are_programs g u.layout levels u.functions cs accepted };
      }
