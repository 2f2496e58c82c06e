-- What the code finds at the place where a certificate isn't accepted, and on the way there.
use Rattle.std.specs.Prelude.{◌≡◌, ◌<◌, ℕ, List, Option, Some, None, Err}
use Rattle.std.specs.Option.{option_map}
use Rattle.simpl_lang.specs.Command.{SimplUnit}
use Rattle.simpl_lang.specs.CodeCommand.{simpl_unit_of}
use Rattle.c_lang.specs.Typed.{TypedUnit}
use Rattle.c_levels.specs.CodeModes.{AreLevels}
use Rattle.generation.specs.Generate.{generated}
use Rattle.rule_trees.specs.RuleTree.{last_number}
use Rattle.acceptance.specs.Certificate.{Steps}
use Rattle.acceptance.specs.Verdict as V
use Rattle.acceptance.specs.Verdict.{Place}
use Rattle.acceptance.specs.UnitVerdict.{of_function, IsUnitVerdict}
use Rattle.certificate_text.specs.CertificateText.{Certificate}
use Rattle.certificate_text.specs.CertificateIndex.{index_of}
use Rattle.certificate_text.specs.CodeIndex.{index_in}
use Rattle.checking.specs.declared.trials.Tried.{Tried}
use Rattle.checking.specs.Checked.{level_in}
use Rattle.checking.specs.Refused.{Phase, Names, Asked, Refused, IsAnswer}
use Rattle.checking.specs.CodeRefused.{answer_of}
use Rattle.checking.specs.RefusedPart.{Shows}

-- what a certificate's text comes to, whose functions are the unit's
pub record IsTried (unit : TypedUnit) (c : Certificate) (t : Tried) : Type 0 where
  pub index : index_in t.index ≡ index_of c
  pub levels : AreLevels unit t.modes (level_in c.functions)
  pub generated : simpl_unit_of t.generated ≡ generated unit (level_in c.functions)
  pub answer : IsAnswer (simpl_unit_of t.generated) c.functions (answer_of t.answer)

-- what is asked of a function, and the place in it, where a refusal is of one
abbrev pub asked_in : Phase → Option V.Phase
asked_in Names = None
asked_in (Asked phase) = Some phase

abbrev pub place_in : Refused → Option Place
place_in r = option_map (λ phase. record { phase = phase; node = r.node }) (asked_in r.phase)

-- what is shown of a place, if it has a number of its own
abbrev pub IsShownAt : SimplUnit → List Steps → ℕ → Place → Option (List ℕ) → Type 0
IsShownAt u cs at place (Some shown) = place.node < last_number → Shows u cs at place shown
IsShownAt u cs at place None = place.node < last_number → ⊥

-- for every place that the certificate is refused at
abbrev pub IsShownOf : SimplUnit → List Steps → Option (List ℕ) → Type 0
IsShownOf u cs o = (at : ℕ) (place : Place) → IsUnitVerdict u cs (Err (of_function at place)) → IsShownAt u cs at place o
