-- What is answered of a certificate for a unit that was generated at its levels: that it is accepted, or the first place where it isn't. The
-- names of its functions come first; then the functions in their order, and of each what is asked of it in its order.
use Rattle.std.specs.Prelude.{◌≡◌, ℕ, min, List, map, codes, Option, Some, None, Result, Ok, Err}
use Rattle.c_values.specs.Name.{Name}
use Rattle.simpl_lang.specs.Command.{SimplFn, SimplUnit}
use Rattle.acceptance.specs.Certificate.{Steps}
use Rattle.acceptance.specs.Accepted.{IsAccepted}
use Rattle.acceptance.specs.Verdict as V
use Rattle.acceptance.specs.Verdict.{Place}
use Rattle.acceptance.specs.UnitVerdict.{of_function, IsUnitVerdict}
use Rattle.checking.specs.Lines.{phase_text}
use Rattle.checking.specs.Checked.{names_in, listed_apart}

-- the names of the functions, or what is asked of each of them
pub data Phase : Type 0 where
  Names : Phase
  Asked : V.Phase → Phase

pub record Refused : Type 0 where
  pub function : ℕ
  pub phase : Phase
  pub node : ℕ

abbrev pub Answer : Type 0
Answer = Result (Unit {0}) Refused

-- a position as it is told: the last number of 32 bits stands for all behind it too
abbrev pub told : ℕ → ℕ
told at = min at 4294967295

abbrev pub at_names : ℕ → Refused
at_names at = record { function = told at; phase = Names; node = told at }

abbrev pub at_place : ℕ → Place → Refused
at_place at place = record { function = told at; phase = Asked place.phase; node = place.node }

abbrev pub generated_names : List SimplFn → List Name
generated_names fs = map (λ f. f.name) fs

module _ (u : SimplUnit) (cs : List Steps) where
  -- the first position at which the certificate's functions aren't the unit's in its order
  abbrev pub names_apart : Option (ℕ × Name)
  names_apart = listed_apart 0 (generated_names u.functions) (names_in cs)

  -- the unit's functions have the certificate's levels, where they are the same functions
  abbrev pub AreAtLevels : Type 0
  AreAtLevels = names_apart ≡ None → map (λ f. f.level) u.functions ≡ map (λ c. c.level) cs

  -- by the verdict on a unit whose functions are the certificate's
  abbrev pub IsJudged : Answer → Type 0
  IsJudged (Ok done) = IsUnitVerdict u cs (Ok done)
  IsJudged (Err refused) = (at : ℕ) × (place : Place) × IsUnitVerdict u cs (Err (of_function at place)) × (refused ≡ at_place at place)

  -- a difference of names comes before all else
  abbrev pub AfterNames : Option (ℕ × Name) → Answer → Type 0
  AfterNames (Some p) r = r ≡ Err (at_names p.0)
  AfterNames None r = IsJudged r

  abbrev pub IsAnswer : Answer → Type 0
  IsAnswer = AfterNames names_apart

  -- what an answer decides
  abbrev pub Decides : Answer → Type 0
  Decides (Ok done) = IsAccepted u cs
  Decides (Err refused) = IsAccepted u cs → ⊥

-- the word of what isn't as it should be
abbrev pub refused_text : Phase → List ℕ
refused_text Names = codes "list"
refused_text (Asked phase) = phase_text phase
