-- Where a certificate isn't accepted: the part of what the step takes that the refused node is about, as text.
use Rattle.std.specs.Prelude.{◌≡◌, ◌<◌, ◌≤◌, ℕ, List, slice_get, Option, Some, None, Err}
use Rattle.c_values.specs.Types.{Target}
use Rattle.expression_lang.specs.Signature.{Signature}
use Rattle.simpl_lang.specs.Command.{SimplFn, SimplUnit}
use Rattle.c_lang.specs.Typed.{TypedUnit}
use Rattle.generation.specs.Generate.{generated}
use Rattle.rule_trees.specs.RuleTree.{last_number}
use Rattle.acceptance.specs.Certificate.{Steps}
use Rattle.acceptance.specs.Verdict.{Place}
use Rattle.acceptance.specs.UnitVerdict.{of_function, IsUnitVerdict}
use Rattle.refused_parts.specs.Parts.{Part, Command, Program, IsPartAt}
use Rattle.ac_sx.specs.Tree.{Tree, file}
use Rattle.program_text.specs.MonText.{mon_tree}
use Rattle.command_text.specs.CommandText.{command_tree}
use Rattle.certificate_text.specs.CertificateText.{Certificate}
use Rattle.certificate_text.specs.Answer.{IsCertificateText}
use Rattle.checking.specs.Checked.{level_in, apart, target_for}

abbrev pub part_tree : Part → Tree
part_tree (Command c) = command_tree c
part_tree (Program m) = mon_tree m

-- with the line's end behind it
abbrev pub part_text : Part → List ℕ
part_text p = file (part_tree p)

-- the place of the function at a position is about the part whose text this is
pub record Shows (u : SimplUnit) (cs : List Steps) (at : ℕ) (place : Place) (shown : List ℕ) : Type 0 where
  pub function : SimplFn
  pub is_function : slice_get u.functions at ≡ Some function
  pub signature : Signature
  pub is_signature : slice_get u.signatures at ≡ Some signature
  pub steps : Steps
  pub are_steps : slice_get cs at ≡ Some steps
  pub part : Part
  pub about : IsPartAt u function signature steps place part
  pub written : shown ≡ part_text part

module _ (target : Target) (text : List ℕ) (unit : TypedUnit) where
  -- it is the text of a certificate for the target with the functions of the C text in its order, which isn't accepted at this place
  pub record IsRefusedAt (c : Certificate) (at : ℕ) (place : Place) : Type 0 where
    pub is_text : IsCertificateText text c
    pub for_target : target_for c.version ≡ target
    pub listed : apart unit c.functions ≡ None
    pub verdict : IsUnitVerdict (generated unit (level_in c.functions)) c.functions (Err (of_function at place))

  -- What is shown of the refused node; nothing where there is none. Of a node with the last number, which several nodes have, no more is said.
  abbrev pub IsShown : Option (List ℕ) → Type 0
  IsShown (Some shown) =
      (c : Certificate) × (at : ℕ) × (place : Place) × IsRefusedAt c at place
      × (place.node < last_number → Shows (generated unit (level_in c.functions)) c.functions at place shown)
  IsShown None = (c : Certificate) (at : ℕ) (place : Place) → IsRefusedAt c at place → last_number ≤ place.node
