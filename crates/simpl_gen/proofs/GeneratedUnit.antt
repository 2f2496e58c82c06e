-- What the code generates for a unit is the generated unit, and has its ends.
use Rattle.std.proofs.Common.{◌≡◌, List, map, sym, ap, ◌∙◌, subst}
use Rattle.correspondence.specs.Corresponds.{Corresponds}
use Rattle.c_values.specs.Name.{Name}
use Rattle.c_values.specs.Layout.{Layout, GlobalVar}
use Rattle.c_values.specs.CodeValue.{global_of}
use Rattle.expression_lang.specs.Sort.{Level}
use Rattle.expression_lang.specs.Signature.{Signature}
use Rattle.expression_lang.specs.CodeExpression.{level_of}
use Rattle.expression_lang.specs.CodeSignature.{signature_of}
use Rattle.simpl_lang.specs.Command.{SimplFn, SimplUnit}
use Rattle.simpl_lang.specs.Exec.{simpl_runs}
use Rattle.simpl_lang.specs.CodeCommand.{simpl_fn_of, simpl_unit_of}
use Rattle.simpl_lang.specs.declared.units.SimplUnit as S
use Rattle.c_lang.specs.CodeTyped.{function_of, unit_of}
use Rattle.c_values.specs.declared.program.Program as P
use Rattle.c_lang.specs.declared.tree.TypedFn as F
use Rattle.c_lang.specs.WellTyped.{IsWellTyped}
use Rattle.c_meaning.specs.CRun.{c_runs}
use Rattle.generation.specs.Generate as rules
use Rattle.generation.specs.SameEnds.{HasEndsOf}
use Rattle.generation.proofs.ExactUnits.{generated_has_same_ends}
use Rattle.c_levels.specs.declared.modes.Modes.{Modes}
use Rattle.c_levels.specs.CodeModes.{AreLevels}
use Rattle.simpl_gen.specs.CodeAtLevels.{at_levels}
use Rattle.simpl_gen.proofs.AtLevels.{by_name}

abbrev unit_with : Layout → List GlobalVar → List SimplFn → List Signature → SimplUnit
unit_with l gs fs ss = record { layout = l; globals = gs; functions = fs; signatures = ss }

-- the parts of a unit that was made
pub record IsMade (u : P.Program F.TypedFn) (m : Modes) (s : S.SimplUnit) : Type 0 where
  pub layout : s.layout ≡ u.layout
  pub globals : map global_of s.globals.items ≡ map global_of u.globals.items
  pub functions : map simpl_fn_of s.functions.items ≡ at_levels (rules.function_of u.layout) (map function_of u.functions.items) (map level_of m.levels.items)
  pub signatures : map signature_of s.signatures.items ≡ at_levels (rules.signature_of u.layout) (map function_of u.functions.items) (map level_of m.levels.items)

pub is_generated : (u : P.Program F.TypedFn) (m : Modes) (s : S.SimplUnit) → IsMade u m s → (levels : Name → Level) → AreLevels (unit_of u) m levels → simpl_unit_of s ≡ rules.generated (unit_of u) levels
is_generated u m s h levels e =
    ap (λ l. unit_with l (map global_of s.globals.items) (map simpl_fn_of s.functions.items) (map signature_of s.signatures.items)) h.layout
    ∙ ap (λ gs. unit_with u.layout gs (map simpl_fn_of s.functions.items) (map signature_of s.signatures.items)) h.globals
    ∙ ap (λ fs. unit_with u.layout (map global_of u.globals.items) fs (map signature_of s.signatures.items))
    (h.functions ∙ by_name (rules.function_of u.layout) levels (map function_of u.functions.items) (map level_of m.levels.items) e)
    ∙ ap (λ ss. unit_with u.layout (map global_of u.globals.items) (map (λ f. rules.function_of u.layout (levels f.name) f) (map function_of u.functions.items)) ss)
    (h.signatures ∙ by_name (rules.signature_of u.layout) levels (map function_of u.functions.items) (map level_of m.levels.items) e)

pub has_ends : (u : P.Program F.TypedFn) (m : Modes) (s : S.SimplUnit) → IsMade u m s → (levels : Name → Level) → AreLevels (unit_of u) m levels → IsWellTyped (unit_of u) → HasEndsOf (unit_of u) levels (simpl_unit_of s)
has_ends u m s h levels e w p n depth c f found arguments state =
    subst (λ t. Corresponds (λ a b. b ≡ a) (λ k j. j ≡ k) (c_runs (unit_of u) levels p n depth c) (simpl_runs t p n depth c)) (sym (is_generated u m s h levels e))
    (generated_has_same_ends (unit_of u) w levels p n depth c f found arguments state)
