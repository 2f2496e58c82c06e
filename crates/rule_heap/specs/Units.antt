-- Units of programs on bytes and units of programs on typed heaps, where the rules take each body of a lifted function
-- of the one to that of the other, and the others' bodies stay.
use Rattle.std.specs.Prelude.{◌≡◌, ℕ, Bool, true, false, List, [], ◌∷◌}
use Rattle.correspondence.specs.Corresponds.{Paired}
use Rattle.c_values.specs.Name.{Name}
use Rattle.c_values.specs.Choice.{Choice}
use Rattle.c_values.specs.Layout.{Layout}
use Rattle.expression_lang.specs.Sort.{Level, is_lifted}
use Rattle.monad_lang.specs.Program.{Mon, FinalFn, FinalUnit}
use Rattle.monad_lang.specs.Form.{is_bytes}
use Rattle.monad_lang.specs.Run.{functions_below, program_runs}
use Rattle.rule_trees.specs.RuleTree.{Tree}
use Rattle.rule_heap.specs.Rule.{Rule}
use Rattle.rule_heap.specs.Table.{Takes}
use Rattle.monad_lang.specs.Calls.{calls_only}
use Rattle.rule_heap.specs.Kept.{HeapsKept}

-- from no facts; a lifted function calls lifted ones alone
pub record IsBodyTaken (l : Layout) (levels : Name → Level) (left right : Mon) : Type 0 where
  pub tree : Tree Rule
  pub takes : Takes l [] tree left right
  pub bytes : is_bytes left ≡ true
  pub calls : calls_only (λ x. is_lifted (levels x)) left ≡ true

abbrev pub IsTakenWhere : Bool → Layout → (Name → Level) → Mon → Mon → Type 0
IsTakenWhere true l levels left right = IsBodyTaken l levels left right
IsTakenWhere false l levels left right = right ≡ left

pub record IsTakenTo (l : Layout) (levels : Name → Level) (f g : FinalFn) : Type 0 where
  pub level : f.level ≡ levels f.name
  pub name : g.name ≡ f.name
  pub same_level : g.level ≡ f.level
  pub parameters : g.params ≡ f.params
  pub results : g.results ≡ f.results
  pub body : IsTakenWhere (is_lifted f.level) l levels f.body g.body

abbrev pub AreTakenTo : Layout → (Name → Level) → List FinalFn → List FinalFn → Type 0
AreTakenTo l levels [] [] = Unit {0}
AreTakenTo l levels (f ∷ fs) (g ∷ gs) = IsTakenTo l levels f g × AreTakenTo l levels fs gs
AreTakenTo l levels _ _ = ⊥

pub record IsUnitTakenTo (levels : Name → Level) (u v : FinalUnit) : Type 0 where
  pub layout : v.layout ≡ u.layout
  pub globals : v.globals ≡ u.globals
  pub functions : AreTakenTo u.layout levels u.functions v.functions

-- all functions of two units do the same, at every bound, choice and limit of nested calls
pub record UnitsKeepHeaps (levels : Name → Level) (u v : FinalUnit) : Type 0 where
  pub below : (p : Choice) (n : ℕ) → Paired (HeapsKept u levels) (functions_below u p n) (functions_below v p n)
  pub runs : (p : Choice) (n : ℕ) → HeapsKept u levels (program_runs u p n) (program_runs v p n)
