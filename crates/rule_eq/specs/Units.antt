-- Units of programs, where the rules take each body of the one to that of the other.
use Rattle.std.specs.Prelude.{◌≡◌, ℕ, List, [], ◌∷◌, map, Option, Some, None}
use Rattle.correspondence.specs.Corresponds.{Paired}
use Rattle.c_values.specs.Name.{Name}
use Rattle.c_values.specs.Choice.{Choice}
use Rattle.expression_lang.specs.Evaluation.{Env}
use Rattle.expression_lang.specs.Sort.{Scalar, sort_of_kind}
use Rattle.expression_lang.specs.Sorted.{names_with}
use Rattle.expression_lang.specs.Signature.{names_of, kinds_of}
use Rattle.monad_lang.specs.Program.{FinalFn, FinalUnit, final_fn}
use Rattle.monad_lang.specs.Run.{functions_below, program_runs}
use Rattle.program_facts.specs.Lasting.{setting_for}
use Rattle.rule_trees.specs.RuleTree.{Tree}
use Rattle.rule_eq.specs.Rule.{Rule}
use Rattle.rule_eq.specs.Table.{point, Takes}
use Rattle.rule_eq.specs.Kept.{EqualKept}
use Rattle.rule_eq.specs.Exact.{DoesSame}

-- functions that differ in their bodies alone, of which the rules take the one to the other from no facts
pub record IsTakenTo (u : FinalUnit) (f g : FinalFn) : Type 0 where
  pub name : g.name ≡ f.name
  pub level : g.level ≡ f.level
  pub parameters : g.params ≡ f.params
  pub results : g.results ≡ f.results
  pub tree : Tree Rule
  pub takes : Takes (point [] (setting_for sort_of_kind u f)) tree f.body g.body

abbrev pub AreTakenTo : FinalUnit → List FinalFn → List FinalFn → Type 0
AreTakenTo u [] [] = Unit {0}
AreTakenTo u (f ∷ fs) (g ∷ gs) = IsTakenTo u f g × AreTakenTo u fs gs
AreTakenTo u _ _ = ⊥

pub record IsUnitTakenTo (u v : FinalUnit) : Type 0 where
  pub layout : v.layout ≡ u.layout
  pub globals : v.globals ≡ u.globals
  pub functions : AreTakenTo u u.functions v.functions

-- the parameters' sorts, and no other names
abbrev pub parameters_of : FinalFn → Name → Option Scalar
parameters_of f = names_with (names_of f.params) (map sort_of_kind (kinds_of f.params)) (λ x. None)

-- All functions of two units do the same, at every bound, choice and limit of nested calls; and so do their bodies, which are in range
-- and steady where those of the left unit are.
pub record UnitsKeepEqual (u v : FinalUnit) : Type 0 where
  pub below : (p : Choice) (n : ℕ) → Paired (EqualKept u) (functions_below u p n) (functions_below v p n)
  pub runs : (p : Choice) (n : ℕ) → EqualKept u (program_runs u p n) (program_runs v p n)
  pub bodies : (p : Choice) (n : ℕ) (x : Name) (f g : FinalFn) → final_fn u.functions x ≡ Some f → final_fn v.functions x ≡ Some g →
      (depth : Option ℕ) (env : Env) → DoesSame u v p n [] (parameters_of f) f.body g.body depth env
