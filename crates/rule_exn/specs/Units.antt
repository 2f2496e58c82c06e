-- Units that differ in their bodies alone, where the rules take each body of the one to that of the other.
use Rattle.std.specs.Prelude.{◌≡◌, ℕ, List, [], ◌∷◌}
use Rattle.correspondence.specs.Corresponds.{Paired, SameFunctions}
use Rattle.c_values.specs.Choice.{Choice}
use Rattle.expression_lang.specs.GuardKind.{GuardKind}
use Rattle.expression_lang.specs.Machine.{Returned}
use Rattle.expression_lang.specs.Signature.{Invocation}
use Rattle.simpl_lang.specs.Command.{SimplFn, SimplUnit}
use Rattle.simpl_lang.specs.Exec.{Runs, functions_below, simpl_runs}
use Rattle.rule_trees.specs.RuleTree.{Tree}
use Rattle.rule_exn.specs.Rule.{Rule}
use Rattle.rule_exn.specs.Table.{Takes}

pub record IsTakenTo (f g : SimplFn) : Type 0 where
  pub name : g.name ≡ f.name
  pub locals : g.locals ≡ f.locals
  pub level : g.level ≡ f.level
  pub tree : Tree Rule
  pub takes : Takes tree f.body g.body

abbrev pub AreTakenTo : List SimplFn → List SimplFn → Type 0
AreTakenTo [] [] = Unit {0}
AreTakenTo (f ∷ fs) (g ∷ gs) = IsTakenTo f g × AreTakenTo fs gs
AreTakenTo [] (g ∷ gs) = ⊥
AreTakenTo (f ∷ fs) [] = ⊥

pub record IsUnitTakenTo (u v : SimplUnit) : Type 0 where
  pub layout : v.layout ≡ u.layout
  pub globals : v.globals ≡ u.globals
  pub signatures : v.signatures ≡ u.signatures
  pub functions : AreTakenTo u.functions v.functions

-- two functions that are called alike give the same, fail by the same kind and stop alike
abbrev pub RunAlike : Runs → Runs → Type 0
RunAlike f g = SameFunctions {Call = Invocation} {A = Returned} {F = GuardKind} (λ c d. d ≡ c) (λ a b. b ≡ a) (λ k j. j ≡ k) f g

-- all functions of two units do the same, at every bound, choice and limit of nested calls
pub record UnitsRunAlike (u v : SimplUnit) : Type 0 where
  pub below : (p : Choice) (n : ℕ) → Paired RunAlike (functions_below u p n) (functions_below v p n)
  pub runs : (p : Choice) (n : ℕ) → RunAlike (simpl_runs u p n) (simpl_runs v p n)
