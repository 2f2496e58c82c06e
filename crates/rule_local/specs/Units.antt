-- Units of flat commands and units of programs, where the rules take each body of the one to that of the other.
use Rattle.std.specs.Prelude.{◌≡◌, ℕ, List, [], ◌∷◌, Option, Some, None}
use Rattle.correspondence.specs.Corresponds.{Paired}
use Rattle.c_values.specs.Name.{Name}
use Rattle.c_values.specs.Choice.{Choice}
use Rattle.expression_lang.specs.Sort.{Kind}
use Rattle.expression_lang.specs.Signature.{Signature, names_of}
use Rattle.simpl_lang.specs.Command.{SimplFn, SimplUnit}
use Rattle.simpl_lang.specs.Exec as Simpl
use Rattle.simpl_lang.specs.Exec.{result_local}
use Rattle.monad_lang.specs.Program.{FinalFn, FinalUnit}
use Rattle.monad_lang.specs.Run as Mon
use Rattle.rule_trees.specs.RuleTree.{Tree}
use Rattle.rule_local.specs.Rule.{Rule, Context}
use Rattle.rule_local.specs.Table.{TakesWhole}
use Rattle.rule_local.specs.Kept.{LocalsKept}

-- what is looked at after a function's body
abbrev pub outputs_of : Option Kind → List Name
outputs_of None = []
outputs_of (Some k) = result_local ∷ []

abbrev pub context_of : SimplFn → Signature → Context
context_of f s = record { locals = f.locals; parameters = names_of s.params }

pub record IsLiftedTo (f : SimplFn) (s : Signature) (g : FinalFn) : Type 0 where
  pub signed : s.name ≡ f.name
  pub name : g.name ≡ f.name
  pub parameters : names_of g.params ≡ names_of s.params
  pub tree : Tree Rule
  pub takes : TakesWhole (context_of f s) tree f.body g.body (outputs_of s.result)

abbrev pub AreLiftedTo : List SimplFn → List Signature → List FinalFn → Type 0
AreLiftedTo [] [] [] = Unit {0}
AreLiftedTo (f ∷ fs) (s ∷ ss) (g ∷ gs) = IsLiftedTo f s g × AreLiftedTo fs ss gs
AreLiftedTo _ _ _ = ⊥

pub record IsUnitLiftedTo (u : SimplUnit) (v : FinalUnit) : Type 0 where
  pub layout : v.layout ≡ u.layout
  pub globals : v.globals ≡ u.globals
  pub functions : AreLiftedTo u.functions u.signatures v.functions

-- all functions of two units do the same, at every bound, choice and limit of nested calls
pub record UnitsKeepLocals (u : SimplUnit) (v : FinalUnit) : Type 0 where
  pub below : (p : Choice) (n : ℕ) → Paired (LocalsKept u.signatures) (Simpl.functions_below u p n) (Mon.functions_below v p n)
  pub runs : (p : Choice) (n : ℕ) → LocalsKept u.signatures (Simpl.simpl_runs u p n) (Mon.program_runs v p n)
