-- Units of programs on words and units of programs on what stands for them, where the rules take each body of the one to that of the
-- other.
use Rattle.std.specs.Prelude.{◌≡◌, ℕ, List, [], ◌∷◌, map}
use Rattle.correspondence.specs.Corresponds.{Paired}
use Rattle.c_values.specs.Choice.{Choice}
use Rattle.expression_lang.specs.Sort.{sort_of_kind, word_sort_of}
use Rattle.expression_lang.specs.Signature.{Binder, names_of, kinds_of}
use Rattle.program_facts.specs.Lasting.{AllLast}
use Rattle.monad_lang.specs.Program.{FinalFn, FinalUnit}
use Rattle.monad_lang.specs.Run.{functions_below, program_runs}
use Rattle.rule_trees.specs.RuleTree.{Tree}
use Rattle.rule_word.specs.Rule.{Rule, Context}
use Rattle.rule_word.specs.Scopes.{with_kinds}
use Rattle.rule_word.specs.Table.{Takes}
use Rattle.rule_word.specs.Kept.{context_of, WordsKept}

-- the parameters, as names in scope
abbrev pub in_scope : FinalFn → List Binder
in_scope g = with_kinds (names_of g.params) (kinds_of g.params) []

-- the same function, of words whose kinds on the right are the right side's
pub record IsAbstractedTo (ctx : Context) (f g : FinalFn) : Type 0 where
  pub name : g.name ≡ f.name
  pub level : g.level ≡ f.level
  pub parameters : names_of f.params ≡ names_of g.params
  pub words : map sort_of_kind (kinds_of f.params) ≡ map word_sort_of (kinds_of g.params)
  pub results : map sort_of_kind f.results ≡ map word_sort_of g.results
  pub tree : Tree Rule
  pub takes : Takes ctx (in_scope g) tree f.body g.body g.results

abbrev pub AreAbstractedTo : Context → List FinalFn → List FinalFn → Type 0
AreAbstractedTo ctx [] [] = Unit {0}
AreAbstractedTo ctx (f ∷ fs) (g ∷ gs) = IsAbstractedTo ctx f g × AreAbstractedTo ctx fs gs
AreAbstractedTo ctx _ _ = ⊥

pub record IsUnitAbstractedTo (u v : FinalUnit) : Type 0 where
  pub layout : v.layout ≡ u.layout
  pub globals : v.globals ≡ u.globals
  pub functions : AreAbstractedTo (context_of v) u.functions v.functions

-- all functions of two units do the same, at every bound, choice and limit of nested calls, and those of words keep sorts
pub record UnitsKeepWords (u v : FinalUnit) : Type 0 where
  pub lasts : (p : Choice) (n : ℕ) → AllLast v.layout v.globals word_sort_of (context_of v).functions
      (functions_below u p n)
  pub below : (p : Choice) (n : ℕ) → Paired (WordsKept (context_of v)) (functions_below u p n) (functions_below v p n)
  pub runs : (p : Choice) (n : ℕ) → WordsKept (context_of v) (program_runs u p n) (program_runs v p n)
