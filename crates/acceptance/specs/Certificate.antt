-- What a certificate has for each function: the program of each step, and the tree of rules that takes the one before to it.
use Rattle.std.specs.Prelude.{Option, Some, None}
use Rattle.c_values.specs.Name.{Name}
use Rattle.expression_lang.specs.Sort.{Level}
use Rattle.simpl_lang.specs.Command.{Simpl}
use Rattle.monad_lang.specs.Program.{Mon}
use Rattle.rule_trees.specs.RuleTree.{Tree}
use Rattle.rule_exn.specs.Rule as Exceptions
use Rattle.rule_local.specs.Rule as Locals
use Rattle.rule_heap.specs.Rule as Heaps
use Rattle.rule_word.specs.Rule as Words
use Rattle.rule_eq.specs.Rule as Equality

pub record Step (Program Rule : Type 0) : Type 0 where
  pub program : Program
  pub tree : Tree Rule

pub record Steps : Type 0 where
  pub name : Name
  pub level : Level
  pub exception : Step Simpl Exceptions.Rule
  pub local : Step Mon Locals.Rule
  -- absent exactly at level bytes
  pub heap : Option (Step Mon Heaps.Rule)
  pub word : Step Mon Words.Rule
  pub equal : Step Mon Equality.Rule

-- the program before words become numbers
abbrev pub before_words : Steps → Mon
before_words c = there c.heap
  where
    there : Option (Step Mon Heaps.Rule) → Mon
    there (Some s) = s.program
    there None = c.local.program
