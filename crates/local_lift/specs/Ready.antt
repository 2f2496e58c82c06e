-- Functions whose locals can be lifted: their locals are of the four widths or truth values, and all that is named is one of them, as
-- in a well-formed unit.
use Rattle.std.specs.Prelude.{◌≡◌, true, List}
use Rattle.c_values.specs.Name.{Name, is_among}
use Rattle.expression_lang.specs.Signature.{names_of, kinds_of}
use Rattle.expression_lang.specs.Sort.{are_kinds}
use Rattle.simpl_lang.specs.Command.{Simpl}
use Rattle.simpl_lang.specs.Names.{command_names}
use Rattle.monad_lang.specs.Program.{Mon}
use Rattle.rule_trees.specs.RuleTree.{Tree}
use Rattle.rule_local.specs.Rule.{Rule, Context}
use Rattle.rule_local.specs.Lifted.{Lifted}

pub record IsReady (ctx : Context) (a : Simpl) (vs : List Name) : Type 0 where
  pub kinds : are_kinds (kinds_of ctx.locals) ≡ true
  pub names : (x : Name) → command_names x a ≡ true → is_among x (names_of ctx.locals) ≡ true
  pub outputs : (x : Name) → is_among x vs ≡ true → is_among x (names_of ctx.locals) ≡ true

pub record SameLifted (m : Mon) (t : Tree Rule) (l : Lifted) : Type 0 where
  pub right : m ≡ l.right
  pub tree : t ≡ l.tree
