-- What the code's rules stand for.
use Rattle.rule_trees.specs.declared.tree.Tree as T
use Rattle.rule_trees.specs.RuleTree.{Tree}
use Rattle.rule_trees.specs.CodeTree as trees
use Rattle.rule_exn.specs.declared.rule.Rule as R
use Rattle.rule_exn.specs.Rule.{Rule, Skip, Set, Pick, Call, Throw, SeqPlain, SeqTest, Cond, Guard, WhilePlain, WhileTest, CatchPlain, CatchTest, CatchSkip}

abbrev pub rule_of : R.Rule → Rule
rule_of R.TheVariants.Skip = Skip
rule_of R.TheVariants.Set = Set
rule_of R.TheVariants.Pick = Pick
rule_of R.TheVariants.Call = Call
rule_of R.TheVariants.Throw = Throw
rule_of R.TheVariants.SeqPlain = SeqPlain
rule_of R.TheVariants.SeqTest = SeqTest
rule_of R.TheVariants.Cond = Cond
rule_of R.TheVariants.Guard = Guard
rule_of R.TheVariants.WhilePlain = WhilePlain
rule_of R.TheVariants.WhileTest = WhileTest
rule_of R.TheVariants.CatchPlain = CatchPlain
rule_of R.TheVariants.CatchTest = CatchTest
rule_of R.TheVariants.CatchSkip = CatchSkip

abbrev pub tree_of : T.Tree R.Rule → Tree Rule
tree_of t = trees.tree_of rule_of t
