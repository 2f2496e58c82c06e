-- What the code's rules and functions stand for.
use Rattle.std.specs.Prelude.{map}
use Rattle.expression_lang.specs.Signature.{names_of}
use Rattle.expression_lang.specs.CodeSignature.{binder_of}
use Rattle.rule_trees.specs.declared.tree.Tree as T
use Rattle.rule_trees.specs.RuleTree.{Tree}
use Rattle.rule_trees.specs.CodeTree as trees
use Rattle.rule_local.specs.declared.rule.Rule as R
use Rattle.rule_local.specs.declared.rule.Context as C
use Rattle.rule_local.specs.Rule.{Rule, Skip, Set, Dead, Global, Memory, Pick, Seq, Cond, Guard, While, Call, Void, Start, Context}

abbrev pub rule_of : R.Rule → Rule
rule_of R.TheVariants.Skip = Skip
rule_of R.TheVariants.Set = Set
rule_of R.TheVariants.Dead = Dead
rule_of R.TheVariants.Global = Global
rule_of R.TheVariants.Memory = Memory
rule_of R.TheVariants.Pick = Pick
rule_of R.TheVariants.Seq = Seq
rule_of R.TheVariants.Cond = Cond
rule_of R.TheVariants.Guard = Guard
rule_of R.TheVariants.While = While
rule_of R.TheVariants.Call = Call
rule_of R.TheVariants.Void = Void
rule_of R.TheVariants.Start = Start

abbrev pub tree_of : T.Tree R.Rule → Tree Rule
tree_of t = trees.tree_of rule_of t

abbrev pub context_of : C.Context → Context
context_of c = record { locals = map binder_of c.locals.now; parameters = names_of (map binder_of c.parameters.now) }
