-- What the code's rules, trees and contexts stand for.
use Rattle.std.specs.Prelude.{List}
use Rattle.expression_lang.specs.CodeExpression.{exp_of}
use Rattle.ac_expr.specs.Fact.{Fact}
use Rattle.ac_expr.specs.CodeChain.{facts_of}
use Rattle.ac_expr.specs.declared.chain.Facts as F
use Rattle.program_facts.specs.declared.parts.Parts as P
use Rattle.program_facts.specs.CodeParts.{sequence}
use Rattle.rule_trees.specs.declared.tree.Tree as T
use Rattle.rule_trees.specs.declared.tree.Tree.{out-Tree}
use Rattle.rule_trees.specs.RuleTree.{Tree, Table}
use Rattle.rule_trees.specs.CodeTree as trees
use Rattle.rule_heap.specs.declared.rule.Rule as R
use Rattle.rule_heap.specs.declared.rule.Context as C
use Rattle.rule_heap.specs.Rule.{Rule, Ret, Bind, Guard, If, Global, Loop, Call, Pick, Write, Pointer, Drop, Same, Leaf, Load, Tagged, PtrOk, Op, And, Or, Imp, Cond, Known, Claim}
use Rattle.rule_heap.specs.Table.{table}

abbrev pub rule_of : R.Rule → Rule
rule_of R.TheVariants.Ret = Ret
rule_of R.TheVariants.Bind = Bind
rule_of R.TheVariants.Guard = Guard
rule_of R.TheVariants.If = If
rule_of R.TheVariants.Global = Global
rule_of R.TheVariants.Loop = Loop
rule_of R.TheVariants.Call = Call
rule_of R.TheVariants.Pick = Pick
rule_of R.TheVariants.Write = Write
rule_of R.TheVariants.Pointer = Pointer
rule_of (R.TheVariants.Drop q) = Drop (exp_of q.value)
rule_of R.TheVariants.Same = Same
rule_of R.TheVariants.Leaf = Leaf
rule_of R.TheVariants.Load = Load
rule_of R.TheVariants.Tagged = Tagged
rule_of R.TheVariants.PtrOk = PtrOk
rule_of R.TheVariants.Op = Op
rule_of R.TheVariants.And = And
rule_of R.TheVariants.Or = Or
rule_of R.TheVariants.Imp = Imp
rule_of R.TheVariants.Cond = Cond
rule_of (R.TheVariants.Known q) = Known (exp_of q.value)

-- the rule of a tree
abbrev pub rule_at : T.Tree R.Rule → Rule
rule_at t = rule_of (out-Tree R.Rule t).rule

abbrev pub tree_of : T.Tree R.Rule → Tree Rule
tree_of t = trees.tree_of rule_of t

-- what is known at a place
abbrev pub known_in : F.Facts P.Parts → List Fact
known_in fs = facts_of sequence fs

abbrev pub facts_at : C.Context → List Fact
facts_at c = known_in c.facts.now

abbrev pub table_at : C.Context → Table Rule Claim
table_at c = table c.layout.now
