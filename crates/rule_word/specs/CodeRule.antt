-- What the code's rules, trees, views, contexts and points stand for.
use Rattle.std.specs.Prelude.{List, map, Option}
use Rattle.c_values.specs.CodeValue.{global_of}
use Rattle.expression_lang.specs.Expression.{Exp}
use Rattle.expression_lang.specs.Sort.{Sort, Scope, sort_of}
use Rattle.expression_lang.specs.CodeExpression.{kind_of}
use Rattle.expression_lang.specs.CodeSignature.{signature_of}
use Rattle.ac_expr.specs.Fact.{Fact}
use Rattle.ac_expr.specs.CodeChain.{facts_of}
use Rattle.ac_expr.specs.declared.chain.Facts as F
use Rattle.rule_trees.specs.declared.tree.Tree as T
use Rattle.rule_trees.specs.declared.tree.Tree.{out-Tree}
use Rattle.rule_trees.specs.RuleTree.{Tree, Table}
use Rattle.rule_trees.specs.CodeTree as trees
use Rattle.rule_word.specs.declared.rule.Rule as R
use Rattle.rule_word.specs.declared.rule.View as V
use Rattle.rule_word.specs.declared.rule.Context as C
use Rattle.rule_word.specs.declared.passed.Passed as P
use Rattle.rule_word.specs.CodePassed.{sequence}
use Rattle.rule_word.specs.Rule.{Rule, Ret, Guard, If, Global, Pick, Write, Bind, Loop, Call, PickNat, PickInt, Recast, Var, Const, Nat, Int, Word, Unat, Sint, Add, Sub, Mul, Neg, Udiv, Umod, Sdiv, Smod, Order, Eq, Zext, Sext, Logic, Cond, Op, Context, View, AsIs, Unsigned, Signed, Claim}
use Rattle.rule_word.specs.Table.{table}

abbrev pub rule_of : R.Rule → Rule
rule_of R.TheVariants.Ret = Ret
rule_of R.TheVariants.Guard = Guard
rule_of R.TheVariants.If = If
rule_of R.TheVariants.Global = Global
rule_of R.TheVariants.Pick = Pick
rule_of R.TheVariants.Write = Write
rule_of (R.TheVariants.Bind ks) = Bind (map kind_of ks.items)
rule_of (R.TheVariants.Loop ks) = Loop (map kind_of ks.items)
rule_of R.TheVariants.Call = Call
rule_of R.TheVariants.PickNat = PickNat
rule_of R.TheVariants.PickInt = PickInt
rule_of (R.TheVariants.Recast ks) = Recast (map kind_of ks.items)
rule_of R.TheVariants.Var = Var
rule_of R.TheVariants.Const = Const
rule_of R.TheVariants.Nat = Nat
rule_of R.TheVariants.Int = Int
rule_of (R.TheVariants.Word k) = Word (kind_of k)
rule_of R.TheVariants.Unat = Unat
rule_of R.TheVariants.Sint = Sint
rule_of R.TheVariants.Add = Add
rule_of R.TheVariants.Sub = Sub
rule_of R.TheVariants.Mul = Mul
rule_of R.TheVariants.Neg = Neg
rule_of R.TheVariants.Udiv = Udiv
rule_of R.TheVariants.Umod = Umod
rule_of R.TheVariants.Sdiv = Sdiv
rule_of R.TheVariants.Smod = Smod
rule_of R.TheVariants.Order = Order
rule_of (R.TheVariants.Eq k) = Eq (kind_of k)
rule_of R.TheVariants.Zext = Zext
rule_of R.TheVariants.Sext = Sext
rule_of R.TheVariants.Logic = Logic
rule_of R.TheVariants.Cond = Cond
rule_of R.TheVariants.Op = Op

-- the rule of a tree
abbrev pub rule_at : T.Tree R.Rule → Rule
rule_at t = rule_of (out-Tree R.Rule t).rule

abbrev pub tree_of : T.Tree R.Rule → Tree Rule
tree_of t = trees.tree_of rule_of t

-- how a value of a sort is seen
abbrev pub view_of : Option Sort → V.View → View
view_of o V.TheVariants.AsIs = AsIs o
view_of o (V.TheVariants.Unsigned n) = Unsigned n
view_of o (V.TheVariants.Signed n) = Signed n

-- and the value of an expression
abbrev pub view_at : Scope → Exp → V.View → View
view_at g e v = view_of (sort_of g e) v

-- what is known at a place
abbrev pub known_in : F.Facts P.Passed → List Fact
known_in fs = facts_of sequence fs

abbrev pub context_in : C.Context → Context
context_in c = record { layout = c.layout.now; globals = map global_of c.globals.now; functions = map signature_of c.functions.now }

abbrev pub table_at : C.Context → Table Rule Claim
table_at c = table (context_in c)
