-- What the code's rules, trees and points of programs stand for.
use Rattle.std.specs.Prelude.{List}
use Rattle.ac_expr.specs.Fact.{Fact}
use Rattle.ac_expr.specs.CodeChain.{facts_of}
use Rattle.ac_expr.specs.declared.chain.Facts as F
use Rattle.monad_lang.specs.CodeProgram.{mon_of}
use Rattle.monad_sorts.specs.declared.settings.Setting as S
use Rattle.monad_sorts.specs.declared.inside.Inside as I
use Rattle.monad_sorts.specs.CodeInside.{setting_in, scalars_in}
use Rattle.program_facts.specs.declared.parts.Parts as P
use Rattle.program_facts.specs.CodeParts.{sequence}
use Rattle.rule_trees.specs.declared.tree.Tree as T
use Rattle.rule_trees.specs.declared.tree.Tree.{out-Tree}
use Rattle.rule_trees.specs.RuleTree.{Tree}
use Rattle.rule_trees.specs.CodeTree as trees
use Rattle.rule_eq.specs.declared.rule.Rule as R
use Rattle.rule_eq.specs.Rule.{Rule, Refl, Trans, Bind, If, Loop, RetOne, BindRet, Assoc, IfConst, GuardKnown, Exp, Point}
use Rattle.rule_eq.specs.Table.{point}

abbrev pub rule_of : R.Rule → Rule
rule_of R.TheVariants.Refl = Refl
rule_of (R.TheVariants.Trans m) = Trans (mon_of m.value)
rule_of R.TheVariants.Bind = Bind
rule_of R.TheVariants.If = If
rule_of R.TheVariants.Loop = Loop
rule_of (R.TheVariants.RetOne i) = RetOne i
rule_of R.TheVariants.BindRet = BindRet
rule_of R.TheVariants.Assoc = Assoc
rule_of R.TheVariants.IfConst = IfConst
rule_of R.TheVariants.GuardKnown = GuardKnown
rule_of R.TheVariants.Exp = Exp

-- the rule of a tree
abbrev pub rule_at : T.Tree R.Rule → Rule
rule_at t = rule_of (out-Tree R.Rule t).rule

abbrev pub tree_of : T.Tree R.Rule → Tree Rule
tree_of t = trees.tree_of rule_of t

-- what is known at a place
abbrev pub known_in : F.Facts P.Parts → List Fact
known_in fs = facts_of sequence fs

-- and what is in scope there, in a setting
abbrev pub point_in : S.Setting → F.Facts P.Parts → I.Inside → Point
point_in s fs inside = point (known_in fs) (setting_in s (scalars_in inside))
