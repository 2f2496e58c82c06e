-- Rows of the table at the code's points, and what is known of the left side there.
use Rattle.std.specs.Prelude.{◌≡◌, true, List}
use Rattle.expression_lang.specs.Expression.{Exp}
use Rattle.expression_lang.specs.Sort.{Kind}
use Rattle.monad_lang.specs.Program.{Mon}
use Rattle.rule_trees.specs.RuleTree.{Row}
use Rattle.rule_word.specs.declared.rule.Context as C
use Rattle.rule_word.specs.declared.rule.Point as P
use Rattle.rule_word.specs.declared.rule.View as V
use Rattle.rule_word.specs.declared.kinds.Kinds as K
use Rattle.rule_word.specs.Rule.{Rule, Claim, expression}
use Rattle.rule_word.specs.Table.{expression_row, program_row}
use Rattle.rule_word.specs.CodeFits.{Fits}
use Rattle.rule_word.specs.CodeNames.{are_binders}
use Rattle.rule_word.specs.CodeRule.{view_at, context_in}
use Rattle.rule_word.specs.CodeKinds.{binders_in, point_in, scope_at}

-- what a rule asks of two expressions, and the claims of the parts
abbrev pub row_at : C.Context → P.Point → Rule → Exp → V.View → Exp → Row Claim
row_at c at rule e v a = expression_row (scope_at c at) (point_in at) rule e (view_at (scope_at c at) e v) a

-- the left side is well-sorted, and of the sort that is seen
abbrev pub FitsAt : C.Context → P.Point → Exp → V.View → Type 0
FitsAt c at e v = Fits (scope_at c at) e (view_at (scope_at c at) e v)

-- the names in scope have kinds that can be
abbrev pub HasKinds : K.Kinds → Type 0
HasKinds names = are_binders (binders_in names) ≡ true

abbrev pub claim_at : C.Context → P.Point → Exp → V.View → Exp → Claim
claim_at c at e v a = expression (point_in at) e (view_at (scope_at c at) e v) a

-- the same of two programs
abbrev pub program_row_at : C.Context → P.Point → Rule → Mon → Mon → List Kind → Row Claim
program_row_at c at rule m m' ks = program_row (context_in c) (point_in at) rule m m' ks
