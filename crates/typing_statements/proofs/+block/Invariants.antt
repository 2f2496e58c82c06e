-- A part is less deep than the whole. What is left of items and groups, behind what was found, is judged as all are.
use Rattle.std.proofs.Common.{◌≡◌, ◌+◌, ◌*◌, ◌≤◌, max, map}
use Rattle.c_grammar.specs.CodeTree as view
use Rattle.c_grammar.specs.declared.tree.Stmt.{size-Stmt}
use Rattle.c_grammar.specs.declared.tree.Items.{size-Items}
use Rattle.c_grammar.specs.declared.tree.Groups.{size-Groups}
use Rattle.c_values.specs.CodeTypes.{int_type_of}
use Rattle.typing_scope.specs.CodeScope.{scope_of}
use Rattle.typing_statements.specs.CodeKeys.{Finds}
use Rattle.typing_statements.specs.CodeLabels.{labels_of}
use Rattle.typing_statements.specs.CodeStatements.{around_of, in_groups}
use Rattle.typing_expressions.specs.CodeBehind.{behind}
use Rattle.typing_rules.specs.Statements as rules
use Rattle.c_lang.specs.CodeTyped.{statement_of}
use Rattle.typing_statements.proofs.+block.Given as goal

abbrev pub decreases-statements::statement : goal.decreases-statements::statement
decreases-statements::statement l = 2 * size-Stmt l.stmt.now

abbrev pub decreases-statements::block_statement : goal.decreases-statements::block_statement
decreases-statements::block_statement l = 2 * size-Items l.block.now + 1

abbrev pub decreases-statements::more_items : goal.decreases-statements::more_items
decreases-statements::more_items l = 2 * size-Items l.items.now

abbrev pub decreases-statements::if_statement : goal.decreases-statements::if_statement
decreases-statements::if_statement l = 2 * size-Stmt l.yes.now + 1

abbrev pub decreases-statements::if_else_statement : goal.decreases-statements::if_else_statement
decreases-statements::if_else_statement l = 2 * max (size-Stmt l.yes.now) (size-Stmt l.no.now) + 1

abbrev pub decreases-statements::while_statement : goal.decreases-statements::while_statement
decreases-statements::while_statement l = 2 * size-Stmt l.body.now + 1

abbrev pub decreases-statements::do_statement : goal.decreases-statements::do_statement
decreases-statements::do_statement l = 2 * size-Stmt l.body.now + 1

abbrev pub decreases-statements::for_statement : goal.decreases-statements::for_statement
decreases-statements::for_statement l = 2 * size-Stmt l.body.now + 1

abbrev pub decreases-switches::switch : goal.decreases-switches::switch
decreases-switches::switch l = 2 * size-Groups l.groups.now + 1

abbrev pub decreases-switches::groups_at : goal.decreases-switches::groups_at
decreases-switches::groups_at l = 2 * size-Groups l.groups.now

abbrev pub decreases-switches::group_statements : goal.decreases-switches::group_statements
decreases-switches::group_statements l = 2 * max (size-Stmt l.first.now) (size-Items l.others.now) + 1

abbrev pub invariant-statements::more_items-loop-rest : goal.invariant-statements::more_items-loop-rest
invariant-statements::more_items-loop-rest l =
    (size-Items l.rest ≤ size-Items l.fn.items)
    × (behind (map statement_of l.fn.statements.items) (rules.items (around_of l.fn.around) (view.items_of l.fn.items)) (scope_of l.fn.scope) ≡ behind (map statement_of l.statements.items) (rules.items (around_of l.around) (view.items_of l.rest)) (scope_of l.scope))

abbrev pub invariant-switches::groups_at-loop-rest : goal.invariant-switches::groups_at-loop-rest
invariant-switches::groups_at-loop-rest l =
    (size-Groups l.rest ≤ size-Groups l.fn.groups)
    × Finds l.seen.known l.seen.labels.values.items
    × (rules.groups (around_of l.fn.around) (int_type_of l.fn.ty) rules.no_labels (view.groups_of l.fn.groups) (scope_of l.fn.scope) ≡ in_groups l.typed.items (rules.groups (around_of l.around) (int_type_of l.ty) (labels_of l.seen.labels) (view.groups_of l.rest)) (scope_of l.scope))
