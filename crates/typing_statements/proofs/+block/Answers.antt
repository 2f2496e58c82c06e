-- Statements by their parts.
use Rattle.std.proofs.Common.{◌≡◌, ℕ, List, [], ◌∷◌, ◌++◌, map, refl, ap, sym, subst, ◌∙◌}
use Rattle.std.proofs.lemmas.List.{map-append}
use Rattle.std.proofs.lemmas.Result.{err_from_is_err_and}
use Rattle.std.specs.Option.{option_map}
use Rattle.std.specs.Prelude.{Result}
use Rattle.c_grammar.specs.Tree as tree
use Rattle.c_grammar.specs.CodeTree.{exp_of, groups_of as plain_groups_of, items_of, label_of, local_of, simple_of, start_of, stmt_of}
use Rattle.c_grammar.specs.declared.tree.Stmt.{Stmt}
use Rattle.c_grammar.specs.declared.tree.Items.{Items}
use Rattle.c_grammar.specs.declared.tree.Groups.{Groups}
use Rattle.c_grammar.specs.declared.tree.Label.{Label}
use Rattle.c_values.specs.CodeTypes.{int_type_of}
use Rattle.typing_rules.specs.declared.rulings.Refusal.{Refusal}
use Rattle.typing_rules.specs.CodeAnswers.{Answers, IsFaultOf, RulesAs}
use Rattle.typing_rules.specs.Checked.{Good, ruled, pure, ◌>>=◌}
use Rattle.typing_rules.specs.Statements.{Around, ends_by_jump, groups, inside_loop, is_jump, is_last, items, label_at, labels, loop_tested, no_labels, separate, statement}
use Rattle.typing_rules.specs.Locals.{local}
use Rattle.c_lang.specs.Typed as C
use Rattle.c_lang.specs.CodeTyped.{statement_of, statements_of, test_of}
use Rattle.typing_statements.specs.CodeLabels.{joined, labels_of}
use Rattle.typing_scope.specs.CodeScope.{scope_of}
use Rattle.typing_statements.specs.CodeStatements.{around_of, group_listed, in_groups}
use Rattle.typing_expressions.specs.CodeBehind.{behind}
use Rattle.typing_statements.specs.declared.switches.Group.{Group}
use Rattle.typing_statements.proofs.ForStatement.{step_fault, body_fault, for_good}
use Rattle.typing_statements.proofs.DepthOfTheRest.{behind_group, behind_local, behind_statement}
use Rattle.typing_statements.proofs.Groups.{end_fault, labels_fault, one_group_more, statements_fault}
use Rattle.typing_expressions.proofs.Steps.{fault_along, fault_behind, node_bad, node_good, one_behind, part_behind}
use Rattle.typing_statements.proofs.+block.Goals as goal

-- the rule of a group's end, at what its references lead to
separate_at : (result : Result (Unit {0}) Refusal) (g h : Groups) (first s : Stmt) (more is : Items) → g ≡ h → first ≡ s → more ≡ is →
    ((ss : List C.Statement) → RulesAs (λ (u : Unit {0}). ss) result (separate (is_last (plain_groups_of g)) (ends_by_jump (is_jump (stmt_of first)) (items_of more)) ss)) →
    (ss : List C.Statement) → RulesAs (λ (u : Unit {0}). ss) result (separate (is_last (plain_groups_of h)) (ends_by_jump (is_jump (stmt_of s)) (items_of is)) ss)
separate_at result g h first s more is e f k told = λ ss.
    subst (λ (x : Groups). RulesAs (λ (u : Unit {0}). ss) result (separate (is_last (plain_groups_of x)) (ends_by_jump (is_jump (stmt_of s)) (items_of is)) ss)) e
    (subst (λ (x : Stmt). RulesAs (λ (u : Unit {0}). ss) result (separate (is_last (plain_groups_of g)) (ends_by_jump (is_jump (stmt_of x)) (items_of is)) ss)) f
    (subst (λ (x : Items). RulesAs (λ (u : Unit {0}). ss) result (separate (is_last (plain_groups_of g)) (ends_by_jump (is_jump (stmt_of first)) (items_of x)) ss)) k (told ss)))

pub statements::for_statement-returns-in_err-step : goal.statements::for_statement-returns-in_err-step
statements::for_statement-returns-in_err-step t c =
    let fault = c.in_err-step.field-0.0 in
    let p = err_from_is_err_and c.from_residual-in_err-step.result c.from_residual-in_err-step.ensures.1 in
    rw (p.1, p.2)
    (step_fault (around_of c.args.around) c.args.at (start_of c.args.head.start.now) (option_map exp_of c.args.head.test.now) (option_map simple_of c.args.head.step.now) (stmt_of c.args.body.now) (scope_of c.args.scope.now) (scope_of c.open_block.new.self) c.in_ok-open_block.ensures
    (statements_of c.in_ok-start.start) (scope_of c.for_start.new.scope) c.in_ok-start.ensures
    (test_of c.in_ok-test.test) (scope_of c.for_test.new.scope) c.in_ok-test.ensures
    fault c.in_err-step.ensures)

pub statements::for_statement-returns-in_err-body : goal.statements::for_statement-returns-in_err-body
statements::for_statement-returns-in_err-body t c =
    let around = around_of c.args.around in
    let body = stmt_of c.args.body.now in
    let fault = c.in_err-body.field-0.0 in
    let before = scope_of c.for_step.new.scope in
    let within : IsFaultOf fault (statement (inside_loop around) body before) = subst (λ (i : Around). IsFaultOf fault (statement i body before)) c.inside_loop.ensures c.in_err-body.ensures in
    let p = err_from_is_err_and c.from_residual-in_err-body.result c.from_residual-in_err-body.ensures.1 in
    rw (p.1, p.2)
    (body_fault around c.args.at (start_of c.args.head.start.now) (option_map exp_of c.args.head.test.now) (option_map simple_of c.args.head.step.now) body (scope_of c.args.scope.now) (scope_of c.open_block.new.self) c.in_ok-open_block.ensures
    (statements_of c.in_ok-start.start) (scope_of c.for_start.new.scope) c.in_ok-start.ensures
    (test_of c.in_ok-test.test) (scope_of c.for_test.new.scope) c.in_ok-test.ensures
    (statement_of c.in_ok-step.step) before c.in_ok-step.ensures
    fault within)

pub statements::for_statement-returns : goal.statements::for_statement-returns
statements::for_statement-returns t c =
    let around = around_of c.args.around in
    let body = stmt_of c.args.body.now in
    let before = scope_of c.for_step.new.scope in
    let scope = scope_of c.statement.new.scope in
    let does : statement (inside_loop around) body before ≡ Good (statement_of c.in_ok-body.body, scope) = ap (λ (i : Around). statement i body before) (sym c.inside_loop.ensures) ∙ c.in_ok-body.ensures in
    for_good around c.args.at (start_of c.args.head.start.now) (option_map exp_of c.args.head.test.now) (option_map simple_of c.args.head.step.now) body (scope_of c.args.scope.now) (scope_of c.open_block.new.self) c.in_ok-open_block.ensures
    (statements_of c.in_ok-start.start) (scope_of c.for_start.new.scope) c.in_ok-start.ensures
    (test_of c.in_ok-test.test) (scope_of c.for_test.new.scope) c.in_ok-test.ensures
    (statement_of c.in_ok-step.step) before c.in_ok-step.ensures
    (statement_of c.in_ok-body.body) scope does
    (statement_of c.in_ok-repeated.repeated) (scope_of c.close_block.new.self)
    (node_good statement_of c.args.at scope c.repeated.result c.in_ok-repeated.repeated
    (loop_tested (test_of c.in_ok-test.test) (C.For (statements_of c.in_ok-start.start) (test_of c.in_ok-test.test) (statement_of c.in_ok-step.step) (statement_of c.in_ok-body.body)))
    c.repeated.ensures c.in_ok-repeated.ensures)
    c.close_block.ensures

pub statements::statement-returns-in-For : goal.statements::statement-returns-in-For
statements::statement-returns-in-For t c =
    let around = around_of c.args.around in
    let before = scope_of c.args.scope.now in
    let scope = scope_of c.for_statement.new.scope in
    subst (λ (s : Stmt). Answers statement_of scope c.for_statement.result (statement around (stmt_of s) before)) (sym c.in-For.is)
    (subst
    (λ (b : Stmt). Answers statement_of scope c.for_statement.result (statement around (tree.For c.in-For.at (start_of c.in-For.start) (option_map exp_of c.in-For.test) (option_map simple_of c.in-For.step) (stmt_of b)) before))
    c.deref-in-For.ensures c.for_statement.ensures)

pub switches::groups_at-returns-in_err-labels : goal.switches::groups_at-returns-in_err-labels
switches::groups_at-returns-in_err-labels t c =
    let around = around_of c.args.around in
    let ty = int_type_of c.args.ty in
    let seen = labels_of c.loop-rest.seen.labels in
    let label = label_of c.in-More.label in
    let before = scope_of c.loop-rest.scope in
    let fault = c.in_err-labels.field-0.0 in
    let told : IsFaultOf fault (joined seen no_labels (labels ty seen (label ∷ map label_of c.in-More.others.items)) before) =
    subst (λ (ls : List Label). IsFaultOf fault (joined seen no_labels (labels ty seen (label ∷ map label_of ls)) before)) c.as_slice.ensures.value c.in_err-labels.ensures.answers in
    let p = err_from_is_err_and c.from_residual.result c.from_residual.ensures.1 in
    rw (p.1, p.2)
    (labels_fault (groups around ty no_labels (plain_groups_of c.args.groups.now) (scope_of c.args.scope.now)) around ty seen label (map label_of c.in-More.others.items) (stmt_of c.in-More.first.value) (items_of c.in-More.more.value) (plain_groups_of c.in-More.groups.value) (plain_groups_of c.loop-rest.rest.now)
    c.loop-rest.typed.items before c.loop-rest.invariant.2 (ap plain_groups_of c.in-More.is) fault told)

pub switches::groups_at-returns-in_err-statements : goal.switches::groups_at-returns-in_err-statements
switches::groups_at-returns-in_err-statements t c =
    let around = around_of c.args.around in
    let ty = int_type_of c.args.ty in
    let seen = labels_of c.loop-rest.seen.labels in
    let label = label_of c.in-More.label in
    let before = scope_of c.loop-rest.scope in
    let scope = scope_of c.group_labels.new.scope in
    let all = labels_of c.group_labels.new.seen.labels in
    let found = labels_of c.in_ok-labels.labels in
    let fault = c.in_err-statements.field-0.0 in
    let labelled : joined seen no_labels (labels ty seen (label ∷ map label_of c.in-More.others.items)) before ≡ Good ((all, found), scope) =
    ap (λ (ls : List Label). joined seen no_labels (labels ty seen (label ∷ map label_of ls)) before) (sym c.as_slice.ensures.value) ∙ c.in_ok-labels.ensures.answers in
    let told : IsFaultOf fault (group_listed around (stmt_of c.in-More.first.value) (items_of c.in-More.more.value) scope) =
    subst (λ (s : Stmt). IsFaultOf fault (group_listed around (stmt_of s) (items_of c.in-More.more.value) scope)) c.deref.ensures
    (subst (λ (is : Items). IsFaultOf fault (group_listed around (stmt_of c.deref.result.now) (items_of is) scope)) c.deref-in-More.ensures c.in_err-statements.ensures) in
    let p = err_from_is_err_and c.from_residual-in_err-statements.result c.from_residual-in_err-statements.ensures.1 in
    rw (p.1, p.2)
    (statements_fault (groups around ty no_labels (plain_groups_of c.args.groups.now) (scope_of c.args.scope.now)) around ty seen label (map label_of c.in-More.others.items) (stmt_of c.in-More.first.value) (items_of c.in-More.more.value) (plain_groups_of c.in-More.groups.value) (plain_groups_of c.loop-rest.rest.now)
    c.loop-rest.typed.items before c.loop-rest.invariant.2 (ap plain_groups_of c.in-More.is) scope all found labelled fault told)

pub switches::groups_at-returns-in_err-at_node : goal.switches::groups_at-returns-in_err-at_node
switches::groups_at-returns-in_err-at_node t c =
    let around = around_of c.args.around in
    let ty = int_type_of c.args.ty in
    let seen = labels_of c.loop-rest.seen.labels in
    let label = label_of c.in-More.label in
    let first = c.in-More.first.value in
    let more = c.in-More.more.value in
    let rest = c.in-More.groups.value in
    let before = scope_of c.loop-rest.scope in
    let scope = scope_of c.group_labels.new.scope in
    let end = scope_of c.group_statements.new.scope in
    let all = labels_of c.group_labels.new.seen.labels in
    let found = labels_of c.in_ok-labels.labels in
    let labelled : joined seen no_labels (labels ty seen (label ∷ map label_of c.in-More.others.items)) before ≡ Good ((all, found), scope) =
    ap (λ (ls : List Label). joined seen no_labels (labels ty seen (label ∷ map label_of ls)) before) (sym c.as_slice.ensures.value) ∙ c.in_ok-labels.ensures.answers in
    let list = statements_of c.in_ok-statements.statements in
    let listed : group_listed around (stmt_of first) (items_of more) scope ≡ Good (list, end) =
    ap (λ (s : Stmt). group_listed around (stmt_of s) (items_of more) scope) (sym c.deref.ensures)
    ∙ ap (λ (is : Items). group_listed around (stmt_of c.deref.result.now) (items_of is) scope) (sym c.deref-in-More.ensures)
    ∙ c.in_ok-statements.ensures in
    let rule = separate_at c.is_separate.result c.deref-in-More-2.result.now rest c.deref-in-More-3.result.now first c.deref-in-More-4.result.now more c.deref-in-More-2.ensures c.deref-in-More-3.ensures c.deref-in-More-4.ensures c.is_separate.ensures in
    let jumps = ends_by_jump (is_jump (stmt_of first)) (items_of more) in
    let fault = c.in_err-at_node.field-0.0 in
    let p = err_from_is_err_and c.from_residual-in_err-at_node.result c.from_residual-in_err-at_node.ensures.1 in
    rw (p.1, p.2)
    (end_fault (groups around ty no_labels (plain_groups_of c.args.groups.now) (scope_of c.args.scope.now)) around ty seen label (map label_of c.in-More.others.items) (stmt_of first) (items_of more) (plain_groups_of rest) (plain_groups_of c.loop-rest.rest.now)
    c.loop-rest.typed.items before c.loop-rest.invariant.2 (ap plain_groups_of c.in-More.is) scope all found labelled
    fault end list listed
    (λ ss. subst (λ (at : ℕ). IsFaultOf fault (ruled at end (separate (is_last (plain_groups_of rest)) jumps ss))) c.label_start.ensures
    (node_bad (λ (u : Unit {0}). ss) c.label_start.result end c.is_separate.result fault (separate (is_last (plain_groups_of rest)) jumps ss) (rule ss) c.in_err-at_node.ensures)))

pub switches::groups_at-loop-rest-preserved : goal.switches::groups_at-loop-rest-preserved
switches::groups_at-loop-rest-preserved t c =
    let around = around_of c.args.around in
    let ty = int_type_of c.args.ty in
    let seen = labels_of c.loop-rest.seen.labels in
    let label = label_of c.in-More.label in
    let first = c.in-More.first.value in
    let more = c.in-More.more.value in
    let rest = c.in-More.groups.value in
    let before = scope_of c.loop-rest.scope in
    let scope = scope_of c.group_labels.new.scope in
    let end = scope_of c.group_statements.new.scope in
    let all = labels_of c.group_labels.new.seen.labels in
    let found = labels_of c.in_ok-labels.labels in
    let labelled : joined seen no_labels (labels ty seen (label ∷ map label_of c.in-More.others.items)) before ≡ Good ((all, found), scope) =
    ap (λ (ls : List Label). joined seen no_labels (labels ty seen (label ∷ map label_of ls)) before) (sym c.as_slice.ensures.value) ∙ c.in_ok-labels.ensures.answers in
    let list = statements_of c.in_ok-statements.statements in
    let listed : group_listed around (stmt_of first) (items_of more) scope ≡ Good (list, end) =
    ap (λ (s : Stmt). group_listed around (stmt_of s) (items_of more) scope) (sym c.deref.ensures)
    ∙ ap (λ (is : Items). group_listed around (stmt_of c.deref.result.now) (items_of is) scope) (sym c.deref-in-More.ensures)
    ∙ c.in_ok-statements.ensures in
    let rule = separate_at c.is_separate.result c.deref-in-More-2.result.now rest c.deref-in-More-3.result.now first c.deref-in-More-4.result.now more c.deref-in-More-2.ensures c.deref-in-More-3.ensures c.deref-in-More-4.ensures c.is_separate.ensures in
    let jumps = ends_by_jump (is_jump (stmt_of first)) (items_of more) in
    let g : Group = record { labels = c.in_ok-labels.labels; statements = c.in_ok-statements.statements } in
    let after = scope_of c.hide_locals.new.self in
    let ends : (ss : List C.Statement) → ruled (label_at label) end (separate (is_last (plain_groups_of rest)) jumps ss) ≡ Good (ss, end) =
    λ ss. node_good (λ (u : Unit {0}). ss) (label_at label) end c.is_separate.result c.in_ok-at_node.field-0 (separate (is_last (plain_groups_of rest)) jumps ss) (rule ss) c.in_ok-at_node.ensures in (
      behind_group c.loop-rest.rest.now c.args.groups.now c.deref-rest.result.now c.in-More.label c.in-More.others c.in-More.first c.in-More.more c.in-More.groups c.in-More.is c.deref-rest.ensures c.loop-rest.invariant.0,
      c.in_ok-labels.ensures.finds,
      one_group_more (groups around ty no_labels (plain_groups_of c.args.groups.now) (scope_of c.args.scope.now)) around ty seen label (map label_of c.in-More.others.items) (stmt_of first) (items_of more) (plain_groups_of rest) (plain_groups_of c.loop-rest.rest.now)
          c.loop-rest.typed.items before c.loop-rest.invariant.2 (ap plain_groups_of c.in-More.is) scope all found labelled
          g end after refl listed ends c.hide_locals.ensures
          ∙ ap (λ (x : Groups). in_groups (c.loop-rest.typed.items ++ (g ∷ [])) (groups around ty all (plain_groups_of x)) after) (sym c.deref-rest.ensures)
          ∙ ap (λ (xs : List Group). in_groups xs (groups around ty all (plain_groups_of c.deref-rest.result.now)) after) (sym c.in_ok-push.ensures.items),
    )

pub switches::groups_at-returns : goal.switches::groups_at-returns
switches::groups_at-returns t c =
    let around = around_of c.args.around in
    let ty = int_type_of c.args.ty in
    let seen = labels_of c.loop-rest.seen.labels in
    let scope = scope_of c.loop-rest.scope in
    c.loop-rest.invariant.2
    ∙ ap (λ (r : Groups). in_groups c.loop-rest.typed.items (groups around ty seen (plain_groups_of r)) scope) c.in_default.is
    ∙ ap (λ (x : C.Groups). Good (x, scope)) (sym c.in_ok-grouped.ensures)

pub statements::more_items-returns-in_err-local-in-Local : goal.statements::more_items-returns-in_err-local-in-Local
statements::more_items-returns-in_err-local-in-Local t c =
    let around = around_of c.args.around in
    let so_far = map statement_of c.loop-rest.statements.items in
    let before = scope_of c.loop-rest.scope in
    let fault = c.in_err-local-in-Local.field-0.0 in
    let whole = behind (map statement_of c.args.statements.now.items) (items around (items_of c.args.items.now)) (scope_of c.args.scope.now) in
    let p = err_from_is_err_and c.from_residual.result c.from_residual.ensures.1 in
    rw (p.1, p.2)
    (fault_along fault whole (behind so_far (items around (tree.LocalItem (local_of c.in-Local.l) (items_of c.in-Local.others.value))) before)
    (c.loop-rest.invariant.1 ∙ ap (λ (is : Items). behind so_far (items around (items_of is)) before) c.in-Local.is)
    (fault_behind fault so_far (local (local_of c.in-Local.l)) (λ xs. items around (items_of c.in-Local.others.value) >>= λ ys. pure (xs ++ ys)) before c.in_err-local-in-Local.ensures))

pub statements::more_items-loop-rest-preserved-in-Local : goal.statements::more_items-loop-rest-preserved-in-Local
statements::more_items-loop-rest-preserved-in-Local t c =
    let around = around_of c.args.around in
    let so_far = map statement_of c.loop-rest.statements.items in
    let found = map statement_of c.local.new.statements.items in
    let before = scope_of c.loop-rest.scope in
    let after = scope_of c.local.new.scope in (
      behind_local c.loop-rest.rest.now c.args.items.now c.deref-rest.result.now c.in-Local.l c.in-Local.others c.in-Local.is c.deref-rest.ensures c.loop-rest.invariant.0,
      c.loop-rest.invariant.1
          ∙ ap (λ (is : Items). behind so_far (items around (items_of is)) before) c.in-Local.is
          ∙ part_behind so_far found (local (local_of c.in-Local.l)) (items around (items_of c.in-Local.others.value)) before after c.in_ok-local-in-Local.ensures
          ∙ ap (λ (is : Items). behind found (items around (items_of is)) after) (sym c.deref-rest.ensures),
    )

pub statements::more_items-loop-rest-preserved : goal.statements::more_items-loop-rest-preserved
statements::more_items-loop-rest-preserved t c =
    let around = around_of c.args.around in
    let so_far = c.loop-rest.statements.items in
    let next = c.in_ok-statement-in-Statement.field-0 in
    let before = scope_of c.loop-rest.scope in
    let after = scope_of c.statement.new.scope in
    let does : statement around (stmt_of c.in-Statement.stmt.value) before ≡ Good (statement_of next, after) =
    ap (λ (s : Stmt). statement around (stmt_of s) before) (sym c.deref.ensures) ∙ c.in_ok-statement-in-Statement.ensures in
    let pushed : map statement_of c.push.new.self.items ≡ map statement_of so_far ++ (statement_of next ∷ []) =
    ap (map statement_of) c.in_ok-push-in-Statement.ensures.items ∙ map-append statement_of so_far (next ∷ []) in (
      behind_statement c.loop-rest.rest.now c.args.items.now c.deref-rest-in-Statement.result.now c.in-Statement.stmt c.in-Statement.others c.in-Statement.is c.deref-rest-in-Statement.ensures c.loop-rest.invariant.0,
      c.loop-rest.invariant.1
          ∙ ap (λ (is : Items). behind (map statement_of so_far) (items around (items_of is)) before) c.in-Statement.is
          ∙ one_behind (map statement_of so_far) (statement_of next) (statement around (stmt_of c.in-Statement.stmt.value)) (items around (items_of c.in-Statement.others.value)) before after does
          ∙ ap (λ (is : Items). behind (map statement_of so_far ++ (statement_of next ∷ [])) (items around (items_of is)) after) (sym c.deref-rest-in-Statement.ensures)
          ∙ ap (λ (xs : List C.Statement). behind xs (items around (items_of c.deref-rest-in-Statement.result.now)) after) (sym pushed),
    )
