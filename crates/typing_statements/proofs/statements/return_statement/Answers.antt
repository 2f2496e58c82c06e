-- The rule of the `return`, behind its operand.
use Rattle.std.specs.Option.{option_map}
use Rattle.c_grammar.specs.CodeTree.{rhs_of}
use Rattle.c_values.specs.CodeTypes.{type_of}
use Rattle.typing_rules.specs.Checked.{rule}
use Rattle.typing_rules.specs.Statements.{optional_right, returns as returned}
use Rattle.c_lang.specs.CodeTyped.{statement_of}
use Rattle.typing_statements.specs.CodeCalls.{right_of}
use Rattle.typing_scope.specs.CodeScope.{scope_of}
use Rattle.typing_expressions.proofs.Steps.{answers_behind, node_answers}
use Rattle.typing_statements.proofs.statements.return_statement.Goals as goal

pub returns : goal.returns
returns c =
    let behind = scope_of c.optional_right.new.scope in
    let result = option_map type_of c.args.around.result.now in
    let source = option_map right_of c.in_ok-source.source in
    answers_behind statement_of behind c.at_node.result
    (optional_right (option_map rhs_of c.args.source.now) (scope_of c.args.scope.now)) source behind
    (λ a. rule c.args.at (λ s. returned s.layout result a))
    c.in_ok-source.ensures
    (node_answers statement_of c.args.at behind c.returns.result c.at_node.result (returned behind.layout result source) c.returns.ensures c.at_node.ensures)
