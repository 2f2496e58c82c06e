-- The expression is typed and has a value, and its conversions are noted.
use Rattle.std.proofs.Common.{ap, sym, ◌∙◌}
use Rattle.std.specs.Prelude.{is_some, not}
use Rattle.c_grammar.specs.CodeTree.{exp_of}
use Rattle.typing_rules.specs.declared.fault.TypeKind.TheVariants.{Mismatch}
use Rattle.typing_rules.specs.Expressions.{note}
use Rattle.c_lang.specs.CodeTyped.{expr_of}
use Rattle.typing_scope.specs.CodeScope.{scope_of}
use Rattle.typing_declarations.proofs.KeptConstants.{constant_kept, not_refused}
use Rattle.typing_declarations.proofs.globals.constant_expression.Goals as goal

pub returns : goal.returns
returns c =
    let t = scope_of c.value.new.scope in
    constant_kept (exp_of c.args.e.now) (expr_of c.in_ok-typed.typed) (scope_of c.args.scope.now) t (scope_of c.note.new.self) c.in_ok-typed.ensures
    (sym (ap is_some c.constant_value.ensures)
    ∙ c.is_none.ensures
    ∙ ap not (not_refused c.is_none.result Mismatch c.refuse.result c.in_ok-at_node.field-0 c.refuse.ensures c.in_ok-at_node.ensures))
    (c.note.ensures ∙ ap (λ b. note b t) c.has_cast.ensures)
