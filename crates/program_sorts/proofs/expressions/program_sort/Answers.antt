-- The sort is one of an expression.
use Rattle.std.specs.Option.{option_map}
use Rattle.expression_lang.specs.CodeExpression.{exp_of}
use Rattle.expression_lang.specs.CodeSort.{sort_value, scope_by}
use Rattle.program_sorts.proofs.WholeParts.{sort_whole}
use Rattle.program_sorts.proofs.expressions.program_sort.Goals as goal

pub returns-else-any-clause-whole : goal.returns-else-any-clause-whole
returns-else-any-clause-whole g c =
    sort_whole (scope_by c.args.l.now (g.N.Scope.scalars c.args.names.now) c.args.globals.now) (exp_of c.args.e.now) (option_map sort_value c.sort_of.result) c.target.ensures.layout c.sort_of.ensures
