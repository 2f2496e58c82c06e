-- The address is between them.
use Rattle.std.proofs.Common.{ap}
use Rattle.expression_lang.specs.CodeExpression.{exp_of}
use Rattle.assertion_walks.proofs.typed_places.type_and_path.Goals as goal

pub returns-in-Read-clause-some : goal.returns-in-Read-clause-some
returns-in-Read-clause-some c = (exp_of c.in-Read.field-1.value, ap (λ e. exp_of e) c.in-Read.is)
