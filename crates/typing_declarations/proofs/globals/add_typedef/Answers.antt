-- A table that is updated at a name.
use Rattle.std.proofs.Common.{ap, refl, string_bytes}
use Rattle.c_values.specs.CodeTypes.{type_of}
use Rattle.typing_scope.specs.CodeScope.{scope_of}
use Rattle.typing_scope.proofs.Tables.{seen_declared}
use Rattle.typing_declarations.proofs.globals.add_typedef.Goals as goal

pub returns : goal.returns
returns c =
    ap
    (λ f. record (scope_of c.args.scope.now) { typedefs = f })
    (seen_declared type_of c.args.scope.now.typedefs c.insert.new.self c.args.head.name c.args.head.ty (string_bytes c.args.head.name) refl c.in_ok-insert.ensures.updates)
