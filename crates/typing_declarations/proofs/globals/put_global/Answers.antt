-- The globals alone are others.
use Rattle.std.proofs.Common.{ap}
use Rattle.typing_scope.specs.CodeScope.{file_of, scope_of}
use Rattle.typing_declarations.proofs.globals.put_global.Goals as goal

pub returns : goal.returns
returns c =
    ap
    (λ gs. record (scope_of c.args.scope.now) { file = record (file_of c.args.scope.now.file) { globals = gs } })
    c.in_ok-put.ensures
