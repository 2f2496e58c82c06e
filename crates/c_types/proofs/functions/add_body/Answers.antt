-- The functions that had a body are one more.
use Rattle.std.proofs.Common.{ap}
use Rattle.typing_scope.specs.CodeScope.{file_of, scope_of}
use Rattle.c_types.proofs.functions.add_body.Goals as goal

pub returns : goal.returns
returns c =
    ap
    (λ f. record (scope_of c.args.scope.now) { file = record (file_of c.args.scope.now.file) { with_body_so_far = f } })
    c.in_ok-note.ensures
