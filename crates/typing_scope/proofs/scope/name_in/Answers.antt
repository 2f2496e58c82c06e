-- A table that is updated at a name.
use Rattle.std.proofs.Common.{refl, string_bytes}
use Rattle.typing_scope.specs.CodeScope.{entity_of}
use Rattle.typing_scope.proofs.Tables.{seen_declared}
use Rattle.typing_scope.proofs.scope.name_in.Goals as goal

pub returns : goal.returns
returns c =
    seen_declared entity_of c.args.names.now c.insert.new.self c.args.name c.args.entity (string_bytes c.args.name) refl c.in_ok-insert.ensures.updates
