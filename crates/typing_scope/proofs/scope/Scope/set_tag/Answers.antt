-- A table that is updated at a tag.
use Rattle.std.proofs.Common.{ap}
use Rattle.typing_scope.specs.CodeScope.{scope_of, tag_of}
use Rattle.typing_scope.proofs.Tables.{seen_declared}
use Rattle.typing_scope.proofs.scope.Scope.set_tag.Goals as goal

pub returns : goal.returns
returns c =
    ap
    (λ f. record (scope_of c.args.self.now) { tags = f })
    (seen_declared tag_of c.args.self.now.tags c.insert.new.self c.in_ok-name.name c.args.kind c.args.tag.now c.in_ok-name.ensures.ok c.in_ok-insert.ensures.updates)
