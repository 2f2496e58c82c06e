-- The last block is the innermost.
use Rattle.std.proofs.Common.{ap, rules}
use Rattle.typing_scope.specs.CodeScope.{scope_of}
use Rattle.typing_scope.proofs.InnermostBlock.{last_hidden}
use Rattle.typing_scope.proofs.scope.Scope.hide_locals.Goals as goal

pub returns-in-Some : goal.returns-in-Some
returns-in-Some c =
    ap
    (λ bs. record (scope_of c.args.self.now) { blocks = bs })
    (last_hidden c.args.self.now.blocks.items c.args.self.now.blocks.len c.in-Some.names.now c.hide_all.new.names
    c.args.self.now.blocks.ok.0 (c.in-Some.ensures.variant.0 (search rules)) c.in-Some.ensures.value c.hide_all.ensures)
