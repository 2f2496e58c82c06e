-- The entry of its name, or one behind the others.
use Rattle.std.proofs.Common.{map, ap, ◌∙◌}
use Rattle.typing_scope.specs.CodeScope.{global_of}
use Rattle.typing_declarations.proofs.GlobalsSoFar.{put_behind}
use Rattle.typing_declarations.proofs.globals.put.Goals as goal

pub returns : goal.returns
returns c =
    ap (map global_of) c.in_ok-insert.ensures.entries ∙ put_behind c.args.globals.now.entries c.args.name c.args.global
