-- The table's entry of a name.
use Rattle.std.proofs.Common.{ap, sym, ◌∙◌}
use Rattle.std.specs.Option.{option_map}
use Rattle.typing_declarations.specs.CodeGlobals.{global_at}
use Rattle.typing_declarations.proofs.GlobalsSoFar.{named_global}
use Rattle.typing_declarations.proofs.globals.global_so_far.Goals as goal

pub returns : goal.returns
returns c =
    ap (option_map (global_at c.args.name.now)) c.get.ensures.value ∙ sym (named_global c.args.scope.now.file.globals.entries c.args.name.now)
