-- What is said of a refused text shows the place of its fault.
use Rattle.std.proofs.Common.{◌∙◌}
use Rattle.command_line.specs.CodeCommand.{command_in}
use Rattle.remarks.proofs.Placed.{placed_if}
use Rattle.remarks.proofs.calls.remark.Goals as goal

pub returns-in-Some-clause-placed : goal.returns-in-Some-clause-placed
returns-in-Some-clause-placed g c = λ command target file text source asked the_file refused.
    placed_if (λ v. v.items) (g.H.Shelf.contents c.args.shelf.now) (g.H.Shelf.faults c.args.shelf.now) (g.H.Shelf.faults c.of_command.new.shelf) target file text refused
    command (command_in c.in-Some.command) c.args.status (c.in-Some.ensures ∙ asked) source the_file c.of_command.result c.of_command.ensures.remark
