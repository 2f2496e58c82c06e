use Rattle.std.proofs.Common.{◌≡◌, ◌++◌, OnOk, subst}
use Rattle.run_lines.proofs.Globals.{lines_in_order}
use Rattle.run_lines.proofs.states.global_lines.Goals as goal

pub returns : goal.returns
returns c =
    subst (λ t. OnOk c.each_global_line.result (c.each_global_line.new.lines.items ≡ c.args.lines.now.items ++ t))
    (lines_in_order c.args.who.now c.args.layout.now c.args.globals.now c.args.values.now c.requires.names c.requires.values) c.each_global_line.ensures
