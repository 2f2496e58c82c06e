use Rattle.std.proofs.Common.{ap, ◌∙◌}
use Rattle.ac_sx.specs.Writing.{written}
use Rattle.ac_sx.specs.CodeSpeller.{spelling_out}
use Rattle.monad_lang.specs.CodeProgram.{final_unit_of}
use Rattle.unit_text.specs.UnitText.{unit_tree}
use Rattle.unit_text.proofs.writing.write_program.Goals as goal

pub returns : goal.returns
returns c =
    let tree = unit_tree (final_unit_of c.args.unit.now) in
    c.finish.ensures tree (c.in_ok-unit_into.ensures ∙ ap (λ s. written spelling_out s tree) c.new-text.ensures)
