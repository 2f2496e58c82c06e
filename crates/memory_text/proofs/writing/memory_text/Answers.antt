-- What is spelt from nothing on is the text of the memory's tree.
use Rattle.std.proofs.Common.{ap, ◌∙◌}
use Rattle.ac_sx.specs.Writing.{written}
use Rattle.ac_sx.specs.CodeSpeller.{spelling_out}
use Rattle.memory_text.specs.MemoryText.{memory_tree}
use Rattle.memory_text.specs.CodeMemory.{memory_of}
use Rattle.memory_text.proofs.writing.memory_text.Goals as goal

pub returns : goal.returns
returns c =
    let tree = memory_tree (memory_of c.args.memory.now) in
    c.finish.ensures tree (c.in_ok-memory_into.ensures ∙ ap (λ s. written spelling_out s tree) c.new-text.ensures)
