-- The conditions so far, and those to come, are the whole.
use Rattle.std.proofs.Common.{◌≡◌, ◌++◌, drop, map}
use Rattle.ac_sx.specs.CodeSx.{trees_in}
use Rattle.expression_text.specs.Reading.{made}
use Rattle.expression_text.specs.Lists.{list_at}
use Rattle.simpl_lang.specs.CodeCommand.{condition_of}
use Rattle.command_text.specs.CommandReading.{condition_at}
use Rattle.command_text.proofs.conditions.each_condition_at.Given as goal

abbrev pub invariant-parts : goal.invariant-parts
invariant-parts l = made (λ cs. map condition_of l.conditions.items ++ cs) (list_at condition_at l.at (trees_in (drop l.part-index l.parts))) ≡ list_at condition_at l.fn.at (trees_in l.fn.parts)
