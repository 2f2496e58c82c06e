use Rattle.text_laws.proofs.ExpTrees.{exp_is_tree}
use Rattle.text_laws.proofs.ProgramTrees.{mon_is_tree, command_is_tree}
use Rattle.text_laws.proofs.laws.programs_have_trees.Goals as goal

pub returns : goal.returns
returns c = record { expressions = exp_is_tree; programs = mon_is_tree; commands = command_is_tree }
