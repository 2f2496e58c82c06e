use Rattle.program_facts.proofs.RunsLast.{units_last, formed_units_last, programs_last}
use Rattle.program_facts.proofs.lasting_laws.sorted_units_last.Goals as goal

pub returns : goal.returns
returns c = record { formed = formed_units_last; sorted = units_last; programs = programs_last }
