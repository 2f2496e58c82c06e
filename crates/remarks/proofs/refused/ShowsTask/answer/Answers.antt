use Rattle.c_values.specs.CodeTypes as types
use Rattle.c_lang.specs.CodeTyped.{unit_of}
use Rattle.text_answers.proofs.WellTyped.{well_typed}
use Rattle.remarks.proofs.refused.ShowsTask.answer.Goals as goal

pub refused_part-requires : goal.refused_part-requires
refused_part-requires c = record { typed = well_typed (types.target_of c.args.self.now.target) (unit_of c.args.unit) c.requires }
