use Rattle.c_values.specs.CodeTypes.{type_of}
use Rattle.memory_text.specs.CodeTypes.{types_in}
use Rattle.run_lines.proofs.Rows.{values_split}
use Rattle.run_lines.proofs.values.Row.split.Goals as goal

pub returns-clause-some : goal.returns-clause-some
returns-clause-some c = λ l.
    values_split l (types_in c.args.self.types) c.args.self.next (type_of c.get.result.now) c.args.self.values.now c.in_ok-value.value.now c.in_ok-value.others.now c.get.ensures c.in_ok-value.ensures.cases.0
