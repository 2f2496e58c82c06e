-- Where there is no global, there is nothing at any path.
use Rattle.std.proofs.Common.{◌∙◌, map, ap, sym}
use Rattle.c_values.specs.Value.{Parts, nothing}
use Rattle.c_values.specs.Path.{sel}
use Rattle.c_memory.specs.CodeStep.{step_of}
use Rattle.c_values.specs.CodeParts.{values_in}
use Rattle.c_values.proofs.Listed.{parts_value}
use Rattle.c_values.proofs.Follow.{sel_nothing}
use Rattle.expression_lang.proofs.environments.global_part.Goals as goal

pub returns-in-None : goal.returns-in-None
returns-in-None c =
    let steps = map step_of c.args.path.now in
    parts_value c.new.result ∙ ap (λ vs. Parts (values_in vs)) c.new.ensures.items ∙ sym (ap (λ v. sel v steps) c.in-None.ensures.none ∙ sel_nothing steps)
