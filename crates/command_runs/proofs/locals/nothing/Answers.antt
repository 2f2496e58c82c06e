use Rattle.std.proofs.Common.{◌∙◌, ap}
use Rattle.c_values.specs.Value.{Parts}
use Rattle.c_values.specs.CodeParts.{values_in}
use Rattle.c_values.proofs.Listed.{parts_value}
use Rattle.command_runs.proofs.locals.nothing.Goals as goal

pub returns : goal.returns
returns c = parts_value c.new.result ∙ ap (λ vs. Parts (values_in vs)) c.new.ensures.items
