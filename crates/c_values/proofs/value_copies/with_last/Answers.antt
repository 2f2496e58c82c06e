-- The parts of the whole are the front and the last one.
use Rattle.std.proofs.Common.{◌∙◌, ap}
use Rattle.c_values.specs.Value.{Parts}
use Rattle.c_values.proofs.Listed.{parts_listed}
use Rattle.c_values.proofs.Joined.{values_in-push}
use Rattle.c_values.proofs.value_copies.with_last.Goals as goal

pub returns : goal.returns
returns c = parts_listed c.push.new.self _ c.in_ok-push.ensures.items ∙ ap (λ vs. Parts vs) (values_in-push c.args.front.items c.args.last)
