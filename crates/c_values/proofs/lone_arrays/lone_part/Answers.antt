use Rattle.std.proofs.Common.{[], ◌∷◌, ◌∙◌, refl}
use Rattle.c_values.proofs.Listed.{parts_listed}
use Rattle.c_values.proofs.lone_arrays.lone_part.Goals as goal

pub returns : goal.returns
returns c = parts_listed c.push.new.self (c.args.part ∷ []) (c.in_ok-push.ensures.items ∙ rw c.new-parts.ensures.items refl)
