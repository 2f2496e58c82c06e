use Rattle.std.proofs.Common.{ap, ◌∙◌}
use Rattle.c_values.specs.Name.{same_name}
use Rattle.run_start.proofs.Found.{found_at}
use Rattle.run_start.proofs.functions.position_of.Goals as goal

pub returns-then-eq-clause-found : goal.returns-then-eq-clause-found
returns-then-eq-clause-found c =
    found_at c.args.functions.now c.functions.k c.index-functions-k.result c.args.name.now c.functions-test.true c.index-functions-k.is
    (c.if-eq.ensures ∙ ap (λ n. same_name n c.args.name.now) c.as_str.ensures.value) c.functions.invariant
