use Rattle.std.proofs.Common.{arith, map, subst}
use Rattle.std.proofs.lemmas.Grind.{common_steps}
use Rattle.simpl_lang.specs.CodeCommand.{condition_of}
use Rattle.command_runs.specs.CodeRun.{HaveTruthsIn}
use Rattle.command_runs.proofs.Parts.{first_condition, other_conditions}
use Rattle.command_runs.proofs.frame.Frame.broken.Goals as goal

pub test-requires-clause-sorted : goal.test-requires-clause-sorted
test-requires-clause-sorted c =
    let f = c.args.self.now in
    let k = subst (λ cs. HaveTruthsIn f (map condition_of cs)) c.in-Some.ensures.cases.0 c.conditions.invariant.sorted in
    first_condition f (condition_of c.in-Some.first.now) (map condition_of c.in-Some.others.now) k

pub conditions-preserved : goal.conditions-preserved
conditions-preserved c =
    let f = c.args.self.now in
    let k = subst (λ cs. HaveTruthsIn f (map condition_of cs)) c.in-Some.ensures.cases.0 c.conditions.invariant.sorted in
    record {
      same = grind (arith, common_steps);
      sorted = other_conditions f (condition_of c.in-Some.first.now) (map condition_of c.in-Some.others.now) k;
    }
