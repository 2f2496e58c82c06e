-- The conditions before hold.
use Rattle.std.proofs.Common.{◌≡◌, length, map}
use Rattle.simpl_lang.specs.CodeCommand.{condition_of}
use Rattle.command_runs.specs.Guarded.{first_broken}
use Rattle.command_runs.specs.CodeRun.{machine_in, HaveTruthsIn}
use Rattle.command_runs.proofs.frame.Frame.broken.Given as goal

abbrev pub invariant-conditions : goal.invariant-conditions
invariant-conditions l =
    let m = machine_in l.self l.locals.items l.state in
    record {
      same : first_broken l.self.unit.now.layout m (map condition_of l.rest) ≡ first_broken l.self.unit.now.layout m (map condition_of l.conditions);
      sorted : HaveTruthsIn l.self (map condition_of l.rest);
    }

abbrev pub decreases-conditions : goal.decreases-conditions
decreases-conditions l = length l.rest
