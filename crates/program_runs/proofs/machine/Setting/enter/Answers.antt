use Rattle.std.proofs.Common.{rules, ◌≡◌, length}
use Rattle.monad_lang.specs.CodeProgram.{mon_of, final_unit_of}
use Rattle.program_runs.proofs.Stacks.{rest_pushed}
use Rattle.program_runs.proofs.machine.Setting.enter.Goals as goal

pub returns-clause-steps : goal.returns-clause-steps
returns-clause-steps c s out h =
    let same : c.len.result ≡ length c.args.env.now.items = search rules in
    rest_pushed (final_unit_of c.args.self.now.unit.now) c.args.self.now.fill out s c.args.env.now.items c.args.stack.now.items c.push.new.self.items (mon_of c.args.first.now) c.args.names c.args.rest c.len.result c.args.bound same c.in_ok-push.ensures.items h
