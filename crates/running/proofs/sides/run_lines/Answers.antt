-- The lines of both sides stand one behind the other.
use Rattle.std.proofs.Common.{subst}
use Rattle.run_lines.specs.CodeEnds.{verdict_of}
use Rattle.running.specs.CodeRuns.{CSide}
use Rattle.running.proofs.BothSides.{both_run}
use Rattle.running.proofs.sides.run_lines.Goals as goal

pub returns : goal.returns
returns c = λ d a.
    let s = c.args.start in
    let first = subst (λ before. CSide s before c.c_side.new.lines.items c.in_ok-c.c) c.new-lines.ensures.items c.in_ok-c.ensures in
    both_run s c.requires.start c.args.certificate.now d c.args.accepted.now a c.c_side.new.lines.items c.program_side.new.lines.items
    c.write_verdict.new.lines.items c.in_ok-c.c c.in_ok-program.program (verdict_of c.verdict.result) first (c.in_ok-program.ensures d a) c.verdict.ensures
    c.in_ok-write_verdict.ensures
