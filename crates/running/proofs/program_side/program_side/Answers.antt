-- The end is one of the certificate's programs.
use Rattle.std.proofs.Common.{subst}
use Rattle.running.specs.CodeRuns.{HasProgramEnd}
use Rattle.running.proofs.program_side.program_side.Goals as goal

pub end_lines-requires-clause-ends : goal.end_lines-requires-clause-ends
end_lines-requires-clause-ends c =
    let (d, a) = c.requires.accepted in
    (d.functions, subst (HasProgramEnd c.args.start d.functions) c.in-Typed.is (c.in_ok-outcome.ensures d a))

pub end_lines-requires-in-Bytes-clause-ends : goal.end_lines-requires-in-Bytes-clause-ends
end_lines-requires-in-Bytes-clause-ends c =
    let (d, a) = c.requires.accepted in
    (d.functions, subst (HasProgramEnd c.args.start d.functions) c.in-Bytes.is (c.in_ok-outcome.ensures d a))

pub returns-in-Typed : goal.returns-in-Typed
returns-in-Typed c = λ d a.
    c.end_lines.ensures d.functions (subst (HasProgramEnd c.args.start d.functions) c.in-Typed.is (c.in_ok-outcome.ensures d a))

pub returns-in-Bytes : goal.returns-in-Bytes
returns-in-Bytes c = λ d a.
    c.end_lines-in-Bytes.ensures d.functions (subst (HasProgramEnd c.args.start d.functions) c.in-Bytes.is (c.in_ok-outcome.ensures d a))
