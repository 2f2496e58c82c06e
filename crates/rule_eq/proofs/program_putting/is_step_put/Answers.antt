-- What is written, and where.
use Rattle.std.proofs.Common.{ap}
use Rattle.expression_lang.specs.CodeExpression.{exp_of}
use Rattle.monad_lang.specs.CodeProgram.{place_of, mon_of}
use Rattle.rule_eq.proofs.ProgramPutting.{write_iff}
use Rattle.rule_eq.proofs.program_putting.is_step_put.Goals as goal

pub returns-in-Write-right : goal.returns-in-Write-right
returns-in-Write-right c =
    let same = write_iff c.args.name.now (exp_of c.args.value.now) (place_of c.in-Write.place) (place_of c.in-Write-right.other_place)
    (exp_of c.in-Write.e) (exp_of c.in-Write-right.other) (mon_of c.args.m.now) (mon_of c.args.right.now)
    (ap mon_of c.in-Write.is) (ap mon_of c.in-Write-right.is) in
    ((λ yes. same.0 (c.is_write_put.ensures.0 yes)), (λ so. c.is_write_put.ensures.1 (same.1 so)))
