-- Each function has a level, and so each is generated.
use Rattle.std.proofs.Common.{arith}
use Rattle.std.proofs.lemmas.List.{length-map}
use Rattle.std.proofs.lemmas.Result.{IfOk-weaker}
use Rattle.c_lang.specs.CodeTyped.{function_of, unit_of}
use Rattle.c_meaning.specs.CRun.{plain}
use Rattle.running.proofs.CRuns.{as_many}
use Rattle.running.proofs.c_side.plain_unit.Goals as goal

pub generate-requires : goal.generate-requires
generate-requires c =
    let all = as_many (unit_of c.args.unit.now) c.in_ok-modes.modes c.in_ok-modes.ensures in
    let each = length-map c.args.unit.now.functions.items function_of in
    omega (arith, all, each)

pub returns : goal.returns
returns c = IfOk-weaker c.generate.result _ _ (λ u h. h plain c.in_ok-modes.ensures) c.generate.ensures.generated
