-- Where a value is no constant, or its name isn't free, the first one is further on.
use Rattle.std.proofs.Common.{rules, ◌≡◌, false, ◌&&◌, ◌∷◌, string_bytes}
use Rattle.expression_lang.specs.CodeExpression.{exp_of}
use Rattle.monad_lang.specs.CodeProgram.{mon_of}
use Rattle.monad_lang.specs.Names.{is_free}
use Rattle.polish.specs.Polished.{is_literal}
use Rattle.polish.proofs.Passing.{constant_further}
use Rattle.polish.proofs.putting.first_constant.Goals as goal
use Rattle.polish.proofs.putting.first_constant.Goals.{else-is_literal-via-then-is_literal+else-is_free, else-is_literal-via-else-is_literal}

pub along-preserved : goal.along-preserved
along-preserved c =
    let value = c.in-Some.value.now in
    let name = c.in-Some-split_first.name.now in
    let values : c.along.left.now ≡ value ∷ c.in-Some.others.now = search rules in
    let names : c.along.right.now ≡ name ∷ c.in-Some-split_first.after.now = search rules in
    let none : (is_literal (exp_of value) && is_free (string_bytes name) (mon_of c.args.rest.now)) ≡ false =
    elim c.else-is_literal.branch [ else-is_literal-via-then-is_literal+else-is_free w ↦ search rules | else-is_literal-via-else-is_literal w ↦ search rules ] in
    constant_further string_bytes exp_of c.args.values.now c.args.names.now (mon_of c.args.rest.now) c.along.left.now
    c.in-Some.others.now c.along.right.now c.in-Some-split_first.after.now value name values names c.along.invariant none
