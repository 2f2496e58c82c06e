-- Where a value can't be put in, the first one is further on.
use Rattle.std.proofs.Common.{rules, ◌≡◌, ◌-◌, false, ◌∷◌, ◌++◌, map, length, take, string_bytes, sym, ap, ◌∙◌}
use Rattle.expression_lang.specs.CodeExpression.{exp_of}
use Rattle.monad_lang.specs.CodeProgram.{mon_of}
use Rattle.monad_lang.specs.Form.{can_be_put}
use Rattle.polish.proofs.Passing.{put_further}
use Rattle.polish.proofs.putting.first_put.Goals as goal

pub along-preserved : goal.along-preserved
along-preserved c =
    let value = c.in-Some.value.now in
    let name = c.in-Some-split_first.name.now in
    let after = c.in-Some-split_first.after.now in
    let n = mon_of c.args.rest.now in
    let values : c.along.left.now ≡ value ∷ c.in-Some.others.now = search rules in
    let names : c.along.right.now ≡ name ∷ after = search rules in
    let before = take (length c.args.names.now - length c.along.right.now) c.args.names.now in
    let none : can_be_put (exp_of value) (string_bytes name) (map string_bytes before ++ map string_bytes after) n ≡ false =
    ap (λ y. can_be_put (exp_of value) y (map string_bytes before ++ map string_bytes after) n) (sym c.deref.ensures)
    ∙ sym c.if-can_be_put.ensures in
    put_further string_bytes exp_of c.args.values.now c.args.names.now n c.along.left.now c.in-Some.others.now
    c.along.right.now after value name values names c.along.invariant none
