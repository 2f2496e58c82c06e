use Rattle.std.proofs.Common.{rules, ◌≡◌, ◌++◌, ◌∷◌, [], ◌∙◌}
use Rattle.expression_lang.specs.CodeExpression.{exp_of}
use Rattle.simpl_lang.specs.CodeCommand.{condition_of}
use Rattle.local_lift.proofs.ListLaws.{conj_of_last, before_of_last}
use Rattle.local_lift.proofs.lists.conjunction.Goals as goal

pub back-init : goal.back-init
back-init c =
    let e : c.args.conditions.now ≡ c.in-Some.first.now ++ c.in-Some.last.now ∷ [] = search rules in
    conj_of_last condition_of c.args.conditions.now c.in-Some.first.now c.in-Some.last.now (exp_of c.in_ok-whole.whole.value) e c.in_ok-whole.ensures

pub back-preserved : goal.back-preserved
back-preserved c =
    let e : c.back.rest.now ≡ c.in-Some-split_last.others.now ++ c.in-Some-split_last.condition.now ∷ [] = search rules in
    before_of_last condition_of c.back.rest.now c.in-Some-split_last.others.now c.in-Some-split_last.condition.now (exp_of c.in_ok-whole-2.whole.value) (exp_of c.back.whole.value) e c.in_ok-whole-2.ensures
    ∙ c.back.invariant
