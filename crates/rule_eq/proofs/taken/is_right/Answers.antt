-- Whether other values are left.
use Rattle.std.proofs.Common.{◌≡◌, map, length, string_bytes, arith}
use Rattle.std.proofs.lemmas.List.{length-map}
use Rattle.expression_lang.specs.CodeExpression.{exp_of}
use Rattle.monad_lang.specs.CodeProgram.{mon_of}
use Rattle.program_facts.specs.Substituted.{program_substituted}
use Rattle.rule_eq.specs.CodeTaken.{without}
use Rattle.rule_eq.proofs.Taking.{alone_iff, others_iff}
use Rattle.rule_eq.proofs.taken.is_right.Goals as goal

pub returns-then-values-eq1 : goal.returns-then-values-eq1
returns-then-values-eq1 c =
    let count : length (map exp_of c.args.values.now) ≡ 1 = omega (arith, length-map c.args.values.now exp_of) in
    let same = alone_iff c.args.position (map exp_of c.args.values.now) (exp_of c.args.value.now) (without c.args.position (map string_bytes c.args.names.now)) (program_substituted c.args.name.now (exp_of c.args.value.now) (mon_of c.args.m.now)) (mon_of c.args.right.now) count c.requires in
    ((λ yes. same.0 (c.is_program_put.ensures.0 yes)), (λ so. c.is_program_put.ensures.1 (same.1 so)))

pub returns-else-values-eq1 : goal.returns-else-values-eq1
returns-else-values-eq1 c =
    let count : length (map exp_of c.args.values.now) ≡ 1 → ⊥ = λ h. omega (arith, length-map c.args.values.now exp_of) in
    let same = others_iff c.args.position (map exp_of c.args.values.now) (exp_of c.args.value.now) (without c.args.position (map string_bytes c.args.names.now)) (program_substituted c.args.name.now (exp_of c.args.value.now) (mon_of c.args.m.now)) (mon_of c.args.right.now) count c.requires in
    ((λ yes. same.0 (c.is_under_others.ensures.0 yes)), (λ so. c.is_under_others.ensures.1 (same.1 so)))
