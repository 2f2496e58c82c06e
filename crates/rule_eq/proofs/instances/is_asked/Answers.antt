-- By the rule of the arm.
use Rattle.std.proofs.Common.{◌↔◌, IsTrue, sym, subst}
use Rattle.monad_lang.specs.CodeProgram.{mon_of}
use Rattle.rule_eq.specs.Table.{row}
use Rattle.rule_eq.specs.CodeRule.{rule_of, point_in}
use Rattle.rule_eq.proofs.instances.is_asked.Goals as goal

pub returns-in-RetOne : goal.returns-in-RetOne
returns-in-RetOne c =
    subst (λ q. IsTrue c.is_ret_one.result ↔ (row (point_in c.args.setting c.args.facts.now c.args.inside.now) (rule_of q) (mon_of c.args.left.now) (mon_of c.args.right.now)).holds)
    (sym c.in-RetOne.is) (c.is_ret_one.ensures (point_in c.args.setting c.args.facts.now c.args.inside.now))

pub returns-in-BindRet : goal.returns-in-BindRet
returns-in-BindRet c =
    subst (λ q. IsTrue c.is_bind_ret.result ↔ (row (point_in c.args.setting c.args.facts.now c.args.inside.now) (rule_of q) (mon_of c.args.left.now) (mon_of c.args.right.now)).holds)
    (sym c.in-BindRet.is) (c.is_bind_ret.ensures (point_in c.args.setting c.args.facts.now c.args.inside.now))

pub returns-in-Assoc : goal.returns-in-Assoc
returns-in-Assoc c =
    subst (λ q. IsTrue c.is_assoc.result ↔ (row (point_in c.args.setting c.args.facts.now c.args.inside.now) (rule_of q) (mon_of c.args.left.now) (mon_of c.args.right.now)).holds)
    (sym c.in-Assoc.is) (c.is_assoc.ensures (point_in c.args.setting c.args.facts.now c.args.inside.now))

pub returns-in-IfConst : goal.returns-in-IfConst
returns-in-IfConst c =
    subst (λ q. IsTrue c.is_if_const.result ↔ (row (point_in c.args.setting c.args.facts.now c.args.inside.now) (rule_of q) (mon_of c.args.left.now) (mon_of c.args.right.now)).holds)
    (sym c.in-IfConst.is) (c.is_if_const.ensures (point_in c.args.setting c.args.facts.now c.args.inside.now))
