-- As many of each, or not.
use Rattle.std.proofs.Common.{map, length, ◌∙◌}
use Rattle.expression_lang.specs.CodeExpression.{exp_of}
use Rattle.expression_lang.specs.Signature.{kinds_of}
use Rattle.expression_lang.specs.CodeSignature.{binder_of}
use Rattle.rule_word.proofs.AskedPrograms.{as_many, others, map_count, kind_count}
use Rattle.rule_word.proofs.instances.are_arguments.Goals as goal

pub returns-then-exps-params : goal.returns-then-exps-params
returns-then-exps-params c =
    as_many (map exp_of c.args.exps.now) (kinds_of (map binder_of c.args.params.now)) (map exp_of c.args.others.now) (length c.args.exps.now) (length c.args.params.now) (length c.args.others.now)
    (map_count exp_of c.args.exps.now) (kind_count (map binder_of c.args.params.now) ∙ map_count binder_of c.args.params.now) (map_count exp_of c.args.others.now) c.if-exps-params.true

pub returns-else-exps-params : goal.returns-else-exps-params
returns-else-exps-params c =
    others (map exp_of c.args.exps.now) (kinds_of (map binder_of c.args.params.now)) (map exp_of c.args.others.now) (length c.args.exps.now) (length c.args.params.now) (length c.args.others.now)
    (map_count exp_of c.args.exps.now) (kind_count (map binder_of c.args.params.now) ∙ map_count binder_of c.args.params.now) (map_count exp_of c.args.others.now) c.if-exps-params.false
