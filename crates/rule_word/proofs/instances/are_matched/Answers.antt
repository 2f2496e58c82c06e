-- As many of each, or not.
use Rattle.std.proofs.Common.{map, length}
use Rattle.expression_lang.specs.CodeExpression.{exp_of, kind_of}
use Rattle.rule_word.proofs.AskedPrograms.{as_many, others, map_count}
use Rattle.rule_word.proofs.instances.are_matched.Goals as goal

pub returns-then-exps-kinds : goal.returns-then-exps-kinds
returns-then-exps-kinds c =
    as_many (map exp_of c.args.exps.now) (map kind_of c.args.kinds.now) (map exp_of c.args.others.now) (length c.args.exps.now) (length c.args.kinds.now) (length c.args.others.now)
    (map_count exp_of c.args.exps.now) (map_count kind_of c.args.kinds.now) (map_count exp_of c.args.others.now) c.if-exps-kinds.true

pub returns-else-exps-kinds : goal.returns-else-exps-kinds
returns-else-exps-kinds c =
    others (map exp_of c.args.exps.now) (map kind_of c.args.kinds.now) (map exp_of c.args.others.now) (length c.args.exps.now) (length c.args.kinds.now) (length c.args.others.now)
    (map_count exp_of c.args.exps.now) (map_count kind_of c.args.kinds.now) (map_count exp_of c.args.others.now) c.if-exps-kinds.false
