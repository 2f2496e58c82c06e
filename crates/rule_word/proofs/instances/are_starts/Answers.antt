-- As many of each, or not.
use Rattle.std.proofs.Common.{map, length, ◌∙◌}
use Rattle.expression_lang.specs.CodeExpression.{kind_of}
use Rattle.monad_lang.specs.CodeProgram.{start_of}
use Rattle.rule_parts.specs.Starts.{start_exps}
use Rattle.rule_word.proofs.AskedPrograms.{as_many, others, map_count, start_count}
use Rattle.rule_word.proofs.instances.are_starts.Goals as goal

pub returns-then-starts-kinds : goal.returns-then-starts-kinds
returns-then-starts-kinds c =
    as_many (start_exps (map start_of c.args.starts.now)) (map kind_of c.args.kinds.now) (start_exps (map start_of c.args.others.now)) (length c.args.starts.now) (length c.args.kinds.now) (length c.args.others.now)
    (start_count (map start_of c.args.starts.now) ∙ map_count start_of c.args.starts.now) (map_count kind_of c.args.kinds.now) (start_count (map start_of c.args.others.now) ∙ map_count start_of c.args.others.now) c.if-starts-kinds.true

pub returns-else-starts-kinds : goal.returns-else-starts-kinds
returns-else-starts-kinds c =
    others (start_exps (map start_of c.args.starts.now)) (map kind_of c.args.kinds.now) (start_exps (map start_of c.args.others.now)) (length c.args.starts.now) (length c.args.kinds.now) (length c.args.others.now)
    (start_count (map start_of c.args.starts.now) ∙ map_count start_of c.args.starts.now) (map_count kind_of c.args.kinds.now) (start_count (map start_of c.args.others.now) ∙ map_count start_of c.args.others.now) c.if-starts-kinds.false
