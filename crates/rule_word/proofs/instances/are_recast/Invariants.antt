-- What is left of all is recast where they are.
use Rattle.std.proofs.Common.{◌≡◌, ◌↔◌, map, length, string_bytes, Some}
use Rattle.expression_lang.specs.CodeExpression.{exp_of, kind_of}
use Rattle.rule_word.specs.Table.{recasts}
use Rattle.rule_word.proofs.instances.are_recast.Given as goal

abbrev pub invariant-along : goal.invariant-along
invariant-along l =
    (recasts (map kind_of l.from) (map kind_of l.to) (map string_bytes l.names) ≡ Some (map exp_of l.exps))
    ↔ (recasts (map kind_of l.initial.from) (map kind_of l.initial.to) (map string_bytes l.initial.names) ≡ Some (map exp_of l.initial.exps))

abbrev pub decreases-along : goal.decreases-along
decreases-along l = length l.from
