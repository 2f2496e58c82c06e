-- None that was passed is one step away from itself.
use Rattle.std.proofs.Common.{◌↔◌, length}
use Rattle.rule_eq.specs.Table.{OneApart}
use Rattle.rule_eq.specs.CodeExps.{AreSomewhereSorted}
use Rattle.rule_parts.specs.CodeExps.{exps_in}
use Rattle.rule_eq.specs.CodeRule.{point_in}
use Rattle.rule_eq.proofs.exps.is_itself_apart.Given as goal

abbrev pub invariant-along : goal.invariant-along
invariant-along l = record {
  same : OneApart (point_in l.setting l.facts l.inside) (exps_in l.rest) (exps_in l.rest)
      ↔ OneApart (point_in l.setting l.facts l.inside) (exps_in l.exps) (exps_in l.exps);
  sorted : AreSomewhereSorted (point_in l.setting l.facts l.inside).setting.scope (exps_in l.rest);
}

abbrev pub decreases-along : goal.decreases-along
decreases-along l = length (exps_in l.rest)
