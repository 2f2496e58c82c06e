-- All that was passed is the same.
use Rattle.std.proofs.Common.{◌≢◌, ◌↔◌, length}
use Rattle.rule_eq.specs.Table.{OneApart}
use Rattle.rule_eq.specs.CodeExps.{AreSomewhereSorted}
use Rattle.rule_parts.specs.CodeExps.{exps_in}
use Rattle.rule_eq.specs.CodeRule.{point_in}
use Rattle.rule_eq.proofs.exps.is_one_apart.Given as goal

abbrev pub invariant-along : goal.invariant-along
invariant-along l = record {
  differ : exps_in l.others ≢ exps_in l.ones;
  same : OneApart (point_in l.setting l.facts l.inside) (exps_in l.left) (exps_in l.right)
      ↔ OneApart (point_in l.setting l.facts l.inside) (exps_in l.ones) (exps_in l.others);
  sorted_left : AreSomewhereSorted (point_in l.setting l.facts l.inside).setting.scope (exps_in l.ones);
  sorted_right : AreSomewhereSorted (point_in l.setting l.facts l.inside).setting.scope (exps_in l.others);
}

abbrev pub decreases-along : goal.decreases-along
decreases-along l = length (exps_in l.ones)
