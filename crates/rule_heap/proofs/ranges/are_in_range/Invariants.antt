-- What is left of the path is in range exactly where the whole is.
use Rattle.std.proofs.Common.{◌↔◌}
use Rattle.c_values.specs.Layout.{shape_of}
use Rattle.c_values.specs.CodeTypes.{type_of}
use Rattle.expression_lang.specs.CodeExpression.{path_of}
use Rattle.rule_heap.specs.Table.{AreInRange}
use Rattle.rule_heap.specs.CodeRule.{facts_at}
use Rattle.rule_heap.proofs.ranges.are_in_range.Given as goal

abbrev pub invariant-steps : goal.invariant-steps
invariant-steps l = AreInRange (facts_at l.context) (path_of l.rest) (shape_of l.context.layout.now (type_of l.whole)) ↔ AreInRange (facts_at l.context) (path_of l.path) (shape_of l.context.layout.now (type_of l.t))
