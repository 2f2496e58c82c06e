-- What is left, behind the labels so far, is judged as all are.
use Rattle.std.proofs.Common.{◌≡◌, ◌∷◌, drop, map}
use Rattle.c_values.specs.CodeTypes.{int_type_of}
use Rattle.c_grammar.specs.CodeTree.{label_of}
use Rattle.typing_rules.specs.Statements.{labels, no_labels}
use Rattle.typing_statements.specs.CodeKeys.{Finds}
use Rattle.typing_statements.specs.CodeLabels.{joined, labels_of}
use Rattle.typing_scope.specs.CodeScope.{scope_of}
use Rattle.typing_statements.proofs.labels.group_labels.Given as goal

abbrev pub invariant-loop-label : goal.invariant-loop-label
invariant-loop-label l = record {
  finds : Finds l.seen.known l.seen.labels.values.items;
  so_far :
      joined (labels_of l.fn.seen.labels) no_labels (labels (int_type_of l.ty) (labels_of l.fn.seen.labels) (label_of l.fn.first ∷ map label_of l.fn.others)) (scope_of l.fn.scope)
      ≡ joined (labels_of l.seen.labels) (labels_of l.labels) (labels (int_type_of l.ty) (labels_of l.seen.labels) (map label_of (drop l.label-index l.others))) (scope_of l.scope);
}
