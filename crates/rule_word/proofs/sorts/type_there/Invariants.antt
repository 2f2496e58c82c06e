-- What is left of the path leads from where it is to where the whole leads.
use Rattle.std.proofs.Common.{◌≡◌}
use Rattle.c_values.specs.Layout.{shape_of}
use Rattle.c_values.specs.CodeTypes.{type_of}
use Rattle.expression_lang.specs.CodeExpression.{path_of}
use Rattle.rule_word.specs.LeftWidth.{shape_there}
use Rattle.rule_word.proofs.sorts.type_there.Given as goal

abbrev pub invariant-steps : goal.invariant-steps
invariant-steps l =
    shape_there (path_of l.rest) (shape_of l.l (type_of l.whole)) ≡ shape_there (path_of l.path) (shape_of l.l (type_of l.t))
