-- What is left is no deeper than what was to be dropped.
use Rattle.std.proofs.Common.{◌≤◌}
use Rattle.expression_lang.specs.declared.expression.Exp.{size-Exp}
use Rattle.expression_lang.specs.declared.paths.Path.{size-Path}
use Rattle.expression_lang.proofs.+drop_expression.Given as goal

abbrev pub invariant-paths::Path::drop-loop-self : goal.invariant-paths::Path::drop-loop-self
invariant-paths::Path::drop-loop-self l = size-Path l.self ≤ size-Path l.initial.self

abbrev pub invariant-expression::Exp::drop-loop-self : goal.invariant-expression::Exp::drop-loop-self
invariant-expression::Exp::drop-loop-self l = size-Exp l.self ≤ size-Exp l.initial.self
