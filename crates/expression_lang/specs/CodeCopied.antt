-- An expression of which all but the last part is copied, and a path.
use Rattle.std.specs.Prelude.{ℕ, ◌<◌}
use Rattle.expression_lang.specs.declared.expression.Exp.{size-Exp}
use Rattle.expression_lang.specs.declared.paths.Path.{size-Path}
use Rattle.expression_lang.specs.declared.copies.Peel as P
use Rattle.expression_lang.specs.declared.copies.PathPeel as Q
use Rattle.expression_lang.specs.Expression.{Exp, Path, Here}
use Rattle.expression_lang.specs.CodeExpression.{exp_of, path_of}
use Rattle.expression_lang.specs.CodeShapeView.{with_front, with_step}

abbrev pub peeled_in : P.Peel → Exp
peeled_in (P.TheVariants.Ended e) = exp_of e.value
peeled_in (P.TheVariants.Last front last) = with_front front (exp_of last.now)

abbrev pub LastIsSmaller : P.Peel → ℕ → Type 0
LastIsSmaller (P.TheVariants.Ended e) n = Unit {0}
LastIsSmaller (P.TheVariants.Last front last) n = size-Exp last.now < n

abbrev pub peeled_path_in : Q.PathPeel → Path
peeled_path_in Q.TheVariants.Ended = Here
peeled_path_in (Q.TheVariants.Last front rest) = with_step front (path_of rest.now)

abbrev pub RestIsSmaller : Q.PathPeel → ℕ → Type 0
RestIsSmaller Q.TheVariants.Ended n = Unit {0}
RestIsSmaller (Q.TheVariants.Last front rest) n = size-Path rest.now < n
