-- What has become of an expression of which all but the last part is changed, given what becomes of its last part.
use Rattle.std.specs.Prelude.{ℕ, ◌<◌}
use Rattle.expression_lang.specs.declared.expression.Exp.{size-Exp}
use Rattle.expression_lang.specs.declared.paths.Path.{size-Path}
use Rattle.expression_lang.specs.declared.changing.Changing as P
use Rattle.expression_lang.specs.declared.changing.PathChanging as Q
use Rattle.expression_lang.specs.Expression.{Exp, Path, Here}
use Rattle.expression_lang.specs.CodeExpression.{exp_of, path_of}
use Rattle.expression_lang.specs.CodeShapeView.{with_front, with_step}

abbrev pub becomes : (Exp → Exp) → P.Changing → Exp
becomes k (P.TheVariants.Ended e) = exp_of e.value
becomes k (P.TheVariants.Last front last) = with_front front (k (exp_of last.now))

abbrev pub LastIsSmaller : P.Changing → ℕ → Type 0
LastIsSmaller (P.TheVariants.Ended e) n = Unit {0}
LastIsSmaller (P.TheVariants.Last front last) n = size-Exp last.now < n

abbrev pub path_becomes : (Path → Path) → Q.PathChanging → Path
path_becomes k Q.TheVariants.Ended = Here
path_becomes k (Q.TheVariants.Last front rest) = with_step front (k (path_of rest.now))

abbrev pub RestIsSmaller : Q.PathChanging → ℕ → Type 0
RestIsSmaller Q.TheVariants.Ended n = Unit {0}
RestIsSmaller (Q.TheVariants.Last front rest) n = size-Path rest.now < n
