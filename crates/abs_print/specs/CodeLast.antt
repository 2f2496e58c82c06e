-- What the code finds behind the front of an expression.
use Rattle.std.specs.Prelude.{ℕ, ◌<◌, [], ◌++◌}
use Rattle.expression_lang.specs.declared.expression.Exp.{size-Exp}
use Rattle.expression_lang.specs.CodeExpression.{exp_of}
use Rattle.abs_print.specs.declared.last_parts.Left as L
use Rattle.abs_print.specs.Texts.{Text}
use Rattle.abs_print.specs.Expressions.{exp_text}
use Rattle.abs_print.specs.CodeEndings.{ending_text}

abbrev pub last_in : L.Left → Text
last_in L.TheVariants.Nothing = []
last_in (L.TheVariants.Last last ending) = exp_text (exp_of last.now) ++ ending_text ending

abbrev pub LastIsSmaller : L.Left → ℕ → Type 0
LastIsSmaller L.TheVariants.Nothing n = Unit {0}
LastIsSmaller (L.TheVariants.Last last ending) n = size-Exp last.now < n
