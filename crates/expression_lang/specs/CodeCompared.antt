-- What a look at two expressions says of them.
use Rattle.std.specs.Prelude.{◌≡◌, ◌≢◌, ◌↔◌, ℕ, ◌<◌}
use Rattle.expression_lang.specs.declared.expression.Exp.{size-Exp}
use Rattle.expression_lang.specs.declared.comparison.Compared as C
use Rattle.expression_lang.specs.Expression.{Exp}
use Rattle.expression_lang.specs.CodeExpression.{exp_of}

abbrev pub Says : C.Compared → Exp → Exp → Type 0
Says C.TheVariants.Differ a b = a ≢ b
Says C.TheVariants.Same a b = a ≡ b
Says (C.TheVariants.AsLast x y) a b = (exp_of x.now ≡ exp_of y.now) ↔ (a ≡ b)

abbrev pub LastIsSmaller : C.Compared → ℕ → Type 0
LastIsSmaller C.TheVariants.Differ n = Unit {0}
LastIsSmaller C.TheVariants.Same n = Unit {0}
LastIsSmaller (C.TheVariants.AsLast x y) n = size-Exp x.now < n
