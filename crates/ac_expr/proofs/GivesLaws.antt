-- What gives an expression gives itself.
use Rattle.std.proofs.Common.{◌≡◌, sym, subst, List}
use Rattle.expression_lang.specs.Expression.{Exp}
use Rattle.ac_expr.specs.Fact.{Fact}
use Rattle.ac_expr.specs.Known.{Gives, GivesAtOnce}
use Rattle.ac_expr.proofs.GivenFacts.{gives_itself as itself, at_once_itself}

pub gives_itself_at_once : (m e : Exp) → e ≡ m → GivesAtOnce m e
gives_itself_at_once m e h = subst (GivesAtOnce m) (sym h) (at_once_itself m)

pub gives_itself : (fs : List Fact) (m e : Exp) → e ≡ m → Gives fs m e
gives_itself fs m e h = subst (Gives fs m) (sym h) (itself fs m)
