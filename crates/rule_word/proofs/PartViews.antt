-- What is seen again of a part is what the code's view is there.
use Rattle.std.proofs.Common.{◌≡◌, refl}
use Rattle.expression_lang.specs.Expression.{Exp}
use Rattle.expression_lang.specs.Sort.{Scope}
use Rattle.rule_word.specs.declared.rule.View as V
use Rattle.rule_word.specs.CodeClaims.{again}
use Rattle.rule_word.specs.CodeRule.{view_at}

pub again_view : (g : Scope) (e d : Exp) (v : V.View) → view_at g d v ≡ again g (view_at g e v) d
again_view g e d V.TheVariants.AsIs = refl
again_view _ _ _ _ = refl
