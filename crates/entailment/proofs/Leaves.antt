-- Rules without parts, whatever is claimed.
use Rattle.std.proofs.Common.{◌≡◌, Bool, List, [], refl}
use Rattle.expression_lang.specs.Expression.{Exp, Eq, Between}
use Rattle.expression_lang.specs.Sort.{Scope}
use Rattle.ac_expr.specs.Fact.{Fact}
use Rattle.triple_lang.specs.Entail as R
use Rattle.entailment.specs.Table.{row}

module _ (lifted : Bool) (g : Scope) (fs : List Fact) where
  pub same_alone : (q : Exp) → (row lifted g fs R.Same q).parts ≡ []
  same_alone (Eq a b) = refl
  same_alone _ = refl

  pub range_alone : (q : Exp) → (row lifted g fs R.Range q).parts ≡ []
  range_alone (Between low e high) = refl
  range_alone _ = refl
