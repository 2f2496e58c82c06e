-- An equation looks at a heap where one of its sides does.
use Rattle.std.proofs.Common.{◌≡◌, Bool, true, false, ◌||◌, ap}
use Rattle.std.specs.Prelude.{if◌then◌else◌}
use Rattle.expression_lang.specs.Expression.{Exp, Eq}
use Rattle.expression_lang.specs.Form.{has, is_load, is_read}

pub last_looks : (lifted : Bool) (a b : Exp) → has (if lifted then is_load else is_read) a ≡ false →
    has (if lifted then is_load else is_read) (Eq a b) ≡ has (if lifted then is_load else is_read) b
last_looks true a b h = ap (λ x. x || has is_load b) h
last_looks false a b h = ap (λ x. x || has is_read b) h
