-- The first wide operation that is met.
use Rattle.std.proofs.Common.{◌≡◌, ap, ◌∙◌, subst, sym}
use Rattle.std.specs.Prelude.{Option, None}
use Rattle.expression_lang.specs.declared.faults.EvalFault as F
use Rattle.expression_lang.specs.Wide.{Operation, or_else}
use Rattle.expression_lang.specs.CodeFault.{IsFault}

-- a fault in the first part is that of the whole
pub met_first : (f : F.EvalFault) (o p : Option Operation) → IsFault f o → IsFault f (or_else o p)
met_first (F.TheVariants.Wide op a b) o p h = ap (λ q. or_else q p) h
met_first F.TheVariants.Memory o p h = tt

-- and one in the second, where the first has none
pub met_second : (f : F.EvalFault) (o p : Option Operation) → o ≡ None → IsFault f p → IsFault f (or_else o p)
met_second f o p none h = subst (λ q. IsFault f (or_else q p)) (sym none) h

pub met_none : (o p : Option Operation) → o ≡ None → p ≡ None → or_else o p ≡ None
met_none o p first second = ap (λ q. or_else q p) first ∙ second
