-- The claims of the parts in the step of equality: their left sides are where the code goes on.
use Rattle.std.proofs.Common.{◌≡◌, true, false, ℕ, [], Some, None, refl, ap, ◌∙◌}
use Rattle.expression_lang.specs.Expression.{TruthLit}
use Rattle.monad_lang.specs.Program as M
use Rattle.monad_lang.specs.Program.{Mon}
use Rattle.rule_eq.specs.Rule as Q
use Rattle.rule_eq.specs.Rule.{Claim, Point, does}
use Rattle.rule_eq.specs.Table as Equality
use Rattle.refused_parts.specs.CodeInside.{equal_inside}
use Rattle.refused_parts.specs.Lefts.{equal_left}
use Rattle.refused_parts.proofs.Positions.{IsAt, of_one, of_two}

equal_row : (at : Point) (r : Q.Rule) (a b : Mon) (i : ℕ) (d : Claim) → (Equality.row at r a b).holds → IsAt (Equality.row at r a b).parts i d → equal_left d ≡ equal_inside r a i
equal_row at Q.Refl m m' i d h k = absurd k
equal_row at (Q.Trans n) m m' i d h k = of_two equal_left m n _ _ d i refl refl k
equal_row at Q.Bind (M.Bind m xs n) (M.Bind m' xs' n') i d h k = of_two equal_left m n _ _ d i refl refl k
equal_row at Q.If (M.If e m n) (M.If e' m' n') i d h k = of_two equal_left m n _ _ d i refl refl k
equal_row at Q.Loop (M.Loop starts guard test m) (M.Loop starts' guard' test' m') i d h k = of_one equal_left m _ d i refl k
equal_row at (Q.RetOne j) (M.Bind (M.Ret es) xs m) m' i d h k = absurd k
equal_row at Q.BindRet (M.Bind m xs n) m' i d h k = absurd k
equal_row at Q.Assoc (M.Bind (M.Bind a xs b) ys c) m' i d h k = absurd k
equal_row at Q.IfConst (M.If (TruthLit true) m n) m' i d h k = absurd k
equal_row at Q.IfConst (M.If (TruthLit false) m n) m' i d h k = absurd k
equal_row at Q.GuardKnown (M.Bind (M.Guard e) [] m) m' i d h k = absurd k
equal_row at Q.Exp m m' i d h k = absurd k
equal_row at r a b i d h k = absurd h

pub equal_steps : (r : Q.Rule) (c d : Claim) (p : Mon) (i : ℕ) → (Equality.table r c).holds → equal_left c ≡ Some p → IsAt (Equality.table r c).parts i d → equal_left d ≡ equal_inside r p i
equal_steps r (does at a b) d p i h e k = let same : a ≡ p = cc in equal_row at r a b i d h k ∙ ap (λ m. equal_inside r m i) same

pub equal_stays : (r : Q.Rule) (c d : Claim) (i : ℕ) → (Equality.table r c).holds → equal_left c ≡ None → IsAt (Equality.table r c).parts i d → equal_left d ≡ None
equal_stays r (does at a b) d i h e k = absurd cc
