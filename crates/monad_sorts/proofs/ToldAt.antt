-- What is told of one of several expressions.
use Rattle.std.proofs.Common.{◌≡◌, ℕ, zero, suc, ◌<◌, ◌≤◌, List, [], ◌∷◌, map, length, get_or, None, sym, ap, refl, arith}
use Rattle.expression_lang.specs.declared.expression.Exp as E
use Rattle.expression_lang.specs.Sort.{Scope}
use Rattle.expression_lang.specs.CodeExpression.{exp_of}
use Rattle.monad_lang.specs.declared.program.Start as S
use Rattle.monad_lang.specs.CodeProgram.{start_of}
use Rattle.monad_sorts.specs.CodeTold.{told, all_told, starts_told, told_at}

pub exp_told : (g : Scope) (es : List E.Exp) (k : ℕ) (e : E.Exp) → k < length es → e ≡ get_or es k e →
    told_at (all_told g (map exp_of es)) k ≡ told g (exp_of e)
exp_told g [] k e lt h = absurd (omega arith)
exp_told g (d ∷ es) zero e lt h = ap (λ x. told g (exp_of x)) (sym h)
exp_told g (d ∷ es) (suc k) e lt h = exp_told g es k e (omega arith) h

pub no_exp_told : (g : Scope) (es : List E.Exp) (k : ℕ) → length es ≤ k → told_at (all_told g (map exp_of es)) k ≡ None
no_exp_told g [] k h = refl
no_exp_told g (e ∷ es) zero h = absurd (omega arith)
no_exp_told g (e ∷ es) (suc k) h = no_exp_told g es k (omega arith)

pub start_told : (g : Scope) (xs : List S.Start) (k : ℕ) (x : S.Start) → k < length xs → x ≡ get_or xs k x →
    told_at (starts_told g (map start_of xs)) k ≡ told g (exp_of x.exp)
start_told g [] k x lt h = absurd (omega arith)
start_told g (y ∷ xs) zero x lt h = ap (λ (z : S.Start). told g (exp_of z.exp)) (sym h)
start_told g (y ∷ xs) (suc k) x lt h = start_told g xs k x (omega arith) h

pub no_start_told : (g : Scope) (xs : List S.Start) (k : ℕ) → length xs ≤ k → told_at (starts_told g (map start_of xs)) k ≡ None
no_start_told g [] k h = refl
no_start_told g (x ∷ xs) zero h = absurd (omega arith)
no_start_told g (x ∷ xs) (suc k) h = no_start_told g xs k (omega arith)
