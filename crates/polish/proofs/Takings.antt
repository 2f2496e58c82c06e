-- The value at a position, with what was passed before it.
use Rattle.std.proofs.Common.{◌≡◌, ℕ, zero, suc, ◌+◌, ◌-◌, List, [], ◌∷◌, ◌++◌, Option, Some, None, refl, sym, ap, ap₂, ◌∙◌, arith}
use Rattle.c_values.specs.Name.{Name}
use Rattle.expression_lang.specs.Expression.{Exp}
use Rattle.rule_eq.specs.Table.{Taken, before, taken_at}
use Rattle.polish.specs.CodePutting.{passed_over}

list_end : {A : Type 0} (xs : List A) (x : A) (ys : List A) → xs ++ x ∷ ys ≡ (xs ++ x ∷ []) ++ ys
list_end [] x ys = refl
list_end (a ∷ xs) x ys = ap (λ r. a ∷ r) (list_end xs x ys)

pub over_none : (o : Option Taken) → passed_over [] [] o ≡ o
over_none None = refl
over_none (Some k) = refl

pub taken_here : (es' : List Exp) (xs' : List Name) (e : Exp) (es : List Exp) (x : Name) (xs : List Name) →
    passed_over es' xs' (taken_at zero (e ∷ es) (x ∷ xs)) ≡ Some (record { exp = e; name = x; exps = es' ++ es; names = xs' ++ xs })
taken_here es' xs' e es x xs = refl

later : (es' : List Exp) (xs' : List Name) (e : Exp) (x : Name) (o : Option Taken) →
    passed_over es' xs' (before e x o) ≡ passed_over (es' ++ e ∷ []) (xs' ++ x ∷ []) o
later es' xs' e x None = refl
later es' xs' e x (Some k) =
    ap (λ a. Some (record { exp = k.exp; name = k.name; exps = a; names = xs' ++ x ∷ k.names })) (list_end es' e k.exps)
    ∙ ap (λ a. Some (record { exp = k.exp; name = k.name; exps = (es' ++ e ∷ []) ++ k.exps; names = a })) (list_end xs' x k.names)

pub taken_later : (i : ℕ) (es' : List Exp) (xs' : List Name) (e : Exp) (es : List Exp) (x : Name) (xs : List Name) →
    passed_over es' xs' (taken_at (suc i) (e ∷ es) (x ∷ xs)) ≡ passed_over (es' ++ e ∷ []) (xs' ++ x ∷ []) (taken_at i es xs)
taken_later i es' xs' e es x xs = later es' xs' e x (taken_at i es xs)

pub none_left : (i : ℕ) (es' : List Exp) (xs' xs : List Name) → passed_over es' xs' (taken_at i [] xs) ≡ None
none_left zero es' xs' xs = refl
none_left (suc i) es' xs' xs = refl

pub no_name_left : (i : ℕ) (es' : List Exp) (xs' : List Name) (es : List Exp) → passed_over es' xs' (taken_at i es []) ≡ None
no_name_left zero es' xs' [] = refl
no_name_left zero es' xs' (e ∷ es) = refl
no_name_left (suc i) es' xs' [] = refl
no_name_left (suc i) es' xs' (e ∷ es) = refl

-- one further, where the position isn't reached
pub taken_on : (i : ℕ) (ls es es' more : List Exp) (e : Exp) (rs xs xs' own : List Name) (x : Name) {all : Option Taken} →
    ls ≡ e ∷ es → rs ≡ x ∷ xs → (i ≡ 0 → ⊥) → more ≡ es' ++ e ∷ [] → own ≡ xs' ++ x ∷ [] →
    passed_over es' xs' (taken_at i ls rs) ≡ all → passed_over more own (taken_at (i - 1) es xs) ≡ all
taken_on zero ls es es' more e rs xs xs' own x f g h j k l = absurd (h refl)
taken_on (suc i) ls es es' more e rs xs xs' own x f g h j k l =
    ap (λ n. passed_over more own (taken_at n es xs)) (omega arith)
    ∙ ap₂ (λ a b. passed_over a b (taken_at i es xs)) j k
    ∙ sym (taken_later i es' xs' e es x xs)
    ∙ ap₂ (λ a b. passed_over es' xs' (taken_at (suc i) a b)) (sym f) (sym g)
    ∙ l
