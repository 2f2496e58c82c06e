-- Values one after the other.
use Rattle.std.proofs.Common.{◌≡◌, ℕ, zero, suc, ◌+◌, ◌<◌, ◌≤◌, List, [], ◌∷◌, ◌++◌, length, get_or, take, refl, sym, ap, ap₂, ◌∙◌, arith}
use Rattle.std.specs.Prelude.{Vec}
use Rattle.std.specs.declared.alloc.Global.{Global}
use Rattle.c_values.specs.declared.values.Value as V
use Rattle.c_values.specs.Value.{Value, Values, Parts, no_values, more}
use Rattle.c_values.specs.CodeValue.{value_of}
use Rattle.c_values.specs.CodeParts.{values_in, joined, with_front, with_fronts, rank, ranks}

pub joined-no_values : (vs : Values) → joined vs no_values ≡ vs
joined-no_values no_values = refl
joined-no_values (more v vs) = ap (λ ws. more v ws) (joined-no_values vs)

pub joined-push : (xs : List V.Value) (v : V.Value) (ws : Values) → joined (values_in (xs ++ v ∷ [])) ws ≡ joined (values_in xs) (more (value_of v) ws)
joined-push [] v ws = refl
joined-push (x ∷ xs) v ws = ap (λ us. more (value_of x) us) (joined-push xs v ws)

pub values_in-push : (xs : List V.Value) (v : V.Value) → values_in (xs ++ v ∷ []) ≡ joined (values_in xs) (more (value_of v) no_values)
values_in-push [] v = refl
values_in-push (x ∷ xs) v = ap (λ us. more (value_of x) us) (values_in-push xs v)

next_taken : (xs : List V.Value) (k : ℕ) (x : V.Value) → k < length xs → x ≡ get_or xs k x → values_in (take (k + 1) xs) ≡ joined (values_in (take k xs)) (more (value_of x) no_values)
next_taken [] k x lt e = absurd (omega arith)
next_taken (y ∷ ys) zero x lt e = ap (λ z. more (value_of z) no_values) (sym e)
next_taken (y ∷ ys) (suc k) x lt e =
    let n : suc k + 1 ≡ suc (k + 1) = omega arith in
    ap (λ m. values_in (take m (y ∷ ys))) n ∙ ap (λ us. more (value_of y) us) (next_taken ys k x (omega arith) e)

-- one copy more
pub one_copied : (xs copies : List V.Value) (k : ℕ) (x copy : V.Value) (new : List V.Value) → k < length xs → x ≡ get_or xs k x → values_in copies ≡ values_in (take k xs) →
    value_of copy ≡ value_of x → new ≡ copies ++ copy ∷ [] → values_in new ≡ values_in (take (k + 1) xs)
one_copied xs copies k x copy new lt e before same pushed =
    ap values_in pushed ∙ values_in-push copies copy
    ∙ ap₂ (λ us w. joined us (more w no_values)) before same
    ∙ sym (next_taken xs k x lt e)

pub all_taken : (xs : List V.Value) (k : ℕ) → length xs ≤ k → values_in (take k xs) ≡ values_in xs
all_taken [] zero le = refl
all_taken [] (suc k) le = refl
all_taken (x ∷ xs) zero le = absurd (omega arith)
all_taken (x ∷ xs) (suc k) le = ap (λ us. more (value_of x) us) (all_taken xs k (omega arith))

pub with_fronts_push : (fs : List (Vec V.Value Global)) (f : Vec V.Value Global) (v : Value) → with_fronts (fs ++ f ∷ []) v ≡ with_fronts fs (with_front f v)
with_fronts_push [] f v = refl
with_fronts_push (g ∷ gs) f v = ap (λ w. with_front g w) (with_fronts_push gs f v)

pub ranks_push : (xs : List V.Value) (v : V.Value) → ranks (values_in (xs ++ v ∷ [])) ≡ ranks (values_in xs) + suc (rank (value_of v))
ranks_push [] v = omega arith
ranks_push (x ∷ xs) v = let h = ranks_push xs v in omega (arith, h)

-- the front's copies and the last part are the whole
pub front_copied : (front : List V.Value) (last : V.Value) (copies : Vec V.Value Global) (whole : Value) → values_in copies.items ≡ values_in front → whole ≡ Parts (values_in (front ++ last ∷ [])) →
    with_front copies (value_of last) ≡ whole
front_copied front last copies whole same is =
    ap (λ vs. Parts (joined vs (more (value_of last) no_values))) same ∙ ap (λ vs. Parts vs) (sym (values_in-push front last)) ∙ sym is
