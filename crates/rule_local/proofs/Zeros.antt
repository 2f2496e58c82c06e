-- What the zeros of locals show: there are no more locals, or the first has a zero.
use Rattle.std.proofs.Common.{◌≡◌, ◌↔◌, ◌==◌, suc, true, List, [], ◌∷◌, length, Option, Some, None, refl, sym, ap, subst, eqb-true, arith}
use Rattle.std.specs.Prelude.{map}
use Rattle.c_values.specs.Name.{Name}
use Rattle.expression_lang.specs.Expression.{Exp}
use Rattle.expression_lang.specs.Sort.{Kind}
use Rattle.expression_lang.specs.Signature.{Binder}
use Rattle.simpl_lang.specs.Command.{kind_of}
use Rattle.rule_local.specs.Table.{zeros, zero_first}
use Rattle.rule_local.specs.CodeRow.{IsZeroOf}

pub zeros_end : {A B : Type 0} (bs : List Binder) (g : B → Name) (f : A → Exp) (xs : List B) (es : List A) → length xs ≡ 0 → ((length es == 0) ≡ true) ↔ (zeros bs (map g xs) ≡ Some (map f es))
zeros_end bs g f [] [] h = ((λ e. refl), (λ e. refl))
zeros_end bs g f [] (y ∷ ys) h = (
  (λ e. let clash : suc (length ys) ≡ 0 = eqb-true (suc (length ys)) 0 e in absurd (omega arith)),
  (λ e. let same : ◌≡◌ {A = Option (List Exp)} (Some []) (Some (map f (y ∷ ys))) = e in cc),
)
zeros_end bs g f (x ∷ xs) es h = absurd (omega arith)

first_is : (k : Option Kind) (zs : Option (List Exp)) (e : Exp) (es : List Exp) → zero_first k zs ≡ Some (e ∷ es) → IsZeroOf k e × (zs ≡ Some es)
first_is (Some k) (Some zs) e es h = (cc, cc)
first_is _ _ e es h = cc

first_none : (k : Option Kind) (zs : Option (List Exp)) → zero_first k zs ≡ Some [] → ⊥
first_none (Some k) (Some zs) h = cc
first_none _ _ h = cc

first_goes : (k : Option Kind) (zs : Option (List Exp)) (e : Exp) (es : List Exp) → IsZeroOf k e → zs ≡ Some es → zero_first k zs ≡ Some (e ∷ es)
first_goes (Some k) zs e es h j = subst (λ o. zero_first (Some k) o ≡ Some (e ∷ es)) (sym j) (ap (λ z. Some (z ∷ es)) (sym h))
first_goes None zs e es h j = absurd h

pub zeros_short : {A B : Type 0} (bs : List Binder) (g : B → Name) (f : A → Exp) (x : B) (xs : List B) (es : List A) → length es ≡ 0 → zeros bs (map g (x ∷ xs)) ≡ Some (map f es) → ⊥
zeros_short bs g f x xs [] h e = first_none (kind_of bs (g x)) (zeros bs (map g xs)) e
zeros_short bs g f x xs (y ∷ ys) h e = absurd (omega arith)

pub zeros_on : {A B : Type 0} (bs : List Binder) (g : B → Name) (f : A → Exp) (x : B) (xs : List B) (e : A) (es : List A) → IsZeroOf (kind_of bs (g x)) (f e) →
    (zeros bs (map g xs) ≡ Some (map f es)) ↔ (zeros bs (map g (x ∷ xs)) ≡ Some (map f (e ∷ es)))
zeros_on bs g f x xs e es h = (
  (λ k. first_goes (kind_of bs (g x)) (zeros bs (map g xs)) (f e) (map f es) h k),
  (λ k. (first_is (kind_of bs (g x)) (zeros bs (map g xs)) (f e) (map f es) k).1),
)

pub zeros_off : {A B : Type 0} (bs : List Binder) (g : B → Name) (f : A → Exp) (x : B) (xs : List B) (e : A) (es : List A) → (IsZeroOf (kind_of bs (g x)) (f e) → ⊥) →
    zeros bs (map g (x ∷ xs)) ≡ Some (map f (e ∷ es)) → ⊥
zeros_off bs g f x xs e es h k = h (first_is (kind_of bs (g x)) (zeros bs (map g xs)) (f e) (map f es) k).0
