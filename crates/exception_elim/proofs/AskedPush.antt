-- One condition more.
use Rattle.std.proofs.Common.{◌≡◌, List, [], ◌∷◌, ◌++◌, map, ap, ap₂}
use Rattle.simpl_lang.specs.Command.{Condition}
use Rattle.rule_exn.specs.Table.{asked_unless_thrown, unless_thrown}

-- what is asked, with one more of the same
pub asked_more : {A : Type 0} (f : A → Condition) (asked : List A) (a : A) (ys : List A) (y : A) → map f asked ≡ unless_thrown (map f ys) → f a ≡ asked_unless_thrown (f y) →
    map f (asked ++ a ∷ []) ≡ unless_thrown (map f (ys ++ y ∷ []))
asked_more f [] a [] y h e = ap (λ c. c ∷ []) e
asked_more f [] a (x ∷ xs) y h e = let clash : [] ≡ asked_unless_thrown (f x) ∷ unless_thrown (map f xs) = h in cc
asked_more f (b ∷ bs) a [] y h e = let clash : f b ∷ map f bs ≡ [] = h in cc
asked_more f (b ∷ bs) a (x ∷ xs) y h e =
    let both : f b ∷ map f bs ≡ asked_unless_thrown (f x) ∷ unless_thrown (map f xs) = h in
    let first : f b ≡ asked_unless_thrown (f x) = cc in
    let rest : map f bs ≡ unless_thrown (map f xs) = cc in ap₂ (λ c cs. c ∷ cs) first (asked_more f bs a xs y rest e)
