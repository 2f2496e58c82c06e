-- What conditions as one show: there are none, one, or more.
use Rattle.std.proofs.Common.{◌≡◌, true, List, [], ◌∷◌, length, refl, arith}
use Rattle.std.specs.Prelude.{map}
use Rattle.expression_lang.specs.Expression.{TruthLit, And}
use Rattle.simpl_lang.specs.Command.{Condition}
use Rattle.rule_local.specs.Table.{conj}

pub conj_none : {A : Type 0} (f : A → Condition) (xs : List A) → length xs ≡ 0 → conj (map f xs) ≡ TruthLit true
conj_none f [] h = refl
conj_none f (x ∷ xs) h = absurd (omega arith)

pub conj_only : {A : Type 0} (f : A → Condition) (x : A) (xs : List A) → length xs ≡ 0 → conj (map f (x ∷ xs)) ≡ (f x).exp
conj_only f x [] h = refl
conj_only f x (y ∷ ys) h = absurd (omega arith)

pub conj_on : {A : Type 0} (f : A → Condition) (x : A) (xs : List A) → (length xs ≡ 0 → ⊥) → conj (map f (x ∷ xs)) ≡ And (f x).exp (conj (map f xs))
conj_on f x [] h = absurd (h refl)
conj_on f x (y ∷ ys) h = refl
