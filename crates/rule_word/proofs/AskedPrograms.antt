-- What lists show whose lengths or first members are looked at.
use Rattle.std.proofs.Common.{◌≡◌, ◌↔◌, ◌==◌, ℕ, suc, true, List, [], ◌∷◌, map, length, Option, Some, refl, sym, ap, ap₂, ◌∙◌, eqb-true, arith, IsTrue}
use Rattle.std.proofs.lemmas.Bool.Decides.{Decides-eqb}
use Rattle.std.proofs.Math.Nat.{suc_inj}
use Rattle.c_values.specs.Name.{Name}
use Rattle.expression_lang.specs.Signature.{Binder, kinds_of}
use Rattle.monad_lang.specs.Program.{Start}
use Rattle.expression_lang.specs.Expression.{Exp, Var}
use Rattle.expression_lang.specs.Sort.{Kind}
use Rattle.rule_word.specs.Table.{AreMatched, recast, recasts, recast_first}
use Rattle.rule_parts.specs.Starts.{start_exps}

pub matched_lengths : {A B C : Type 0} (xs : List A) (ys : List B) (zs : List C) → ((length xs ≡ length ys) × (length zs ≡ length ys)) ↔ AreMatched xs ys zs
matched_lengths [] [] [] = ((λ h. tt), (λ h. (refl, refl)))
matched_lengths (x ∷ xs) (y ∷ ys) (z ∷ zs) =
    let r = matched_lengths xs ys zs in ((λ h. r.0 (suc_inj h.0, suc_inj h.1)), (λ h. (ap suc (r.1 h).0, ap suc (r.1 h).1)))
matched_lengths [] (y ∷ ys) zs = ((λ h. absurd (never (length ys) h.0)), (λ h. absurd h))
  where
    never : (n : ℕ) → 0 ≡ suc n → ⊥
    never n h = omega arith
matched_lengths (x ∷ xs) [] zs = ((λ h. absurd (never (length xs) h.0)), (λ h. absurd h))
  where
    never : (n : ℕ) → suc n ≡ 0 → ⊥
    never n h = omega arith
matched_lengths [] [] (z ∷ zs) = ((λ h. absurd (never (length zs) h.1)), (λ h. absurd h))
  where
    never : (n : ℕ) → suc n ≡ 0 → ⊥
    never n h = omega arith
matched_lengths (x ∷ xs) (y ∷ ys) [] = ((λ h. absurd (never (length ys) h.1)), (λ h. absurd h))
  where
    never : (n : ℕ) → 0 ≡ suc n → ⊥
    never n h = omega arith

-- kinds, or what else is seen by a function
pub kinds_end : {A B : Type 0} (f : A → B) (xs ys : List A) → length xs ≡ 0 → ((length ys == 0) ≡ true) ↔ (map f xs ≡ map f ys)
kinds_end f [] [] h = ((λ e. refl), (λ e. refl))
kinds_end f [] (y ∷ ys) h = (
  (λ e. let clash : suc (length ys) ≡ 0 = eqb-true (suc (length ys)) 0 e in absurd (omega arith)),
  (λ e. let same : [] ≡ map f (y ∷ ys) = e in cc),
)
kinds_end f (x ∷ xs) ys h = absurd (omega arith)

pub kinds_go_on : {A B : Type 0} (f : A → B) (x y : A) (xs ys : List A) → f x ≡ f y → (map f xs ≡ map f ys) ↔ (map f (x ∷ xs) ≡ map f (y ∷ ys))
kinds_go_on f x y xs ys h = ((λ e. ap₂ (λ a b. a ∷ b) h e), (λ e. let same : f x ∷ map f xs ≡ f y ∷ map f ys = e in cc))

-- recasts
first_inv : (o : Option Exp) (os : Option (List Exp)) (e : Exp) (es : List Exp) → recast_first o os ≡ Some (e ∷ es) → (o ≡ Some e) × (os ≡ Some es)
first_inv (Some d) (Some ds) e es h = let p : d ≡ e = cc in let q : ds ≡ es = cc in (ap (λ x. Some x) p, ap (λ x. Some x) q)
first_inv _ _ e es h = absurd cc

pub recasts_end : (ks : List Kind) (ys : List Name) (es : List Exp) → ((ks ≡ []) × (ys ≡ []) × (es ≡ [])) ↔ (recasts [] ks ys ≡ Some es)
recasts_end [] [] [] = ((λ h. refl), (λ h. (refl, refl, refl)))
recasts_end [] [] (e ∷ es) = ((λ h. absurd cc), (λ h. absurd cc))
recasts_end [] (y ∷ ys) es = ((λ h. absurd cc), (λ h. absurd cc))
recasts_end (k ∷ ks) ys es = ((λ h. absurd cc), (λ h. absurd cc))

pub recasts_go_on : (j k : Kind) (y : Name) (e : Exp) (js ks : List Kind) (ys : List Name) (es : List Exp) → recast j k (Var y) ≡ Some e →
    (recasts js ks ys ≡ Some es) ↔ (recasts (j ∷ js) (k ∷ ks) (y ∷ ys) ≡ Some (e ∷ es))
recasts_go_on j k y e js ks ys es h = (
  (λ i. ap₂ (λ o os. recast_first o os) h i),
  (λ i. (first_inv (recast j k (Var y)) (recasts js ks ys) e es i).1),
)

pub no_name : (j k : Kind) (js ks : List Kind) (es : List Exp) → recasts (j ∷ js) (k ∷ ks) [] ≡ Some es → ⊥
no_name j k js ks es h = absurd cc

-- as many of each, by the lengths of what they are made from
pub map_count : {A B : Type 0} (f : A → B) (xs : List A) → length (map f xs) ≡ length xs
map_count f [] = refl
map_count f (x ∷ xs) = ap suc (map_count f xs)

pub start_count : (xs : List Start) → length (start_exps xs) ≡ length xs
start_count [] = refl
start_count (x ∷ xs) = ap suc (start_count xs)

pub kind_count : (bs : List Binder) → length (kinds_of bs) ≡ length bs
kind_count [] = refl
kind_count (b ∷ bs) = ap suc (kind_count bs)

module _ {A B C : Type 0} (xs : List A) (ys : List B) (zs : List C) (l m n : ℕ) (one : length xs ≡ l) (two : length ys ≡ m) (three : length zs ≡ n) where
  pub as_many : l ≡ m → IsTrue (n == m) ↔ AreMatched xs ys zs
  as_many h = (
    (λ e. (matched_lengths xs ys zs).0 (one ∙ h ∙ sym two, three ∙ eqb-true n m e ∙ sym two)),
    (λ k. (Decides-eqb n m).1 (sym three ∙ ((matched_lengths xs ys zs).1 k).1 ∙ two)),
  )

  pub others : (l ≡ m → ⊥) → IsTrue (l == m) ↔ AreMatched xs ys zs
  others h = ((λ e. absurd (h (eqb-true l m e))), (λ k. absurd (h (sym one ∙ ((matched_lengths xs ys zs).1 k).0 ∙ two))))
