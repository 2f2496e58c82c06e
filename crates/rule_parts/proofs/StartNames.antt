-- What two lists of starts show, of which the first is at its end, or both have a first.
use Rattle.std.proofs.Common.{◌≡◌, ◌↔◌, ◌==◌, List, [], ◌∷◌, map, length, refl, ap₂, suc, true, eqb-true, arith, string_bytes}
use Rattle.monad_lang.specs.declared.program.Start as S
use Rattle.monad_lang.specs.CodeProgram.{start_of}
use Rattle.monad_lang.specs.Run.{start_names}

pub names_end : (xs ys : List S.Start) → length xs ≡ 0 →
    ((length ys == 0) ≡ true) ↔ (start_names (map start_of ys) ≡ start_names (map start_of xs))
names_end [] [] h = ((λ e. refl), (λ e. refl))
names_end [] (y ∷ ys) h = (
  (λ e. let clash : suc (length ys) ≡ 0 = eqb-true (suc (length ys)) 0 e in absurd (omega arith)),
  (λ e. let same : start_names (map start_of (y ∷ ys)) ≡ [] = e in cc),
)
names_end (x ∷ xs) ys h = absurd (omega arith)

pub names_go_on : (x y : S.Start) (xs ys : List S.Start) → string_bytes y.name ≡ string_bytes x.name →
    (start_names (map start_of ys) ≡ start_names (map start_of xs))
    ↔ (start_names (map start_of (y ∷ ys)) ≡ start_names (map start_of (x ∷ xs)))
names_go_on x y xs ys h = (
  (λ e. ap₂ (λ a b. a ∷ b) h e),
  (λ e. let same : string_bytes y.name ∷ start_names (map start_of ys) ≡ string_bytes x.name ∷ start_names (map start_of xs) = e in cc),
)
