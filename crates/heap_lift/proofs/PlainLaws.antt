-- That nothing is to be done of a whole, by its parts.
use Rattle.std.proofs.Common.{◌≡◌, Bool, true, false, not, ◌&&◌, ◌||◌, List, ◌∷◌, refl, ap, ◌∙◌}
use Rattle.c_values.specs.Name.{Name}
use Rattle.expression_lang.specs.Expression.{Exp}
use Rattle.expression_lang.specs.Form.{has, is_load}
use Rattle.monad_lang.specs.Program as M
use Rattle.monad_lang.specs.Program.{Mon, Start}
use Rattle.monad_lang.specs.Form.{start_has, program_has, is_stored, no_place}
use Rattle.rule_heap.specs.HeapLifted.{is_plain, is_ptrok}
use Rattle.heap_lift.specs.Lifted.{is_plain_exp, are_plain_starts}

-- neither of the one nor of the other
neither : (a b c d : Bool) → (not (a || b) && not (c || d)) ≡ ((not a && not c) && (not b && not d))
neither false true true d = refl
neither false false true d = refl
neither _ _ _ _ = refl

pub plain_bind : (m : Mon) (xs : List Name) (n : Mon) → is_plain (M.Bind m xs n) ≡ (is_plain m && is_plain n)
plain_bind m xs n = neither (program_has is_load is_stored m) (program_has is_load is_stored n) (program_has is_ptrok no_place m) (program_has is_ptrok no_place n)

pub plain_if : (e : Exp) (m n : Mon) → is_plain (M.If e m n) ≡ ((is_plain_exp e && is_plain m) && is_plain n)
plain_if e m n =
    neither (has is_load e || program_has is_load is_stored m) (program_has is_load is_stored n) (has is_ptrok e || program_has is_ptrok no_place m) (program_has is_ptrok no_place n)
    ∙ ap (λ b. b && is_plain n) (neither (has is_load e) (program_has is_load is_stored m) (has is_ptrok e) (program_has is_ptrok no_place m))

pub plain_loop : (starts : List Start) (guard test : Exp) (m : Mon) →
    is_plain (M.Loop starts guard test m) ≡ (((are_plain_starts starts && is_plain_exp guard) && is_plain_exp test) && is_plain m)
plain_loop starts guard test m =
    neither ((start_has is_load starts || has is_load guard) || has is_load test) (program_has is_load is_stored m)
    ((start_has is_ptrok starts || has is_ptrok guard) || has is_ptrok test) (program_has is_ptrok no_place m)
    ∙ ap (λ b. b && is_plain m)
    (neither (start_has is_load starts || has is_load guard) (has is_load test) (start_has is_ptrok starts || has is_ptrok guard) (has is_ptrok test)
    ∙ ap (λ b. b && is_plain_exp test) (neither (start_has is_load starts) (has is_load guard) (start_has is_ptrok starts) (has is_ptrok guard)))

starts_plain : (x : Start) (xs : List Start) → are_plain_starts (x ∷ xs) ≡ (is_plain_exp x.exp && are_plain_starts xs)
starts_plain x xs = neither (has is_load x.exp) (start_has is_load xs) (has is_ptrok x.exp) (start_has is_ptrok xs)

pub plain_later : (x : Start) (xs : List Start) → is_plain_exp x.exp ≡ true → are_plain_starts (x ∷ xs) ≡ are_plain_starts xs
plain_later x xs h = starts_plain x xs ∙ ap (λ b. b && are_plain_starts xs) h

pub plain_ends : (x : Start) (xs : List Start) → is_plain_exp x.exp ≡ false → are_plain_starts (x ∷ xs) ≡ false
plain_ends x xs h = starts_plain x xs ∙ ap (λ b. b && are_plain_starts xs) h

-- a pair of tests is something to do
pub plain_pair : (x : Bool) → (x && not true) ≡ false
plain_pair true = refl
plain_pair false = refl
