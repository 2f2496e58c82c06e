-- The steps of the code on its stack of depths, against those of the list of them.
use Rattle.std.proofs.Common.{ℕ, ◌≡◌, ◌∙◌, ◌<◌, ◌+◌, ◌-◌, ◌++◌, max, List, [], ◌∷◌, suc, reverse, ap, sym, arith}
use Rattle.std.proofs.lemmas.List.{reverse-append}
use Rattle.c_limits.specs.CodeBounds.{deepest}

-- the stack after a push, the last depth first
pub depth_pushed : (xs ys : List ℕ) (x : ℕ) → ys ≡ xs ++ x ∷ [] → reverse ys ≡ x ∷ reverse xs
depth_pushed xs ys x h = ap (λ l. reverse l) h ∙ reverse-append xs (x ∷ [])

-- a depth is taken from the stack
pub deepest_more : (count i : ℕ) (xs ys : List ℕ) (x depth next : ℕ) → i < count → xs ≡ ys ++ x ∷ [] → next ≡ max x depth →
    deepest (count - (i + 1)) (reverse ys) next ≡ deepest (count - i) (reverse xs) depth
deepest_more count i xs ys x depth next h popped made_next =
    let left : count - i ≡ suc (count - (i + 1)) = omega arith in
    ap (λ d. deepest (count - (i + 1)) (reverse ys) d) made_next
    ∙ sym (ap (λ n. deepest n (reverse xs) depth) left ∙ ap (λ ds. deepest (suc (count - (i + 1))) ds depth) (depth_pushed ys xs x popped))
