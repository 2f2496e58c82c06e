-- The first part goes inside, and the list around it takes its place.
use Rattle.std.proofs.Common.{◌≡◌, ℕ, zero, suc, ◌==◌, ◌<◌, Bool, false, length, vec_len, get_or, ap, sym, ◌∙◌, arith}
use Rattle.ac_sx.proofs.Listed.{list_nodes, all_nodes-set, first_within}
use Rattle.ac_sx.proofs.sx.Sx.without_leaf.Goals as goal

pub returns-then-is_empty : goal.returns-then-is_empty
returns-then-is_empty c =
    let whole = list_nodes c.in-List.list c.inner.self c.in-List.is in
    let kept = c.inner.invariant in
    omega (arith, whole, kept)

some_parts : (n : ℕ) (b : Bool) → b ≡ (n == 0) → b ≡ false → 0 < n
some_parts zero b e f = absurd cc
some_parts (suc n) b e f = omega arith

pub inner-smaller : goal.inner-smaller
inner-smaller c =
    let xs = c.in-List.list.items in
    let whole = list_nodes c.in-List.list c.inner.self c.in-List.is in
    let some_there = some_parts (vec_len c.in-List.list) c.is_empty-in-List.result c.is_empty-in-List.ensures c.if-is_empty-2.false in
    let some : 0 < length xs = omega (arith, some_there, c.in-List.list.ok.0) in
    let first = c.replace-self.ensures.value ∙ c.index_mut.ensures.value ∙ ap (λ t. get_or xs 0 t) (sym c.replace-self.ensures.value) in
    let within = first_within xs c.replace-self.result some first in
    omega (arith, whole, within)

pub inner-preserved : goal.inner-preserved
inner-preserved c =
    let xs = c.in-List.list.items in
    let whole = list_nodes c.in-List.list c.inner.self c.in-List.is in
    let some_there = some_parts (vec_len c.in-List.list) c.is_empty-in-List.result c.is_empty-in-List.ensures c.if-is_empty-2.false in
    let some : 0 < length xs = omega (arith, some_there, c.in-List.list.ok.0) in
    let first = c.replace-self.ensures.value ∙ c.index_mut.ensures.value ∙ ap (λ t. get_or xs 0 t) (sym c.replace-self.ensures.value) in
    let parts = all_nodes-set xs c.replace-self.result c.replace-self.new.dest some first in
    let around = list_nodes c.inner.around c.replace-self.new.dest c.replace-self.ensures.after in
    let kept = c.inner.invariant in
    omega (arith, whole, parts, around, kept)
