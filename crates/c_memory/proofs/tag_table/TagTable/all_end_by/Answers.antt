use Rattle.std.proofs.Common.{◌≡◌, ◌-◌, ◌<◌, ◌≤◌, ℕ, nat_le, Bool, true, false, MatchBool, subst, sym, ap, ◌∙◌, refl, arith}
use Rattle.std.proofs.lemmas.Bool.{leb-true, leb-false}
use Rattle.c_values.specs.Layout.{is_object, size_of}
use Rattle.c_memory.specs.Memory.{Tag}
use Rattle.c_memory.specs.CodeTag.{tag_of}
use Rattle.c_memory.specs.CodeTagIndex.{AllEndBy, OneEndsAfter}
use Rattle.c_memory.proofs.Neighbours.{tag_at, item_at, last_ends}
use Rattle.c_memory.proofs.tag_table.TagTable.all_end_by.Goals as goal

by_test : (P Q : Type 0) (m n : ℕ) → (m ≤ n → P) → (n < m → Q) → MatchBool (nat_le m n) P Q
by_test P Q m n f g = by_case (nat_le m n) refl
  where
    by_case : (b : Bool) → nat_le m n ≡ b → MatchBool b P Q
    by_case true e = f (leb-true m n e)
    by_case false e = g (leb-false m n e)

pub size_of-requires : goal.size_of-requires
size_of-requires c =
    let last = c.in-Some.ensures.some in
    let same = item_at tag_of c.tags.result.now c.args.self.now c.in-Some.k c.index-tags-k.result last.tag c.tags.ensures last.is c.index-tags-k.is in
    subst (λ (t : Tag). is_object c.args.l.now t.type ≡ true) (sym same) (tag_at c.args.l.now c.args.self.now c.in-Some.k last.tag c.requires last.is).object

pub returns-in-Some : goal.returns-in-Some
returns-in-Some c =
    let l = c.args.l.now in
    let ts = c.args.self.now in
    let a = c.args.address in
    let k = c.in-Some.k in
    let last = c.in-Some.ensures.some in
    let same = item_at tag_of c.tags.result.now ts k c.index-tags-k.result last.tag c.tags.ensures last.is c.index-tags-k.is in
    let start : c.index-tags-k.result.0 ≡ last.tag.address = ap (λ t. t.address) same in
    let n : c.from.result ≡ size_of l last.tag.type = c.from.ensures ∙ c.size_of.ensures.value ∙ ap (λ t. size_of l t.type) same in
    by_test (AllEndBy l ts a) (OneEndsAfter l ts a) c.from.result (a - c.index-tags-k.result.0)
    (λ le. last_ends l c.size_of.ensures.layout ts c.requires a k last (omega (arith, n, start, last.below)))
    (λ lt. record { position = k; tag = last.tag; is = last.is; below = last.below; over = omega (arith, n, start, last.below) })
