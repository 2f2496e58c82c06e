-- The size of an element is the whole's, divided by their number.
use Rattle.std.proofs.Common.{◌≡◌, ◌<◌, ◌≤◌, ◌/◌, true, ◌∙◌, arith, sym, subst}
use Rattle.c_values.specs.Types.{Array}
use Rattle.c_values.specs.Layout.{size_of, is_object}
use Rattle.c_values.specs.CodeTypes.{type_of}
use Rattle.c_memory.proofs.Walks.{element_object, element_size}
use Rattle.c_memory.proofs.Rows.{object_some, lies_in_element, lies_in_no_element}
use Rattle.c_memory.proofs.parts.part_at.Goals as goal

pub nonzero_div-index : goal.nonzero_div-index
nonzero_div-index c =
    let l = c.args.l.now in
    let u = type_of c.in-Array.element.value in
    let object : is_object l (Array u c.in-Array.length) ≡ true = rw c.in-Array.is at c.requires.object in
    let whole : c.args.size ≡ size_of l (Array u c.in-Array.length) = rw c.in-Array.is at c.requires.size in
    let some = object_some l u c.requires.layout (element_object l u c.in-Array.length object) in
    let each = element_size l u c.in-Array.length c.args.size object whole in
    omega (arith, some, each, c.from-bytes.ensures)

pub nonzero_rem-result : goal.nonzero_rem-result
nonzero_rem-result c =
    let l = c.args.l.now in
    let u = type_of c.in-Array.element.value in
    let object : is_object l (Array u c.in-Array.length) ≡ true = rw c.in-Array.is at c.requires.object in
    let whole : c.args.size ≡ size_of l (Array u c.in-Array.length) = rw c.in-Array.is at c.requires.size in
    let some = object_some l u c.requires.layout (element_object l u c.in-Array.length object) in
    let each = element_size l u c.in-Array.length c.args.size object whole in
    omega (arith, some, each, c.from-bytes.ensures)

pub returns-then-index-from-clause-none : goal.returns-then-index-from-clause-none
returns-then-index-from-clause-none c =
    let l = c.args.l.now in
    let u = type_of c.in-Array.element.value in
    let n = c.in-Array.length in
    let object : is_object l (Array u n) ≡ true = rw c.in-Array.is at c.requires.object in
    let whole : c.args.size ≡ size_of l (Array u n) = rw c.in-Array.is at c.requires.size in
    let bytes = c.from-bytes.ensures ∙ element_size l u n c.args.size object whole in
    let out = subst (λ m. m ≤ c.args.offset / c.from-bytes.result) c.from.ensures c.if-index-from.true in
    rw c.in-Array.is (lies_in_no_element l u n c.args.offset c.from-bytes.result bytes out)

pub returns-else-index-from-clause-some : goal.returns-else-index-from-clause-some
returns-else-index-from-clause-some c =
    let l = c.args.l.now in
    let u = type_of c.in-Array.element.value in
    let n = c.in-Array.length in
    let object : is_object l (Array u n) ≡ true = rw c.in-Array.is at c.requires.object in
    let whole : c.args.size ≡ size_of l (Array u n) = rw c.in-Array.is at c.requires.size in
    let bytes = c.from-bytes.ensures ∙ element_size l u n c.args.size object whole in
    let some = object_some l u c.requires.layout (element_object l u n object) in
    rw (c.in-Array.is, c.deref.ensures)
    (lies_in_element l u n c.args.offset c.from-bytes.result object bytes (subst (λ k. 0 < k) (sym bytes) some)
    (subst (λ m. c.args.offset / c.from-bytes.result < m) c.from.ensures c.if-index-from.false))
