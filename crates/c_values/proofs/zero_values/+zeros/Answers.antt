-- The zeros of the parts are those of the whole.
use Rattle.std.proofs.Common.{◌≡◌, max, sym, ap, ◌∙◌, subst, map, arith, IfOk}
use Rattle.std.proofs.lemmas.List.{nil_from_length}
use Rattle.c_values.specs.Value.{Parts}
use Rattle.c_values.specs.Layout.{shape_of, placed}
use Rattle.c_values.specs.Path.{zeros, copies, member_zeros}
use Rattle.c_values.specs.CodeLayout.{member_of, struct_def_of}
use Rattle.c_values.specs.CodeTypes.{type_of}
use Rattle.c_values.specs.CodeValue.{value_of}
use Rattle.c_values.proofs.Height.{height}
use Rattle.c_values.proofs.Listed.{parts_value}
use Rattle.c_values.specs.CodeParts.{values_in, joined}
use Rattle.c_values.specs.CodeLone.{inside, around}
use Rattle.c_values.proofs.Lone.{inside_lower}
use Rattle.c_values.proofs.Zeroed.{zeros_each, heights, element_made, member_made, members_made, struct_zeros, struct_height, incomplete_struct, zeros_around}
use Rattle.c_values.proofs.zero_values.+zeros.Goals as goal

pub zeros_of_array-elements-preserved : goal.zeros_of_array-elements-preserved
zeros_of_array-elements-preserved t c =
    element_made (zeros (shape_of c.args.layout.now (type_of c.args.element.now))) c.elements._i c.elements.values.items c.in_ok-zeros_of_type.field-0 c.push.new.self.items
    c.elements.invariant c.in_ok-zeros_of_type.ensures c.in_ok-push.ensures.items

pub zeros_of_array-returns : goal.zeros_of_array-returns
zeros_of_array-returns t c =
    let all : c.elements._i ≡ c.args.length = omega arith in
    parts_value c.elements.values ∙ ap (λ vs. Parts vs) (c.elements.invariant ∙ ap (λ n. copies n (zeros (shape_of c.args.layout.now (type_of c.args.element.now)))) all)

pub zeros_of_members-members-preserved : goal.zeros_of_members-members-preserved
zeros_of_members-members-preserved t c =
    let shape = shape_of c.args.layout.now in
    let m = c.in-Some.field-0-0.now in
    let others = c.in-Some.more.now in
    let split = c.in-Some.ensures.cases.0 in
    let highest : heights shape (map member_of c.members.rest.now) ≡ max (height (shape (type_of m.1))) (heights shape (map member_of others)) = ap (λ ms. heights shape (map member_of ms)) split in (
      omega (arith, highest, c.members.invariant.0),
      member_made (zeros (shape (type_of m.1))) c.members.values.items c.in_ok-zeros_of_type.field-0 c.push.new.self.items
          (zeros_each shape (map member_of others)) (zeros_each shape (map member_of c.args.members.now))
          (ap (λ ms. joined (values_in c.members.values.items) (zeros_each shape (map member_of ms))) (sym split) ∙ c.members.invariant.1)
          c.in_ok-zeros_of_type.ensures c.in_ok-push.ensures.items,
    )

pub zeros_of_members-returns : goal.zeros_of_members-returns
zeros_of_members-returns t c =
    let shape = shape_of c.args.layout.now in
    let none = nil_from_length c.members.rest.now c.in_default.ensures.cases in
    parts_value c.members.values
    ∙ members_made shape (map member_of c.args.members.now) c.members.values.items
    (ap (λ ms. joined (values_in c.members.values.items) (zeros_each shape (map member_of ms))) (sym none) ∙ c.members.invariant.1)

pub zeros_of_struct-zeros_of_members-requires : goal.zeros_of_struct-zeros_of_members-requires
zeros_of_struct-zeros_of_members-requires t c =
    let l = c.args.layout.now in
    let d = c.in-Some.definition.now in
    let high = struct_height l c.args.name.now (struct_def_of d) c.requires.1.1.0 c.in-Some.ensures in
    let same : heights (shape_of l) (map member_of c.as_slice.result.now) ≡ heights (shape_of l) (map member_of d.members.items) = ap (λ ms. heights (shape_of l) (map member_of ms)) c.as_slice.ensures.value in
    (omega (arith, high, same, c.requires.1.0), c.requires.1.1)

pub zeros_of_struct-returns-in-None : goal.zeros_of_struct-returns-in-None
zeros_of_struct-returns-in-None t c =
    c.no_parts.ensures ∙ ap zeros (sym (incomplete_struct c.args.layout.now c.args.name.now c.in-None.ensures))

pub zeros_of_struct-returns-in-Some : goal.zeros_of_struct-returns-in-Some
zeros_of_struct-returns-in-Some t c =
    let l = c.args.layout.now in
    let d = c.in-Some.definition.now in
    subst (λ w. IfOk c.zeros_of_members.result (λ v. value_of v ≡ w))
    (ap (λ ms. Parts (member_zeros (placed (shape_of l) 0 (map member_of ms)))) c.as_slice.ensures.value
    ∙ struct_zeros l c.args.name.now (struct_def_of d) c.requires.1.1.0 c.in-Some.ensures)
    c.zeros_of_members.ensures

pub zeros_of_type-zeros_by_kind-requires : goal.zeros_of_type-zeros_by_kind-requires
zeros_of_type-zeros_by_kind-requires t c =
    let l = c.args.layout.now in
    let low = inside_lower l (type_of c.args.ty.now) in
    let same : height (shape_of l (type_of c.inside.result.now)) ≡ height (shape_of l (inside (type_of c.args.ty.now))) = ap (λ u. height (shape_of l u)) c.inside.ensures in
    (omega (arith, low, same, c.decreases), (c.requires.layout, c.requires.target))

pub zeros_of_type-returns : goal.zeros_of_type-returns
zeros_of_type-returns t c =
    let l = c.args.layout.now in
    let ty = type_of c.args.ty.now in
    subst (λ w. IfOk c.around.result (λ v. value_of v ≡ w))
    (ap (λ w. around ty w) (c.in_ok-value.ensures ∙ ap (λ u. zeros (shape_of l u)) c.inside.ensures) ∙ zeros_around l ty)
    c.around.ensures
