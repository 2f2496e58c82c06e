use Rattle.std.proofs.Common.{◌≡◌, ◌+◌, ◌*◌, ◌%◌, ◌^◌, ◌<◌, ◌∙◌, ap, ap₂, sym, subst, arith, IfOk}
use Rattle.c_values.specs.Types.{Struct, address_width}
use Rattle.c_values.specs.Layout.{shape_of, size, space}
use Rattle.c_values.specs.Path.{Field}
use Rattle.std.proofs.lemmas.Nat.{mod_below, pow_pos}
use Rattle.c_values.specs.CodeTypes.{target_of, type_of}
use Rattle.c_values.specs.CodeValue.{value_of}
use Rattle.c_memory.specs.Memory.{load, loaded_members}
use Rattle.c_values.specs.CodeParts.{values_in, joined}
use Rattle.c_values.specs.CodeLone.{inside, around}
use Rattle.c_values.proofs.Height.{height}
use Rattle.c_values.proofs.Lone.{inside_lower}
use Rattle.c_memory.proofs.Lone.{inside_object, load_around}
use Rattle.c_memory.specs.CodePages.{byte_at}
use Rattle.c_memory.proofs.Walks.{element_object, member_object}
use Rattle.c_memory.proofs.Inside.{step_lower}
use Rattle.c_memory.proofs.Rows.{member_number, fields_of, drop_fields}
use Rattle.c_memory.proofs.Joined.{element_loaded, member_loaded, members_loaded}
use Rattle.c_memory.proofs.loads.+load.Goals as goal

pub load-load_by_kind-requires : goal.load-load_by_kind-requires
load-load_by_kind-requires t c =
    let l = c.args.l.now in
    let ty = type_of c.args.t.now in
    let low = inside_lower l ty in
    let same : height (shape_of l (type_of c.inside.result.now)) ≡ height (shape_of l (inside ty)) = ap (λ u. height (shape_of l u)) c.inside.ensures in
    (omega (arith, low, same, c.decreases), (rw c.inside.ensures (inside_object l ty c.requires.object), (c.requires.address, c.requires.bytes)))

pub load-returns : goal.load-returns
load-returns t c =
    let l = c.args.l.now in
    let ty = type_of c.args.t.now in
    let bytes = byte_at c.args.pages.now in
    subst (λ w. IfOk c.around.result (λ v. value_of v ≡ w))
    (ap (λ w. around ty w) (c.in_ok-value.ensures ∙ ap (λ u. load (space l) bytes (shape_of l u) c.args.address) c.inside.ensures) ∙ load_around (space l) bytes c.args.address l ty)
    c.around.ensures

pub load_array-size_of-requires : goal.load_array-size_of-requires
load_array-size_of-requires t c = element_object c.args.l.now (type_of c.args.element.now) c.args.length c.requires.object

pub load_array-elements-preserved : goal.load_array-elements-preserved
load_array-elements-preserved t c =
    let l = c.args.l.now in
    let e = shape_of l (type_of c.args.element.now) in
    let n = c.from-size.ensures ∙ c.size_of.ensures.value in
    let at : c.moved-address.result ≡ (c.args.address + c.elements.i * size e) % space l =
    c.moved-address.ensures ∙ ap₂ (λ k w. (c.args.address + k) % 2 ^ address_width w) (ap₂ (λ i m. i * m) c.from.ensures n) c.target.ensures.value in
    ap values_in c.in_ok-push.ensures.items
    ∙ (element_loaded (space l) (byte_at c.args.pages.now) c.args.address e c.elements.i c.moved-address.result c.elements.values.items c.in_ok-load.field-0 c.elements.invariant at c.in_ok-load.ensures)

pub load_struct-load-requires : goal.load_struct-load-requires
load_struct-load-requires t c =
    let l = c.args.l.now in
    let u = type_of c.in-Some.ty.now in
    let low = step_lower (shape_of l (Struct c.args.name.now)) (Field c.members.k) _ c.in-Some.ensures.some in
    let small = mod_below (c.args.address + c.from.result) (2 ^ address_width (target_of c.target.result)) (pow_pos (address_width (target_of c.target.result))) in
    let wide = ap (λ w. 2 ^ address_width w) c.target.ensures.value in
    let d = c.requires.1 in (
      omega (arith, low, d.0),
      (
        member_object l c.args.name.now c.members.k c.in-Some.at u c.in-Some.ensures.layout c.requires.1.1.0 c.in-Some.ensures.some,
        (subst (λ n. n < space l) (sym c.moved-address.ensures) (subst (λ n. (c.args.address + c.from.result) % 2 ^ address_width (target_of c.target.result) < n) wide small), c.requires.1.1.1),
      ),
    )

pub load_struct-overflow_add-k : goal.load_struct-overflow_add-k
load_struct-overflow_add-k t c =
    let few = member_number c.args.l.now (Struct c.args.name.now) c.members.k _ c.in-Some.ensures.layout c.requires.1.1.0 c.in-Some.ensures.some in
    record { fits = omega (arith, few) }

pub load_struct-members-smaller : goal.load_struct-members-smaller
load_struct-members-smaller t c =
    let few = member_number c.args.l.now (Struct c.args.name.now) c.members.k _ c.in-Some.ensures.layout c.requires.1.1.0 c.in-Some.ensures.some in
    omega (arith, few)

pub load_struct-members-preserved : goal.load_struct-members-preserved
load_struct-members-preserved t c =
    let l = c.args.l.now in
    let s = shape_of l (Struct c.args.name.now) in
    let at : c.moved-address.result ≡ (c.args.address + c.in-Some.at) % space l =
    c.moved-address.ensures ∙ ap₂ (λ k w. (c.args.address + k) % 2 ^ address_width w) c.from.ensures c.target.ensures.value in
    ap (λ xs. joined (values_in xs) (loaded_members (space l) (byte_at c.args.pages.now) (drop_fields (c.members.k + 1) (fields_of s)) c.args.address)) c.in_ok-push.ensures.items
    ∙ member_loaded (space l) (byte_at c.args.pages.now) c.args.address s c.members.k c.in-Some.at c.moved-address.result (shape_of l (type_of c.in-Some.ty.now)) c.members.values.items c.in_ok-load.field-0
    c.members.invariant c.in-Some.ensures.some at c.in_ok-load.ensures

pub load_struct-returns : goal.load_struct-returns
load_struct-returns t c =
    c.with_parts.ensures
    ∙ members_loaded (space c.args.l.now) (byte_at c.args.pages.now) c.args.address c.args.l.now c.args.name.now c.members.k c.members.values.items c.in_default.ensures.layout c.requires.1.1.0 c.members.invariant c.in_default.ensures.none
