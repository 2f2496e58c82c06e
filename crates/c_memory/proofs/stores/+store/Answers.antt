use Rattle.std.proofs.Common.{◌≡◌, suc, ◌+◌, ◌*◌, ◌%◌, ◌^◌, ◌<◌, ◌∙◌, Some, None, slice_get, refl, ap, ap₂, sym, subst, arith}
use Rattle.std.proofs.lemmas.Nat.{mod_below, pow_pos}
use Rattle.std.specs.Prelude.{string_bytes}
use Rattle.c_values.specs.Types.{Struct, Array, address_width}
use Rattle.c_values.specs.Layout.{shape_of, size_of, space}
use Rattle.c_values.specs.Path.{Field, step_spot}
use Rattle.c_values.specs.CodeTypes.{type_of}
use Rattle.c_values.specs.CodeValue.{value_of}
use Rattle.c_values.specs.Value.{Parts}
use Rattle.c_memory.specs.Memory.{store}
use Rattle.c_values.specs.CodeParts.{values_in}
use Rattle.c_memory.specs.CodePages.{byte_at}
use Rattle.c_memory.proofs.Walks.{element_object, member_object}
use Rattle.c_memory.proofs.Inside.{step_lower}
use Rattle.c_memory.proofs.Rows.{member_number}
use Rattle.c_memory.proofs.Put.{inner_pages, member_stored, members_ended, members_cut, struct_is_stored, element_stored, elements_cut, member_within, element_within, whole_stored}
use Rattle.c_values.proofs.Height.{height}
use Rattle.c_memory.proofs.Lone.{lone_stored, none_stored}
use Rattle.c_memory.proofs.stores.+store.Goals as goal

pub store-returns-in_default-parts_of-clause-bytes : goal.store-returns-in_default-parts_of-clause-bytes
store-returns-in_default-parts_of-clause-bytes t c =
    let l = c.args.l.now in
    let u = type_of c.in-Some.element.now in
    let v = value_of c.inwards.inner.now in
    let bytes = byte_at c.args.pages.now in
    let lone = c.in-Some.ensures.some in
    sym (whole_stored l (Array u 1) (space l) c.args.address v bytes c.requires.layout (rw lone at c.inwards.invariant.object) refl c.in_default-parts_of.ensures.none)
    ∙ ap (λ w. store (space l) (shape_of l w) c.args.address v bytes) (sym lone)
    ∙ c.inwards.invariant.bytes

pub store-returns-in_default-part-clause-bytes : goal.store-returns-in_default-part-clause-bytes
store-returns-in_default-part-clause-bytes t c =
    let l = c.args.l.now in
    let u = type_of c.in-Some.element.now in
    let bytes = byte_at c.args.pages.now in
    let parts = c.in-Some-parts_of.parts.now in
    let none : slice_get parts 0 ≡ None = cc c.in_default-part.ensures in
    sym (none_stored (space l) l u c.args.address bytes parts none)
    ∙ ap₂ (λ w v. store (space l) (shape_of l w) c.args.address v bytes) (sym c.in-Some.ensures.some) (sym c.in-Some-parts_of.ensures.some)
    ∙ c.inwards.invariant.bytes

pub store-inwards-preserved : goal.store-inwards-preserved
store-inwards-preserved t c =
    let l = c.args.l.now in
    let u = type_of c.in-Some.element.now in
    let bytes = byte_at c.args.pages.now in
    let parts = c.in-Some-parts_of.parts.now in
    let lone = c.in-Some.ensures.some in
    let first : slice_get parts 0 ≡ Some c.in-Some-part.first.now = cc c.in-Some-part.ensures in
    let same : size_of l (type_of c.inwards.whole.now) ≡ 1 * size_of l u = ap (λ w. size_of l w) lone in
    let high : height (shape_of l (type_of c.inwards.whole.now)) ≡ suc (height (shape_of l u)) = ap (λ w. height (shape_of l w)) lone in
    record {
      object = element_object l u 1 (rw lone at c.inwards.invariant.object);
      size = omega (arith, same, c.inwards.invariant.size);
      lower = omega (arith, high, c.inwards.invariant.lower);
      bytes =
          sym (lone_stored (space l) l u c.args.address bytes parts c.in-Some-part.first.now first)
          ∙ ap₂ (λ w v. store (space l) (shape_of l w) c.args.address v bytes) (sym lone) (sym c.in-Some-parts_of.ensures.some)
          ∙ c.inwards.invariant.bytes;
    }

pub store_array-size_of-requires : goal.store_array-size_of-requires
store_array-size_of-requires t c = element_object c.args.l.now (type_of c.args.element.now) c.args.length c.requires.object

pub store_array-store-requires : goal.store_array-store-requires
store_array-store-requires t c =
    let l = c.args.l.now in
    let u = type_of c.args.element.now in
    let n = c.from-size.ensures ∙ c.size_of.ensures.value in
    let at : c.moved-address.result ≡ (c.args.address + c.elements.i * size_of l u) % space l =
    c.moved-address.ensures ∙ ap₂ (λ k w. (c.args.address + k) % 2 ^ address_width w) (ap₂ (λ i m. i * m) c.from.ensures n) c.target.ensures.value in
    let small = mod_below (c.args.address + c.elements.i * size_of l u) (space l) (pow_pos (address_width l.target)) in
    let fall = c.decreases in (
      omega (arith, fall),
      (
        c.size_of.ensures.layout,
        (
          element_object l u c.args.length c.requires.object,
          (
            subst (λ k. k < space l) (sym at) small,
            inner_pages (space l) c.args.pages.now c.elements.pages c.args.address (c.elements.i * size_of l u) (size_of l (Array u c.args.length)) (size_of l u) c.moved-address.result
                c.requires.pages c.elements.invariant.pages at (element_within l u c.args.length c.elements.i c.size_of.ensures.layout c.requires.object c.elements-test.true),
          ),
        ),
      ),
    )

pub store_array-elements-preserved : goal.store_array-elements-preserved
store_array-elements-preserved t c =
    let l = c.args.l.now in
    let u = type_of c.args.element.now in
    let n = c.from-size.ensures ∙ c.size_of.ensures.value in
    let at : c.moved-address.result ≡ (c.args.address + c.elements.i * size_of l u) % space l =
    c.moved-address.ensures ∙ ap₂ (λ k w. (c.args.address + k) % 2 ^ address_width w) (ap₂ (λ i m. i * m) c.from.ensures n) c.target.ensures.value in
    let part : slice_get c.args.parts.now c.elements.i ≡ Some c.in-Some.value.now = cc c.in-Some.ensures in
    record {
      bytes =
          element_stored (space l) c.args.address c.args.parts.now (shape_of l u) c.args.length c.elements.i c.moved-address.result c.in-Some.value.now (byte_at c.elements.pages) (byte_at c.store.new.pages) (byte_at c.args.pages.now)
          c.elements-test.true c.elements.invariant.bytes part at c.store.ensures.bytes;
      pages = λ k h. c.store.ensures.pages k (c.elements.invariant.pages k h);
    }

pub store_array-returns-in_default-clause-bytes : goal.store_array-returns-in_default-clause-bytes
store_array-returns-in_default-clause-bytes t c =
    let l = c.args.l.now in
    let none : slice_get c.args.parts.now c.elements.i ≡ None = cc c.in_default.ensures in
    elements_cut (space l) c.args.address c.args.parts.now (shape_of l (type_of c.args.element.now)) c.args.length c.elements.i (byte_at c.elements.pages) (byte_at c.args.pages.now) c.elements.invariant.bytes none

pub store_struct-store-requires : goal.store_struct-store-requires
store_struct-store-requires t c =
    let l = c.args.l.now in
    let x = string_bytes c.args.name.now in
    let u = type_of c.in-Some.ty.now in
    let step : step_spot (shape_of l (Struct x)) (Field c.members.k) ≡ Some _ = ap (λ y. step_spot (shape_of l (Struct y)) (Field c.members.k)) (sym c.as_str.ensures.value) ∙ c.in-Some.ensures.some in
    let low = step_lower (shape_of l (Struct x)) (Field c.members.k) _ step in
    let at : c.moved-address.result ≡ (c.args.address + c.in-Some.at) % space l =
    c.moved-address.ensures ∙ ap₂ (λ k w. (c.args.address + k) % 2 ^ address_width w) c.from.ensures c.target.ensures.value in
    let small = mod_below (c.args.address + c.in-Some.at) (space l) (pow_pos (address_width l.target)) in
    let fall = c.decreases in (
      omega (arith, low, fall),
      (
        c.in-Some.ensures.layout,
        (
          member_object l x c.members.k c.in-Some.at u c.in-Some.ensures.layout c.requires.object step,
          (
            subst (λ k. k < space l) (sym at) small,
            inner_pages (space l) c.args.pages.now c.members.pages c.args.address c.in-Some.at (size_of l (Struct x)) (size_of l u) c.moved-address.result
                c.requires.pages c.members.invariant.pages at (member_within l x c.members.k c.in-Some.at u c.in-Some.ensures.layout c.requires.object step),
          ),
        ),
      ),
    )

pub store_struct-overflow_add-k : goal.store_struct-overflow_add-k
store_struct-overflow_add-k t c =
    let step = ap (λ y. step_spot (shape_of c.args.l.now (Struct y)) (Field c.members.k)) (sym c.as_str.ensures.value) ∙ c.in-Some.ensures.some in
    let few = member_number c.args.l.now (Struct (string_bytes c.args.name.now)) c.members.k _ c.in-Some.ensures.layout c.requires.object step in
    record { fits = omega (arith, few) }

pub store_struct-members-smaller : goal.store_struct-members-smaller
store_struct-members-smaller t c =
    let step = ap (λ y. step_spot (shape_of c.args.l.now (Struct y)) (Field c.members.k)) (sym c.as_str.ensures.value) ∙ c.in-Some.ensures.some in
    let few = member_number c.args.l.now (Struct (string_bytes c.args.name.now)) c.members.k _ c.in-Some.ensures.layout c.requires.object step in
    omega (arith, few)

pub store_struct-members-preserved : goal.store_struct-members-preserved
store_struct-members-preserved t c =
    let l = c.args.l.now in
    let x = string_bytes c.args.name.now in
    let u = type_of c.in-Some.ty.now in
    let step = ap (λ y. step_spot (shape_of l (Struct y)) (Field c.members.k)) (sym c.as_str.ensures.value) ∙ c.in-Some.ensures.some in
    let at : c.moved-address.result ≡ (c.args.address + c.in-Some.at) % space l =
    c.moved-address.ensures ∙ ap₂ (λ k w. (c.args.address + k) % 2 ^ address_width w) c.from.ensures c.target.ensures.value in
    let part : slice_get c.args.parts.now c.members.k ≡ Some c.in-Some-part.value.now = cc c.in-Some-part.ensures in
    record {
      bytes =
          member_stored (space l) c.args.address c.args.parts.now (shape_of l (Struct x)) c.members.k c.in-Some.at c.moved-address.result (shape_of l u) c.in-Some-part.value.now (byte_at c.members.pages) (byte_at c.store.new.pages) (byte_at c.args.pages.now)
          c.members.invariant.bytes step part at c.store.ensures.bytes;
      pages = λ k h. c.store.ensures.pages k (c.members.invariant.pages k h);
    }

pub store_struct-returns-in_default-part-clause-bytes : goal.store_struct-returns-in_default-part-clause-bytes
store_struct-returns-in_default-part-clause-bytes t c =
    let l = c.args.l.now in
    let x = string_bytes c.args.name.now in
    let none : slice_get c.args.parts.now c.members.k ≡ None = cc c.in_default-part.ensures in
    members_cut (space l) c.args.address c.args.parts.now (shape_of l (Struct x)) c.members.k (byte_at c.members.pages) (byte_at c.args.pages.now) c.members.invariant.bytes none
    ∙ struct_is_stored (space l) c.args.address c.args.parts.now l x (byte_at c.args.pages.now) c.in-Some.ensures.layout c.requires.object

pub store_struct-returns-in_default-clause-bytes : goal.store_struct-returns-in_default-clause-bytes
store_struct-returns-in_default-clause-bytes t c =
    let l = c.args.l.now in
    let x = string_bytes c.args.name.now in
    let done = ap (λ y. step_spot (shape_of l (Struct y)) (Field c.members.k)) (sym c.as_str.ensures.value) ∙ c.in_default.ensures.none in
    members_ended (space l) c.args.address c.args.parts.now (shape_of l (Struct x)) c.members.k (byte_at c.members.pages) (byte_at c.args.pages.now) c.members.invariant.bytes done
    ∙ struct_is_stored (space l) c.args.address c.args.parts.now l x (byte_at c.args.pages.now) c.in_default.ensures.layout c.requires.object

pub store_whole-returns-in_default-clause-bytes : goal.store_whole-returns-in_default-clause-bytes
store_whole-returns-in_default-clause-bytes t c =
    let l = c.args.l.now in
    sym (whole_stored l (type_of c.args.t.now) (space l) c.args.address (value_of c.args.value.now) (byte_at c.args.pages.now) c.requires.layout c.requires.object c.requires.whole c.in_default.ensures.none)

pub store_whole-returns-in-Array-clause-bytes : goal.store_whole-returns-in-Array-clause-bytes
store_whole-returns-in-Array-clause-bytes t c =
    let l = c.args.l.now in
    let old = byte_at c.args.pages.now in
    let n = c.in-Array.length in
    let parts = Parts (values_in c.in-Some.parts.now) in
    let put : byte_at c.store_array.new.pages ≡ store (space l) (shape_of l (Array (type_of c.deref.result.now) n)) c.args.address parts old = c.store_array.ensures.bytes in
    let same : Array (type_of c.deref.result.now) n ≡ type_of c.args.t.now = ap (λ u. Array (type_of u) n) c.deref.ensures ∙ sym (ap type_of c.in-Array.is) in
    put
    ∙ ap (λ u. store (space l) (shape_of l u) c.args.address parts old) same
    ∙ sym (ap (λ v. store (space l) (shape_of l (type_of c.args.t.now)) c.args.address v old) c.in-Some.ensures.some)
