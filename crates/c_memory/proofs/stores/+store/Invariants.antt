use Rattle.std.proofs.Common.{◌≡◌, ◌+◌, ◌-◌, ◌*◌, ◌≤◌, true, drop}
use Rattle.std.specs.Prelude.{string_bytes}
use Rattle.c_values.specs.Types.{Struct}
use Rattle.c_values.specs.Layout.{shape_of, size_of, is_object, size, space}
use Rattle.c_values.specs.CodeTypes.{type_of}
use Rattle.c_values.specs.CodeValue.{value_of}
use Rattle.c_values.proofs.Height.{height}
use Rattle.c_memory.specs.Memory.{store, stored_members, stored_elements}
use Rattle.c_memory.specs.CodePages.{byte_at, KeepsPages}
use Rattle.c_values.specs.CodeParts.{values_in}
use Rattle.c_memory.proofs.Rows.{fields_of, drop_fields}
use Rattle.c_memory.proofs.stores.+store.Given as goal

abbrev pub decreases-store : goal.decreases-store
decreases-store l = 4 * height (shape_of l.l.now (type_of l.t.now)) + 3

abbrev pub decreases-store_by_kind : goal.decreases-store_by_kind
decreases-store_by_kind l = 4 * height (shape_of l.l.now (type_of l.t.now)) + 2

abbrev pub decreases-store_whole : goal.decreases-store_whole
decreases-store_whole l = 4 * height (shape_of l.l.now (type_of l.t.now)) + 1

abbrev pub decreases-store_struct : goal.decreases-store_struct
decreases-store_struct l = 4 * height (shape_of l.l.now (Struct (string_bytes l.name.now)))

abbrev pub decreases-store_array : goal.decreases-store_array
decreases-store_array l = 4 * height (shape_of l.l.now (type_of l.element.now)) + 4

abbrev pub invariant-store_array-elements : goal.invariant-store_array-elements
invariant-store_array-elements l =
    let e = shape_of l.l (type_of l.element) in
    record {
      bytes :
          stored_elements (λ b v bs. store (space l.l) e b v bs) (size e) (l.address + l.i * size e) (l.length - l.i) (values_in (drop l.i l.parts)) (byte_at l.pages)
          ≡ stored_elements (λ b v bs. store (space l.l) e b v bs) (size e) l.address l.length (values_in l.parts) (byte_at l.fn.pages);
      pages : KeepsPages l.fn.pages l.pages;
    }

abbrev pub invariant-store_struct-members : goal.invariant-store_struct-members
invariant-store_struct-members l =
    let s = shape_of l.l (Struct (string_bytes l.name)) in
    record {
      bytes :
          stored_members (space l.l) (drop_fields l.k (fields_of s)) l.address (values_in (drop l.k l.parts)) (byte_at l.pages)
          ≡ stored_members (space l.l) (fields_of s) l.address (values_in l.parts) (byte_at l.fn.pages);
      pages : KeepsPages l.fn.pages l.pages;
    }

abbrev pub decreases-store_struct-members : goal.decreases-store_struct-members
decreases-store_struct-members l = 65536 - l.k

abbrev pub invariant-store-inwards : goal.invariant-store-inwards
invariant-store-inwards l = record {
  object : is_object l.l (type_of l.whole) ≡ true;
  size : size_of l.l (type_of l.whole) ≡ size_of l.l (type_of l.t);
  lower : height (shape_of l.l (type_of l.whole)) ≤ height (shape_of l.l (type_of l.t));
  bytes :
      store (space l.l) (shape_of l.l (type_of l.whole)) l.address (value_of l.inner) (byte_at l.pages)
      ≡ store (space l.l) (shape_of l.l (type_of l.t)) l.address (value_of l.fn.value) (byte_at l.pages);
}

abbrev pub decreases-store-inwards : goal.decreases-store-inwards
decreases-store-inwards l = height (shape_of l.l (type_of l.whole))
