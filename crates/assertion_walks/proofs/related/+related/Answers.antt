-- A struct has the parts of its members, and itself.
use Rattle.std.proofs.Common.{◌≡◌, Some, None, ◌||◌, map, sym, ap, ◌∙◌, arith}
use Rattle.std.specs.Prelude.{string_bytes}
use Rattle.c_values.specs.Types.{Struct, same_type}
use Rattle.c_values.specs.Layout.{shape_of}
use Rattle.c_values.specs.Growth.{struct_named}
use Rattle.c_values.specs.CodeTypes.{type_of}
use Rattle.c_values.specs.CodeLayout.{member_of, struct_def_of}
use Rattle.c_values.proofs.Height.{height}
use Rattle.c_values.proofs.Zeroed.{heights, struct_height, incomplete_struct}
use Rattle.assertion_walks.specs.CodeRelated.{has_part, members_have}
use Rattle.assertion_walks.proofs.PartsHad.{struct_has}
use Rattle.assertion_walks.proofs.related.+related.Goals as goal

pub has_part-members_have-requires : goal.has_part-members_have-requires
has_part-members_have-requires t c =
    let l = c.args.l.now in
    let d = struct_def_of c.in-Some.definition.now in
    let named : Some d ≡ struct_named l.structs (string_bytes c.in-Struct.name) =
    c.in-Some.ensures ∙ ap (λ x. struct_named l.structs x) c.as_str.ensures.value in
    let high = struct_height l (string_bytes c.in-Struct.name) d c.target.ensures.layout named in
    let whole : height (shape_of l (type_of c.args.whole.now)) ≡ height (shape_of l (Struct (string_bytes c.in-Struct.name))) =
    ap (λ w. height (shape_of l (type_of w))) c.in-Struct.is in
    let same : heights (shape_of l) (map member_of c.as_slice.result.now) ≡ heights (shape_of l) d.members =
    ap (λ ms. heights (shape_of l) (map member_of ms)) c.as_slice.ensures.value in
    (omega (arith, high, whole, same, c.decreases), tt)

pub has_part-returns-in-None : goal.has_part-returns-in-None
has_part-returns-in-None t c =
    let l = c.args.l.now in
    let u = type_of c.args.t.now in
    let named : None ≡ struct_named l.structs (string_bytes c.in-Struct.name) =
    c.in-None.ensures ∙ ap (λ x. struct_named l.structs x) c.as_str.ensures.value in
    sym (ap (λ w. has_part (shape_of l (type_of w)) u) c.in-Struct.is
    ∙ ap (λ s. has_part s u) (incomplete_struct l (string_bytes c.in-Struct.name) named))

pub has_part-returns-then-is_type : goal.has_part-returns-then-is_type
has_part-returns-then-is_type t c =
    let l = c.args.l.now in
    let u = type_of c.args.t.now in
    let d = struct_def_of c.in-Some.definition.now in
    let named : Some d ≡ struct_named l.structs (string_bytes c.in-Struct.name) =
    c.in-Some.ensures ∙ ap (λ x. struct_named l.structs x) c.as_str.ensures.value in
    let itself : same_type (Struct (string_bytes c.in-Struct.name)) u ≡ c.is_type.result =
    sym (c.is_type.ensures ∙ ap (λ w. same_type (type_of w) u) c.in-Struct.is) in
    sym (ap (λ w. has_part (shape_of l (type_of w)) u) c.in-Struct.is
    ∙ struct_has l (string_bytes c.in-Struct.name) d u c.target.ensures.layout named
    ∙ ap (λ b. b || members_have (shape_of l) d.members u) (itself ∙ c.if-is_type.true) ∙ sym c.if-is_type.true)

pub has_part-returns-else-is_type : goal.has_part-returns-else-is_type
has_part-returns-else-is_type t c =
    let l = c.args.l.now in
    let u = type_of c.args.t.now in
    let d = struct_def_of c.in-Some.definition.now in
    let named : Some d ≡ struct_named l.structs (string_bytes c.in-Struct.name) =
    c.in-Some.ensures ∙ ap (λ x. struct_named l.structs x) c.as_str.ensures.value in
    let itself : same_type (Struct (string_bytes c.in-Struct.name)) u ≡ c.is_type.result =
    sym (c.is_type.ensures ∙ ap (λ w. same_type (type_of w) u) c.in-Struct.is) in
    sym (ap (λ w. has_part (shape_of l (type_of w)) u) c.in-Struct.is
    ∙ struct_has l (string_bytes c.in-Struct.name) d u c.target.ensures.layout named
    ∙ ap (λ b. b || members_have (shape_of l) d.members u) (itself ∙ c.if-is_type.false)
    ∙ ap (λ ms. members_have (shape_of l) (map member_of ms) u) (sym c.as_slice.ensures.value) ∙ sym c.members_have.ensures)
