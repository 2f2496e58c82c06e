use Rattle.std.proofs.Common.{◌≡◌, true, ap, subst, sym, ◌∙◌}
use Rattle.std.specs.Prelude.{string_bytes}
use Rattle.c_values.specs.Types.{CType, Struct}
use Rattle.c_values.specs.Layout.{is_object, shape_of}
use Rattle.c_values.specs.Path.{Field, step_spot}
use Rattle.c_values.specs.CodeTypes.{type_of}
use Rattle.c_memory.proofs.Walks.{member_object}
use Rattle.c_memory.proofs.paths.member_of.Goals as goal

pub size_of-size-requires : goal.size_of-size-requires
size_of-size-requires c =
    let l = c.args.l.now in
    let x = string_bytes c.in-Struct.name in
    let object = subst (λ (t : CType). is_object l t ≡ true) (ap type_of c.in-Struct.is) c.requires.object in
    member_object l x c.args.k c.in_ok-offset.offset (type_of c.in_ok-offset.ty.now) c.requires.layout object
    (ap (λ n. step_spot (shape_of l (Struct n)) (Field c.args.k)) (sym c.as_str.ensures.value) ∙ c.in_ok-offset.ensures.some)

pub returns-clause-object : goal.returns-clause-object
returns-clause-object c =
    let l = c.args.l.now in
    let x = string_bytes c.in-Struct.name in
    let object = subst (λ (t : CType). is_object l t ≡ true) (ap type_of c.in-Struct.is) c.requires.object in
    member_object l x c.args.k c.in_ok-offset.offset (type_of c.in_ok-offset.ty.now) c.requires.layout object
    (ap (λ n. step_spot (shape_of l (Struct n)) (Field c.args.k)) (sym c.as_str.ensures.value) ∙ c.in_ok-offset.ensures.some)
