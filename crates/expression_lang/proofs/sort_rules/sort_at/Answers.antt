-- The sorts of structs and arrays are those of their shapes.
use Rattle.std.proofs.Common.{◌≡◌, true, Option, Some, ap, sym, subst}
use Rattle.std.specs.Prelude.{string_bytes}
use Rattle.c_values.specs.Layout.{shape_of, is_complete}
use Rattle.c_values.specs.CodeTypes.{type_of}
use Rattle.expression_lang.specs.Sort.{Sort, PartsSort, sort_at}
use Rattle.expression_lang.proofs.Sorting.{struct_sort, array_sort}
use Rattle.expression_lang.proofs.sort_rules.sort_at.Goals as goal

pub returns-in-Struct : goal.returns-in-Struct
returns-in-Struct c whole =
    let l = c.args.l.now in
    let e = ap type_of c.in-Struct.is in
    subst (λ u. ◌≡◌ {A = Option Sort} (Some (PartsSort u)) (sort_at (shape_of l u))) (sym e)
    (struct_sort l (string_bytes c.in-Struct.field-0) c.target-target.ensures.layout (subst (λ u. is_complete (shape_of l u) ≡ true) e whole))

pub returns-in-Array : goal.returns-in-Array
returns-in-Array c whole =
    let l = c.args.l.now in
    let e = ap type_of c.in-Array.is in
    subst (λ u. ◌≡◌ {A = Option Sort} (Some (PartsSort u)) (sort_at (shape_of l u))) (sym e)
    (array_sort l (type_of c.in-Array.field-0.value) c.in-Array.field-1 c.target-target.ensures.layout (subst (λ u. is_complete (shape_of l u) ≡ true) e whole))
