-- The sorts of parts.
use Rattle.std.proofs.Common.{◌&&◌, ◌∙◌, ap, sym}
use Rattle.std.specs.Prelude.{string_bytes}
use Rattle.std.specs.Option.{option_map}
use Rattle.c_values.specs.Layout.{is_object, shape_of}
use Rattle.c_values.specs.Types.{address_width}
use Rattle.c_values.specs.CodeTypes.{type_of}
use Rattle.expression_lang.specs.Sort.{sort_of, is_word_of}
use Rattle.expression_lang.specs.CodeAlong.{parts_type}
use Rattle.expression_lang.specs.CodeArity.{first_part}
use Rattle.expression_lang.specs.CodeExpression.{exp_of, path_of}
use Rattle.expression_lang.specs.CodeSort.{sort_value, scope_by}
use Rattle.expression_lang.proofs.PartSorts.{root_sorted, global_sorted, sel_sorted, upd_sorted}
use Rattle.expression_lang.proofs.sorts.+sorts.Goals as goal

pub global_sort-returns-in-Some : goal.global_sort-returns-in-Some
global_sort-returns-in-Some g t c =
    let scope = scope_by c.args.l.now (g.N.Scope.scalars c.args.names.now) c.args.globals.now in
    global_sorted scope (string_bytes c.in-Global.x) (path_of c.in-Global.path) (type_of c.in-Some.t.now) c.is_object.result
    (option_map (λ u. shape_of c.args.l.now (type_of u.now)) c.along.result)
    (option_map sort_value c.part_sort.result)
    (c.in-Some.ensures ∙ ap scope.globals c.as_str.ensures.value) c.is_object.ensures c.along.ensures c.part_sort.ensures.sort
    ∙ sym (ap (λ e. sort_of scope (exp_of e)) c.in-Global.is)

pub place_sort-returns-in-Load : goal.place_sort-returns-in-Load
place_sort-returns-in-Load g t c =
    let scope = scope_by c.args.l.now (g.N.Scope.scalars c.args.names.now) c.args.globals.now in
    let u = type_of c.in-Load.t in
    root_sorted scope u (exp_of c.in-Load.field-1.value) (path_of c.in-Load.path) c.is_root-in-Load.result
    (option_map (λ v. shape_of c.args.l.now (type_of v.now)) c.along-in-Load.result)
    (option_map sort_value c.part_sort.result)
    (c.is_root-in-Load.ensures
    ∙ ap (λ o. is_object c.args.l.now u && is_word_of (address_width c.args.l.now.target) o)
    (c.sort_of-root.ensures ∙ ap (λ e. sort_of scope e) c.first.ensures.same ∙ ap (λ d. sort_of scope (first_part (exp_of d))) c.in-Load.is))
    c.along-in-Load.ensures c.part_sort.ensures.sort
    ∙ sym (ap (λ d. sort_of scope (exp_of d)) c.in-Load.is)

pub place_sort-returns-in-Read : goal.place_sort-returns-in-Read
place_sort-returns-in-Read g t c =
    let scope = scope_by c.args.l.now (g.N.Scope.scalars c.args.names.now) c.args.globals.now in
    let u = type_of c.in-Read.t in
    root_sorted scope u (exp_of c.in-Read.field-1.value) (path_of c.in-Read.path) c.is_root-in-Read.result
    (option_map (λ v. shape_of c.args.l.now (type_of v.now)) c.along-in-Read.result)
    (option_map sort_value c.part_sort-in-Read.result)
    (c.is_root-in-Read.ensures
    ∙ ap (λ o. is_object c.args.l.now u && is_word_of (address_width c.args.l.now.target) o)
    (c.sort_of-root.ensures ∙ ap (λ e. sort_of scope e) c.first.ensures.same ∙ ap (λ d. sort_of scope (first_part (exp_of d))) c.in-Read.is))
    c.along-in-Read.ensures c.part_sort-in-Read.ensures.sort
    ∙ sym (ap (λ d. sort_of scope (exp_of d)) c.in-Read.is)

pub place_sort-returns-in-Some : goal.place_sort-returns-in-Some
place_sort-returns-in-Some g t c =
    let scope = scope_by c.args.l.now (g.N.Scope.scalars c.args.names.now) c.args.globals.now in
    sel_sorted scope (exp_of c.in-Sel.field-0.value) (path_of c.in-Sel.path) (type_of c.in-Some.t.now) c.is_one_step.result
    (option_map (λ u. shape_of c.args.l.now (type_of u.now)) c.along-in-Some.result)
    (option_map sort_value c.part_sort-in-Some.result)
    c.part_sort-in-Some.ensures.layout
    (c.in-Some.ensures
    ∙ ap parts_type
    (c.sort_of-root.ensures ∙ ap (λ e. sort_of scope e) c.first.ensures.same ∙ ap (λ d. sort_of scope (first_part (exp_of d))) c.in-Sel.is))
    c.is_one_step.ensures c.along-in-Some.ensures c.part_sort-in-Some.ensures.sort
    ∙ sym (ap (λ e. sort_of scope (exp_of e)) c.in-Sel.is)

pub update_sort-returns-in-Some : goal.update_sort-returns-in-Some
update_sort-returns-in-Some g t c =
    let scope = scope_by c.args.l.now (g.N.Scope.scalars c.args.names.now) c.args.globals.now in
    upd_sorted scope (exp_of c.in-Upd.field-0.value) (exp_of c.in-Upd.v.value) (path_of c.in-Upd.path) (type_of c.in-Some.t.now)
    (option_map (λ u. shape_of c.args.l.now (type_of u.now)) c.along.result)
    (option_map sort_value c.part_sort-part.result)
    (option_map sort_value c.sort_of.result)
    (option_map sort_value c.sort_of-whole.result)
    (option_map sort_value c.where_same.result)
    c.part_sort-part.ensures.layout
    (c.sort_of-whole.ensures ∙ ap (λ e. sort_of scope e) c.first.ensures.same ∙ ap (λ d. sort_of scope (first_part (exp_of d))) c.in-Upd.is)
    c.in-Some.ensures c.along.ensures c.part_sort-part.ensures.sort
    (c.sort_of.ensures ∙ ap (λ e. sort_of scope (exp_of e)) c.deref.ensures)
    c.where_same.ensures
    ∙ sym (ap (λ e. sort_of scope (exp_of e)) c.in-Upd.is)
