-- A row is begun, or has no part.
use Rattle.std.proofs.Common.{◌≡◌, suc, ◌+◌, ap, ◌∙◌, arith}
use Rattle.c_values.specs.CodeParts.{values_in}
use Rattle.c_values.specs.CodeTypes.{type_of}
use Rattle.c_values.specs.Layout.{shape_of}
use Rattle.std.specs.Prelude.{[], unwrap_or}
use Rattle.ac_sx.specs.Tree.{Node, nodes, all_nodes}
use Rattle.ac_sx.specs.CodeWriter.{lists_behind, nodes_behind}
use Rattle.ac_sx.proofs.Written.{list_begun, list_empty}
use Rattle.memory_text.specs.ValueText.{value_trees, parts_of}
use Rattle.run_lines.specs.CodeRow.{row_in, rows_in}
use Rattle.run_lines.specs.Shown.{all_shown}
use Rattle.run_lines.proofs.Rows.{tree_in, parts_shown, rows_in-push}
use Rattle.run_lines.proofs.values.descend.Goals as goal

pub returns-in_default-clause-text : goal.returns-in_default-clause-text
returns-in_default-clause-text c =
    let l = c.args.layout.now in
    let shapes = unwrap_or (parts_of (shape_of l (type_of c.inner.inner_type.now))) [] in
    let row = c.row_of-row.ensures ∙ ap (λ vs. value_trees (all_shown shapes (values_in vs))) c.deref.ensures.value in
    let whole = parts_shown l c.inner.inner_type.now c.inner.inner.now c.in-Parts.parts c.row_of-row.result c.in-Parts.is row ∙ ap Node (c.in_default.ensures.none l) in
    list_empty c.inner.lines.items c.push-in-Parts.new.lines.items c.push-in_default.new.lines.items (tree_in l c.inner.inner_type.now c.inner.inner.now) (lists_behind (rows_in l c.inner.rows.items)) whole c.in_ok-push-in-Parts.ensures
    c.in_ok-push-in-Parts-2.ensures
    ∙ c.inner.invariant.same

pub inner-smaller : goal.inner-smaller
inner-smaller c =
    let l = c.args.layout.now in
    let shapes = unwrap_or (parts_of (shape_of l (type_of c.inner.inner_type.now))) [] in
    let row = c.row_of-row.ensures ∙ ap (λ vs. value_trees (all_shown shapes (values_in vs))) c.deref.ensures.value in
    let whole = parts_shown l c.inner.inner_type.now c.inner.inner.now c.in-Parts.parts c.row_of-row.result c.in-Parts.is row ∙ ap Node (c.in-Some.ensures.some l) in
    let count : nodes (tree_in l c.inner.inner_type.now c.inner.inner.now) ≡ suc (nodes (tree_in l c.in-Some.first_type.now c.in-Some.first.now) + all_nodes (row_in l c.in-Some.rest)) = ap nodes whole in
    omega (arith, count)

pub inner-preserved : goal.inner-preserved
inner-preserved c =
    let l = c.args.layout.now in
    let shapes = unwrap_or (parts_of (shape_of l (type_of c.inner.inner_type.now))) [] in
    let row = c.row_of-row.ensures ∙ ap (λ vs. value_trees (all_shown shapes (values_in vs))) c.deref.ensures.value in
    let whole = parts_shown l c.inner.inner_type.now c.inner.inner.now c.in-Parts.parts c.row_of-row.result c.in-Parts.is row ∙ ap Node (c.in-Some.ensures.some l) in
    let count : nodes (tree_in l c.inner.inner_type.now c.inner.inner.now) ≡ suc (nodes (tree_in l c.in-Some.first_type.now c.in-Some.first.now) + all_nodes (row_in l c.in-Some.rest)) = ap nodes whole in
    let put = ap (rows_in l) c.in_ok-push-in-Parts-3.ensures.items ∙ rows_in-push l c.inner.rows.items c.in-Some.rest in
    let behind : nodes_behind (rows_in l c.push-in-Parts-2.new.self.items) ≡ suc (all_nodes (row_in l c.in-Some.rest)) + nodes_behind (rows_in l c.inner.rows.items) = ap nodes_behind put in
    let less = c.inner.invariant.less in
    record {
      same =
          list_begun c.inner.lines.items c.push-in-Parts.new.lines.items (tree_in l c.inner.inner_type.now c.inner.inner.now) (tree_in l c.in-Some.first_type.now c.in-Some.first.now) (row_in l c.in-Some.rest) (rows_in l c.inner.rows.items)
          (rows_in l c.push-in-Parts-2.new.self.items) whole c.in_ok-push-in-Parts.ensures put
          ∙ c.inner.invariant.same;
      less = omega (arith, count, behind, less);
    }
