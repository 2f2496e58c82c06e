-- A row has ended, or goes on.
use Rattle.std.proofs.Common.{◌≡◌, suc, ◌+◌, [], ◌∷◌, ◌++◌, rules, ap, ◌∙◌, arith}
use Rattle.ac_sx.specs.Tree.{nodes, all_nodes}
use Rattle.ac_sx.specs.CodeWriter.{nodes_behind}
use Rattle.ac_sx.proofs.Written.{list_ended, list_goes_on}
use Rattle.run_lines.specs.CodeRow.{row_in, rows_in}
use Rattle.run_lines.proofs.Rows.{tree_in, rows_in-push}
use Rattle.run_lines.proofs.values.push_value.Goals as goal

pub rows-preserved-in-Continue-branch-2 : goal.rows-preserved-in-Continue-branch-2
rows-preserved-in-Continue-branch-2 c =
    let l = c.args.layout.now in
    let items : c.rows.rows.items ≡ c.pop.new.self.items ++ c.in-Some.row ∷ [] = search rules in
    let first = ap (rows_in l) items ∙ rows_in-push l c.pop.new.self.items c.in-Some.row ∙ ap (λ ts. ts ∷ rows_in l c.pop.new.self.items) (c.in-None.ensures.none l) in
    list_ended c.rows.lines.items c.push.new.lines.items (rows_in l c.rows.rows.items) (rows_in l c.pop.new.self.items) first c.in_ok-push-in-None.ensures ∙ c.rows.invariant

pub rows-smaller : goal.rows-smaller
rows-smaller c =
    let l = c.args.layout.now in
    let items : c.rows.rows.items ≡ c.pop.new.self.items ++ c.in-Some.row ∷ [] = search rules in
    let first = ap (rows_in l) items ∙ rows_in-push l c.pop.new.self.items c.in-Some.row ∙ ap (λ ts. ts ∷ rows_in l c.pop.new.self.items) (c.in-Some-split.ensures.some l) in
    let put = ap (rows_in l) c.in_ok-push-in-Some-split-2.ensures.items ∙ rows_in-push l c.pop.new.self.items c.in-Some-split.rest in
    let before : nodes_behind (rows_in l c.rows.rows.items)
    ≡ suc (nodes (tree_in l c.in-Some-split.ty.now c.in-Some-split.value.now) + all_nodes (row_in l c.in-Some-split.rest)) + nodes_behind (rows_in l c.pop.new.self.items) = ap nodes_behind first in
    let behind : nodes_behind (rows_in l c.push-in-Some-split-2.new.self.items) ≡ suc (all_nodes (row_in l c.in-Some-split.rest)) + nodes_behind (rows_in l c.pop.new.self.items) = ap nodes_behind put in
    let less = c.in_ok-descend-in-Some-split.ensures.less in
    omega (arith, before, behind, less)

pub rows-preserved : goal.rows-preserved
rows-preserved c =
    let l = c.args.layout.now in
    let items : c.rows.rows.items ≡ c.pop.new.self.items ++ c.in-Some.row ∷ [] = search rules in
    let first = ap (rows_in l) items ∙ rows_in-push l c.pop.new.self.items c.in-Some.row ∙ ap (λ ts. ts ∷ rows_in l c.pop.new.self.items) (c.in-Some-split.ensures.some l) in
    let put = ap (rows_in l) c.in_ok-push-in-Some-split-2.ensures.items ∙ rows_in-push l c.pop.new.self.items c.in-Some-split.rest in
    c.in_ok-descend-in-Some-split.ensures.text
    ∙ list_goes_on c.rows.lines.items c.push-in-Some-split.new.lines.items (tree_in l c.in-Some-split.ty.now c.in-Some-split.value.now) (row_in l c.in-Some-split.rest) (rows_in l c.rows.rows.items)
    (rows_in l c.push-in-Some-split-2.new.self.items) (rows_in l c.pop.new.self.items) first put c.in_ok-push-in-Some-split.ensures
    ∙ c.rows.invariant
