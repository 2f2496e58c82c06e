use Rattle.std.proofs.Common.{◌≡◌, suc, ◌+◌, ap, sym, ◌∙◌, arith}
use Rattle.std.proofs.lemmas.List.{nil_from_length}
use Rattle.ac_sx.specs.Tree.{Node, nodes, all_nodes}
use Rattle.ac_sx.specs.CodeSx.{tree_of, trees_in}
use Rattle.ac_sx.specs.CodeWriter.{lists_behind, nodes_behind, left_of}
use Rattle.ac_sx.proofs.Listed.{list_tree}
use Rattle.ac_sx.proofs.Written.{left_of-push, list_parts, list_begun, list_empty}
use Rattle.ac_sx.proofs.writer.descend.Goals as goal

pub returns-in_default-clause-text : goal.returns-in_default-clause-text
returns-in_default-clause-text c =
    let none = sym c.deref.ensures.value ∙ nil_from_length c.deref.result.now c.in_default.ensures.cases in
    let whole = ap tree_of c.in-List.is ∙ list_tree c.in-List.parts ∙ ap (λ xs. Node (trees_in xs)) none in
    list_empty c.inner.text.items c.push.new.self.items c.push-in_default.new.self.items (tree_of c.inner.inner.now) (lists_behind (left_of c.inner.lists.items)) whole c.in_ok-push-in-List.ensures.items c.in_ok-push-in-List-2.ensures.items
    ∙ c.inner.invariant.same

pub inner-smaller : goal.inner-smaller
inner-smaller c =
    let whole = list_parts c.inner.inner.now c.in-List.parts c.in-Some.first.now c.in-Some.others.now c.in-List.is (sym c.deref.ensures.value ∙ c.in-Some.ensures.cases.0) in
    let count : nodes (tree_of c.inner.inner.now) ≡ suc (nodes (tree_of c.in-Some.first.now) + all_nodes (trees_in c.in-Some.others.now)) = ap nodes whole in
    omega (arith, count)

pub inner-preserved : goal.inner-preserved
inner-preserved c =
    let whole = list_parts c.inner.inner.now c.in-List.parts c.in-Some.first.now c.in-Some.others.now c.in-List.is (sym c.deref.ensures.value ∙ c.in-Some.ensures.cases.0) in
    let count : nodes (tree_of c.inner.inner.now) ≡ suc (nodes (tree_of c.in-Some.first.now) + all_nodes (trees_in c.in-Some.others.now)) = ap nodes whole in
    let put = ap left_of c.in_ok-push-in-List-3.ensures.items ∙ left_of-push c.inner.lists.items c.in-Some.others in
    let behind : nodes_behind (left_of c.push-in-List.new.self.items) ≡ suc (all_nodes (trees_in c.in-Some.others.now)) + nodes_behind (left_of c.inner.lists.items) = ap nodes_behind put in
    let less = c.inner.invariant.less in
    record {
      same =
          list_begun c.inner.text.items c.push.new.self.items (tree_of c.inner.inner.now) (tree_of c.in-Some.first.now) (trees_in c.in-Some.others.now) (left_of c.inner.lists.items) (left_of c.push-in-List.new.self.items)
          whole c.in_ok-push-in-List.ensures.items put
          ∙ c.inner.invariant.same;
      less = omega (arith, count, behind, less);
    }
