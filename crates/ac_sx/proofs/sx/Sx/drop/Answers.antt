use Rattle.std.proofs.Common.{◌≡◌, ◌+◌, ap, ◌∙◌, arith}
use Rattle.ac_sx.specs.Tree.{nodes, all_nodes}
use Rattle.ac_sx.specs.CodeSx.{tree_of, trees_in}
use Rattle.ac_sx.proofs.Listed.{all_nodes-push}
use Rattle.ac_sx.proofs.sx.Sx.drop.Goals as goal

pub parts-smaller : goal.parts-smaller
parts-smaller c =
    let before : all_nodes (trees_in c.parts.parts.items) ≡ all_nodes (trees_in c.pop.new.self.items) + nodes (tree_of c.in-Some.part) = ap (λ xs. all_nodes (trees_in xs)) c.in-Some.ensures.items ∙ all_nodes-push c.pop.new.self.items c.in-Some.part in
    let less = c.without_leaf-parts.ensures in
    omega (arith, before, less)
