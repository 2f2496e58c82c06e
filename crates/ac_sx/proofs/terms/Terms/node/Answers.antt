use Rattle.std.proofs.Common.{Some, option_map, slice_get, ap, sym, ◌∙◌}
use Rattle.std.proofs.lemmas.Option.{slice_get-map}
use Rattle.ac_sx.specs.Table.{trees_of, tree_among}
use Rattle.ac_sx.specs.CodeTerms.{entry_of}
use Rattle.ac_sx.proofs.Tabled.{number_tree, number_below_all}
use Rattle.ac_sx.proofs.terms.Terms.node.Goals as goal

pub returns-clause-tree : goal.returns-clause-tree
returns-clause-tree c =
    let keys = c.self.inside.nodes.keys in
    let here = slice_get-map entry_of keys c.args.id.0 ∙ ap (option_map entry_of) c.index.ensures in
    let es = sym c.self.view_is in
    ap (λ x. slice_get (trees_of x) c.args.id.0) es
    ∙ number_tree _ c.args.id.0 (entry_of c.index.result.now) c.self.invariant.0.in_order here
    ∙ ap (λ x. Some (tree_among (trees_of x) (entry_of c.index.result.now))) c.self.view_is

pub returns-clause-parts : goal.returns-clause-parts
returns-clause-parts c =
    let keys = c.self.inside.nodes.keys in
    let here = slice_get-map entry_of keys c.args.id.0 ∙ ap (option_map entry_of) c.index.ensures in
    number_below_all _ c.args.id.0 (entry_of c.index.result.now) c.self.invariant.0.in_order here
