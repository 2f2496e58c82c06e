use Rattle.std.proofs.Common.{◌≡◌, ◌≤◌, Some, length, ap, sym, subst, ◌∙◌, arith}
use Rattle.std.specs.List.{list_any}
use Rattle.std.proofs.lemmas.List.{length-map}
use Rattle.ac_sx.specs.Tree.{depth, deepest}
use Rattle.ac_sx.specs.Table.{Keeps, is_below, trees_of, tree_among}
use Rattle.ac_sx.specs.CodeTerms.{entry_of, entries_in}
use Rattle.ac_sx.proofs.SameNode.{node_eq, once, found_there}
use Rattle.ac_sx.proofs.Tabled.{put_keys, put_keeps, put_in_order, put_length, tree_put}
use Rattle.ac_sx.proofs.Levels.{put_low}
use Rattle.ac_sx.proofs.terms.Terms.intern.Goals as goal

pub returns-clause-found : goal.returns-clause-found
returns-clause-found c =
    let old = c.self.inside.nodes.keys in
    let new = c.insert_full.new.self.keys in
    let e = entry_of c.args.node in
    let put = put_keys old new c.args.node (list_any (node_eq c.args.node) old) c.in_ok-index.ensures.keys in
    let below = ap (λ es. is_below (length es) e) c.self.view_is ∙ c.requires.parts in
    let all = put_in_order (entries_in old) (entries_in new) e put c.self.invariant.0.in_order below in
    tree_put (entries_in old) (entries_in new) e c.in_ok-index.index (put_keeps (entries_in old) (entries_in new) e put) below all (found_there new c.in_ok-index.index c.args.node c.in_ok-index.ensures.stored)
    ∙ ap (λ es. Some (tree_among (trees_of es) e)) c.self.view_is

pub returns-clause-kept : goal.returns-clause-kept
returns-clause-kept c =
    let old = c.self.inside.nodes.keys in
    let new = c.insert_full.new.self.keys in
    let put = put_keys old new c.args.node (list_any (node_eq c.args.node) old) c.in_ok-index.ensures.keys in
    subst (λ es. Keeps es (entries_in new)) c.self.view_is (put_keeps (entries_in old) (entries_in new) (entry_of c.args.node) put)

pub invariant_of-self-2 : goal.invariant_of-self-2
invariant_of-self-2 c =
    let old = c.self.inside.nodes.keys in
    let new = c.insert_full.new.self.keys in
    let e = entry_of c.args.node in
    let put = put_keys old new c.args.node (list_any (node_eq c.args.node) old) c.in_ok-index.ensures.keys in
    let same : length (entries_in old) ≡ length c.args.self.now = ap length c.self.view_is in
    let below = ap (λ n. is_below n e) same ∙ c.requires.parts in
    let longer = put_length (entries_in old) (entries_in new) e put in
    let mapped = length-map new entry_of in
    let room = c.requires.room in (
      record { in_order = put_in_order (entries_in old) (entries_in new) e put c.self.invariant.0.in_order below; once = once new c.in_ok-index.ensures.unique },
      put_low (entries_in old) (entries_in new) e put c.self.invariant.1 (subst (λ es. depth (tree_among (trees_of es) e) ≤ deepest) (sym c.self.view_is) c.requires.low),
      omega (arith, same, longer, mapped, room),
    )
