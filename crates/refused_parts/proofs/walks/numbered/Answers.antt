use Rattle.std.proofs.Common.{reverse, ap, ◌∙◌}
use Rattle.rule_trees.specs.CodeTree.{tree_of}
use Rattle.refused_parts.specs.CodeWalks.{walked}
use Rattle.refused_parts.proofs.Shapes.{way_found, none_found}
use Rattle.refused_parts.proofs.walks.numbered.Goals as goal

pub returns-in-Some : goal.returns-in-Some
returns-in-Some g c = (
  reverse c.in-Some.way.items,
  way_found g.R.Inside.rule c.args.tree.now c.args.node c.in_ok-way.field-0 c.in-Some.way c.in-Some.is c.in_ok-way.ensures.found,
  c.at_way.ensures ∙ ap (λ way. walked g.R.Inside.goes_on (tree_of g.R.Inside.rule c.args.tree.now) (g.R.Inside.seen c.args.left.now) (reverse way)) c.deref.ensures.value,
)

pub returns-in-None : goal.returns-in-None
returns-in-None g c = none_found g.R.Inside.rule c.args.tree.now c.args.node c.in_ok-way.field-0 c.in-None.is c.in_ok-way.ensures.none
