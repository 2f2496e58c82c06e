-- With one head they differ in their children.
use Rattle.std.proofs.Common.{◌∙◌, sym}
use Rattle.ac_expr.proofs.ApartThere.{same_by_children}
use Rattle.ac_expr.proofs.differences.turn_plain.Goals as goal

pub changed_child-requires : goal.changed_child-requires
changed_child-requires c = λ e. c.requires.differ (same_by_children _ _ c.requires.head (sym c.children_of-2.ensures ∙ e ∙ c.children_of.ensures))
