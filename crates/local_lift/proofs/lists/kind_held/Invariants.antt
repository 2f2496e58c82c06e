-- None so far has the name.
use Rattle.std.proofs.Common.{◌≡◌, map, length}
use Rattle.expression_lang.specs.CodeSignature.{binder_of}
use Rattle.simpl_lang.specs.Command.{kind_of}
use Rattle.local_lift.proofs.lists.kind_held.Given as goal

abbrev pub invariant-along : goal.invariant-along
invariant-along l = kind_of (map binder_of l.rest) l.name ≡ kind_of (map binder_of l.locals) l.name

abbrev pub decreases-along : goal.decreases-along
decreases-along l = length l.rest
