-- What is left of the parameters comes first in what is left of the locals if all do.
use Rattle.std.proofs.Common.{◌≡◌, map, length}
use Rattle.expression_lang.specs.CodeSignature.{binder_of}
use Rattle.simpl_lang.specs.Sorted.{come_first}
use Rattle.simpl_lang.proofs.signed.come_first.Given as goal

abbrev pub invariant-params : goal.invariant-params
invariant-params l = come_first (map binder_of l.left) (map binder_of l.right) ≡ come_first (map binder_of l.params) (map binder_of l.locals)

abbrev pub decreases-params : goal.decreases-params
decreases-params l = length l.left
