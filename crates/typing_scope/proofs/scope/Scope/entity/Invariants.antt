-- The name stands for the same in the blocks that are left as in all.
use Rattle.std.proofs.Common.{◌≡◌, length}
use Rattle.typing_rules.specs.Scope.{entity}
use Rattle.typing_scope.specs.CodeScope.{blocks_of}
use Rattle.typing_scope.proofs.scope.Scope.entity.Given as goal

abbrev pub invariant-loop-names : goal.invariant-loop-names
invariant-loop-names l = entity (blocks_of l.blocks) l.name ≡ entity (blocks_of l.self.blocks.items) l.name

abbrev pub decreases-loop-names : goal.decreases-loop-names
decreases-loop-names l = length l.blocks
