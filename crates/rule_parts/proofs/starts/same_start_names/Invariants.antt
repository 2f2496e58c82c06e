-- What is left of both has the same names where they have.
use Rattle.std.proofs.Common.{◌≡◌, ◌↔◌, map, length}
use Rattle.monad_lang.specs.CodeProgram.{start_of}
use Rattle.monad_lang.specs.Run.{start_names}
use Rattle.rule_parts.proofs.starts.same_start_names.Given as goal

abbrev pub invariant-along : goal.invariant-along
invariant-along l =
    (start_names (map start_of l.right) ≡ start_names (map start_of l.left))
    ↔ (start_names (map start_of l.others) ≡ start_names (map start_of l.starts))

abbrev pub decreases-along : goal.decreases-along
decreases-along l = length l.left
