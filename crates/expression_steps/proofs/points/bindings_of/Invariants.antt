-- What is bound so far, and what is left, are all.
use Rattle.std.proofs.Common.{◌≡◌, ◌++◌, map, length}
use Rattle.monad_lang.specs.CodeProgram.{start_of}
use Rattle.monad_lang.specs.Run.{start_names}
use Rattle.monad_lang.specs.Sorted.{start_scalars}
use Rattle.expression_steps.specs.CodePoint.{names_of, scalars_of, scope_in, after_scalars}
use Rattle.expression_steps.proofs.points.bindings_of.Given as goal

abbrev pub invariant-along : goal.invariant-along
invariant-along l = record {
  scalars :
      after_scalars (scalars_of l.all.items) (start_scalars (scope_in l.context) (map start_of l.rest))
      ≡ start_scalars (scope_in l.context) (map start_of l.starts);
  names :
      names_of l.all.items ++ start_names (map start_of l.rest) ≡ start_names (map start_of l.starts);
}

abbrev pub decreases-along : goal.decreases-along
decreases-along l = length l.rest
