-- What is bound so far, and what is left, are all.
use Rattle.std.proofs.Common.{◌≡◌, ◌++◌, map, length}
use Rattle.expression_lang.specs.Signature.{names_of, kinds_of}
use Rattle.expression_lang.specs.CodeSignature.{binder_of}
use Rattle.program_sorts.specs.CodeSorts.{sort_for}
use Rattle.expression_steps.specs.CodePoint.{names_of as bound_names, scalars_of}
use Rattle.polish.proofs.translation.bindings_of.Given as goal

abbrev pub invariant-along : goal.invariant-along
invariant-along l = record {
  names : bound_names l.bound.items ++ names_of (map binder_of l.rest) ≡ names_of (map binder_of l.parameters);
  scalars :
      scalars_of l.bound.items ++ map (sort_for l.phase) (kinds_of (map binder_of l.rest))
      ≡ map (sort_for l.phase) (kinds_of (map binder_of l.parameters));
}

abbrev pub decreases-along : goal.decreases-along
decreases-along l = length l.rest
