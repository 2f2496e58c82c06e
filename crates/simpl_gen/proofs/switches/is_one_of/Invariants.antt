-- The labels from here on are tested.
use Rattle.std.proofs.Common.{◌≡◌, ◌<◌, drop, length}
use Rattle.c_values.specs.CodeTypes.{target_of, int_type_of}
use Rattle.expression_lang.specs.CodeExpression.{exp_of}
use Rattle.generation.specs.Generate.{is_one_of}
use Rattle.simpl_gen.proofs.switches.is_one_of.Given as goal

abbrev pub invariant-labels : goal.invariant-labels
invariant-labels l = record {
  there : l.k < length l.labels;
  tested : exp_of l.test.value ≡ is_one_of (target_of l.target) (int_type_of l.ty) l.n (drop l.k l.labels);
}

abbrev pub decreases-labels : goal.decreases-labels
decreases-labels l = l.k
