-- What is passed and what is left give what the whole does, and what is left is no larger.
use Rattle.std.proofs.Common.{◌≡◌, ◌≤◌, ℕ, map, string_bytes}
use Rattle.c_values.specs.Name.{Name}
use Rattle.expression_lang.specs.CodeSignature.{binder_of}
use Rattle.expression_lang.specs.Signature.{names_of}
use Rattle.simpl_lang.specs.declared.command.Simpl.{size-Simpl}
use Rattle.simpl_lang.specs.CodeCommand.{simpl_of}
use Rattle.monad_lang.specs.CodeProgram.{mon_of}
use Rattle.rule_local.specs.CodeMarks.{IsMarkable}
use Rattle.rule_local.specs.CodePlaces.{passed_at}
use Rattle.rule_local.specs.CodeUses.{uses, ended}
use Rattle.rule_local.proofs.uses.+uses_along.Given as goal

abbrev pub invariant-along : goal.invariant-along
invariant-along l = record {
  same : (i : ℕ) (y : Name) → IsMarkable (names_of (map binder_of l.window)) i y →
      ended (passed_at i l.passed) (uses y (simpl_of l.command) (mon_of l.program) (map string_bytes l.outputs)) ≡ uses y (simpl_of l.left) (mon_of l.right) (map string_bytes l.outputs);
  smaller : size-Simpl l.command ≤ size-Simpl l.left;
}

abbrev pub decreases-along : goal.decreases-along
decreases-along l = size-Simpl l.command

abbrev pub decreases-uses_along : goal.decreases-uses_along
decreases-uses_along l = size-Simpl l.left.now
