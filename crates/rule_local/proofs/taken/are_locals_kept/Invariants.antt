-- Each local is kept, or stands among those that are left.
use Rattle.std.proofs.Common.{◌≡◌, ◌⊎◌, true, map, length, string_bytes}
use Rattle.c_values.specs.Name.{Name, is_among}
use Rattle.expression_lang.specs.CodeSignature.{binder_of}
use Rattle.expression_lang.specs.Signature.{names_of}
use Rattle.simpl_lang.specs.CodeCommand.{simpl_of}
use Rattle.monad_lang.specs.CodeProgram.{mon_of}
use Rattle.rule_local.specs.CodeRule.{rule_of, context_of}
use Rattle.rule_local.specs.CodeUses.{IsKept}
use Rattle.rule_local.proofs.taken.are_locals_kept.Given as goal

abbrev pub invariant-windows : goal.invariant-windows
invariant-windows l =
    (y : Name) → is_among y (names_of (context_of l.context).locals) ≡ true →
    IsKept (rule_of l.rule) (context_of l.context).parameters (simpl_of l.left) (mon_of l.right) (map string_bytes l.outputs) y ⊎ (is_among y (names_of (map binder_of l.rest)) ≡ true)

abbrev pub decreases-windows : goal.decreases-windows
decreases-windows l = length l.rest
