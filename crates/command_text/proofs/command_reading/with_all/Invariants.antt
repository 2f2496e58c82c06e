-- The fronts that are left, before what is built, are the whole.
use Rattle.std.proofs.Common.{◌≡◌, vec_len}
use Rattle.simpl_lang.specs.CodeCommand.{simpl_of}
use Rattle.simpl_lang.specs.CodeFront.{with_fronts}
use Rattle.command_text.proofs.command_reading.with_all.Given as goal

abbrev pub invariant-back : goal.invariant-back
invariant-back l = with_fronts l.fronts.items (simpl_of l.all.value) ≡ with_fronts l.initial.fronts.items (simpl_of l.initial.all.value)

abbrev pub decreases-back : goal.decreases-back
decreases-back l = vec_len l.fronts
