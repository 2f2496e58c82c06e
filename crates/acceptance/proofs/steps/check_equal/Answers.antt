-- Both sides are well-sorted where the kernel looks at them.
use Rattle.std.proofs.Common.{map, sym, ap, ◌∙◌}
use Rattle.c_values.specs.CodeValue.{global_of}
use Rattle.expression_lang.specs.CodeSignature.{signature_of, binder_of}
use Rattle.simpl_lang.specs.CodeCommand.{simpl_unit_of}
use Rattle.monad_lang.specs.CodeProgram.{mon_of}
use Rattle.acceptance.proofs.OnNumbers.{given_on_numbers}
use Rattle.acceptance.proofs.steps.check_equal.Goals as goal

pub equal_taken-requires-clause-left : goal.equal_taken-requires-clause-left
equal_taken-requires-clause-left c =
    given_on_numbers (simpl_unit_of c.args.u.now) (signature_of c.args.s.now) (map global_of c.deref.result.now)
    (map signature_of c.deref-then-is_form_of.result.now) (map binder_of c.deref-then-is_form_of-2.result.now)
    (ap (map global_of) c.deref.ensures.value) (ap (map signature_of) c.deref-then-is_form_of.ensures.value)
    (ap (map binder_of) c.deref-then-is_form_of-2.ensures.value) (mon_of c.args.left.now) c.requires

pub equal_taken-requires-clause-right : goal.equal_taken-requires-clause-right
equal_taken-requires-clause-right c =
    given_on_numbers (simpl_unit_of c.args.u.now) (signature_of c.args.s.now) (map global_of c.deref.result.now)
    (map signature_of c.deref-then-is_form_of.result.now) (map binder_of c.deref-then-is_form_of-2.result.now)
    (ap (map global_of) c.deref.ensures.value) (ap (map signature_of) c.deref-then-is_form_of.ensures.value)
    (ap (map binder_of) c.deref-then-is_form_of-2.ensures.value) (mon_of c.args.right.now)
    (sym c.is_on_numbers.ensures ∙ c.if-is_on_numbers.true)
