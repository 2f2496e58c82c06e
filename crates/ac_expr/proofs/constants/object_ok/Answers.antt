-- An alignment isn't 0.
use Rattle.std.proofs.Common.{◌<◌, ◌∙◌, sym, subst}
use Rattle.c_values.specs.CodeTypes.{type_of}
use Rattle.c_memory.proofs.Sound.{some_alignment}
use Rattle.ac_expr.proofs.constants.object_ok.Goals as goal

pub nonzero_rem-address : goal.nonzero_rem-address
nonzero_rem-address c =
    subst (λ n. 0 < n) (sym (c.from-3.ensures ∙ c.align_of.ensures)) (some_alignment c.args.l.now (type_of c.args.t.now) c.size_of.ensures.layout (sym c.is_object.ensures ∙ c.if-not-is_object.false))
