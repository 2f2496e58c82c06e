use Rattle.std.proofs.Common.{◌<◌, ◌∙◌, sym, subst}
use Rattle.c_values.specs.CodeTypes.{type_of}
use Rattle.c_memory.proofs.Sound.{some_alignment}
use Rattle.c_memory.proofs.tag_faults.tag_fault.Goals as goal

pub nonzero_rem-address : goal.nonzero_rem-address
nonzero_rem-address c =
    subst (λ n. 0 < n) (sym (c.from.ensures ∙ c.align_of.ensures)) (some_alignment c.args.l.now (type_of c.args.ty.now) c.size_of-size.ensures.layout c.requires.object)
