use Rattle.std.proofs.Common.{◌∙◌, ap}
use Rattle.ac_sx.specs.CodeSx.{trees_in}
use Rattle.ac_sx.specs.CodeBuilder.{stack_of}
use Rattle.ac_sx.proofs.Listed.{trees_in-push}
use Rattle.ac_sx.proofs.builder.SxBuilder.place.Goals as goal

pub returns : goal.returns
returns c =
    ap (λ ts. record { parts = ts; around = stack_of c.args.self.now.around.items })
    (ap trees_in c.in_ok-push.ensures.items ∙ trees_in-push c.args.self.now.parts.items c.args.tree)
