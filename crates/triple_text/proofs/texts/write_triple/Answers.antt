-- What was written is the triple's tree.
use Rattle.std.proofs.Common.{ap, ◌∙◌}
use Rattle.ac_sx.specs.Writing.{written}
use Rattle.ac_sx.specs.CodeBuilder.{building}
use Rattle.triple_lang.specs.CodeDeriv.{triple_of}
use Rattle.triple_text.specs.TripleText.{triple_tree}
use Rattle.triple_text.proofs.texts.write_triple.Goals as goal

pub finish-requires : goal.finish-requires
finish-requires c =
    let t = triple_tree (triple_of c.args.triple.now) in
    (t, c.in_ok-triple_into.ensures ∙ ap (λ b. written building b t) c.new-tree.ensures)

pub returns : goal.returns
returns c =
    let t = triple_tree (triple_of c.args.triple.now) in
    c.finish.ensures t (c.in_ok-triple_into.ensures ∙ ap (λ b. written building b t) c.new-tree.ensures)
