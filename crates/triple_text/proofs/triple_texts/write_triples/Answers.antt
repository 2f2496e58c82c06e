use Rattle.std.proofs.Common.{map, ap, ◌∙◌}
use Rattle.ac_sx.specs.Writing.{written}
use Rattle.ac_sx.specs.CodeSpeller.{spelling_out}
use Rattle.triple_lang.specs.CodeDeriv.{triple_of}
use Rattle.triple_text.specs.TripleText.{triples_tree}
use Rattle.triple_text.proofs.triple_texts.write_triples.Goals as goal

pub returns : goal.returns
returns c =
    let tree = triples_tree (map triple_of c.args.triples.now) in
    c.finish.ensures tree (c.in_ok-triples_into.ensures ∙ ap (λ s. written spelling_out s tree) c.new-text.ensures)
