use Rattle.c_values.proofs.Formed.{size_some}
use Rattle.c_values.proofs.Parts.{part_of, formed_complete}
use Rattle.c_values.proofs.layout_laws.parts_have_their_shape.Goals as goal

pub returns : goal.returns
returns c l t path q h complete range e =
    let p = part_of l t path q h complete range e in
    (formed_complete q.shape p.within.formed, size_some q.shape p.within.formed, p.own)
