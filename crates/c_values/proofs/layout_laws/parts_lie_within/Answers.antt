use Rattle.std.proofs.Math.Nat.{mod-eq-zero_of_dvd}
use Rattle.c_values.specs.Layout.{alignment}
use Rattle.c_values.proofs.Parts.{part_of}
use Rattle.c_values.proofs.layout_laws.parts_lie_within.Goals as goal

pub returns : goal.returns
returns c l t path q h complete range e =
    let p = part_of l t path q h complete range e in
    let w = p.within in
    (p.at, p.offset, w.ends, mod-eq-zero_of_dvd (alignment q.shape) w.aligned, mod-eq-zero_of_dvd (alignment q.shape) w.divides)
