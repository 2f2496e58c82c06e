-- The last that is left has the name, or is left out.
use Rattle.std.proofs.Common.{sym, ap, ◌∙◌}
use Rattle.c_values.specs.Name.{Name, same_name}
use Rattle.monad_sorts.proofs.Positions.{name_here, name_left_out}
use Rattle.monad_sorts.proofs.names.position.Goals as goal

pub returns-then-eq-clause-some : goal.returns-then-eq-clause-some
returns-then-eq-clause-some g c os names =
    let same = ap (λ (x : Name). same_name x c.args.name.now) (sym c.name.ensures) ∙ sym c.eq.ensures ∙ c.if-eq.true in
    c.items.invariant os names
    ∙ name_here g.T.Named.named c.items.rest.now c.in-Some.others.now c.in-Some.last.now c.args.name.now
    c.in-Some.ensures.cases.0 same os names

pub items-preserved : goal.items-preserved
items-preserved g c os names =
    let other = ap (λ (x : Name). same_name x c.args.name.now) (sym c.name.ensures) ∙ sym c.eq.ensures ∙ c.if-eq.false in
    c.items.invariant os names
    ∙ name_left_out g.T.Named.named c.items.rest.now c.in-Some.others.now c.in-Some.last.now c.args.name.now os names
    c.in-Some.ensures.cases.0 other
