use Rattle.std.proofs.Common.{◌≡◌, true, false, sym, ap, ◌∙◌}
use Rattle.std.specs.Prelude.{string_bytes}
use Rattle.c_values.specs.Name.{same_name}
use Rattle.command_runs.proofs.Listed.{last_found, last_passed}
use Rattle.command_runs.proofs.locals.taken.Goals as goal

pub returns-then-eq : goal.returns-then-eq
returns-then-eq c =
    let x = c.args.name.now in
    let own = c.in-Some.own in
    let same : same_name (string_bytes own) x ≡ true = ap (λ n. same_name n x) (sym c.as_str.ensures.value) ∙ sym c.eq.ensures ∙ c.if-eq.true in
    last_found c.locals.rest.items c.pop.new.self.items c.args.locals.items (own, c.in-Some.value) x c.locals.invariant c.in-Some.ensures.items same

pub locals-preserved : goal.locals-preserved
locals-preserved c =
    let x = c.args.name.now in
    let own = c.in-Some.own in
    let other : same_name (string_bytes own) x ≡ false = ap (λ n. same_name n x) (sym c.as_str.ensures.value) ∙ sym c.eq.ensures ∙ c.if-eq.false in
    last_passed c.locals.rest.items c.pop.new.self.items c.args.locals.items (own, c.in-Some.value) x c.locals.invariant c.in-Some.ensures.items other
