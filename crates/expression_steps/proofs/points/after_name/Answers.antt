-- The name is this one, or another.
use Rattle.std.proofs.Common.{sym, ◌∙◌}
use Rattle.std.specs.Option.{option_map}
use Rattle.expression_lang.specs.CodeSort.{scalar_of}
use Rattle.expression_steps.proofs.NamesFound.{name_there, name_elsewhere}
use Rattle.expression_steps.proofs.points.after_name.Goals as goal

pub returns-then-eq : goal.returns-then-eq
returns-then-eq c xs ss =
    name_there c.args.own.now xs (scalar_of c.args.scalar) ss (option_map scalar_of c.args.found) c.args.name.now
    (sym c.eq.ensures ∙ c.if-eq.true)

pub returns-else-eq : goal.returns-else-eq
returns-else-eq c xs ss =
    name_elsewhere c.args.own.now xs (scalar_of c.args.scalar) ss (option_map scalar_of c.args.found) c.args.name.now
    (sym c.eq.ensures ∙ c.if-eq.false)
