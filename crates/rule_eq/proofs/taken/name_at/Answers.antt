-- What the slice has there.
use Rattle.std.proofs.Common.{string_bytes}
use Rattle.rule_eq.proofs.Taking.{item_there, no_item}
use Rattle.rule_eq.proofs.taken.name_at.Goals as goal

pub returns-clause-some : goal.returns-clause-some
returns-clause-some c = item_there string_bytes c.args.names.now c.args.position c.get.result c.get.ensures.lookup

pub returns-clause-none : goal.returns-clause-none
returns-clause-none c = no_item string_bytes c.args.names.now c.args.position c.get.result c.get.ensures.lookup
