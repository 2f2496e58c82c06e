-- None so far has the name.
use Rattle.std.proofs.Common.{◌≡◌, map, drop}
use Rattle.c_values.specs.Name.{is_among}
use Rattle.expression_text.proofs.list_reading.is_among.Given as goal

abbrev pub invariant-items : goal.invariant-items
invariant-items g l = is_among l.name (map g.T.Named.named (drop l.item-index l.items)) ≡ is_among l.name (map g.T.Named.named l.items)
