-- The name is looked up in what is left of the chain.
use Rattle.std.proofs.Common.{◌≡◌}
use Rattle.expression_lang.specs.CodeSort.{names_of}
use Rattle.expression_lang.proofs.names.Names.get.Given as goal

abbrev pub invariant-links : goal.invariant-links
invariant-links l = names_of l.names l.name ≡ names_of l.fn.self l.name
