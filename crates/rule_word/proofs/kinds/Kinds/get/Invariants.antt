-- The name is looked up in what is left of the chain.
use Rattle.std.proofs.Common.{◌≡◌}
use Rattle.rule_word.specs.CodeNames.{kind_in}
use Rattle.rule_word.specs.CodeKinds.{binders_in}
use Rattle.rule_word.proofs.kinds.Kinds.get.Given as goal

abbrev pub invariant-links : goal.invariant-links
invariant-links l = kind_in (binders_in l.names) l.name ≡ kind_in (binders_in l.fn.self) l.name
