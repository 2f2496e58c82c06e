-- The name is looked up in what is left of the chain.
use Rattle.std.proofs.Common.{◌≡◌}
use Rattle.std.specs.Str.{IsUtf8}
use Rattle.monad_sorts.specs.CodeInside.{scalars_in}
use Rattle.monad_sorts.proofs.inside.Inside.scalar_named.Given as goal

abbrev pub invariant-links : goal.invariant-links
invariant-links l = record {
  same : scalars_in l.inside l.name ≡ scalars_in l.fn.self l.fn.name;
  text : IsUtf8 l.name;
}
