-- No name after these is the one looked up.
use Rattle.std.proofs.Common.{◌≡◌, ◌≤◌, length, take}
use Rattle.expression_lang.specs.CodeState.{env_of}
use Rattle.expression_lang.proofs.environments.variable.Given as goal

abbrev pub invariant-names : goal.invariant-names
invariant-names l = record {
  within : l.k ≤ length l.env.items;
  same : env_of (take l.k l.env.items) l.name ≡ env_of l.env.items l.name;
}

abbrev pub decreases-names : goal.decreases-names
decreases-names l = l.k
