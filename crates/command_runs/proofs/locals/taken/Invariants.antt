-- The name hasn't been met yet.
use Rattle.std.proofs.Common.{◌≡◌, vec_len}
use Rattle.expression_lang.specs.CodeState.{env_of}
use Rattle.command_runs.proofs.locals.taken.Given as goal

abbrev pub invariant-locals : goal.invariant-locals
invariant-locals l = env_of l.rest.items l.name ≡ env_of l.fn.locals.items l.name

abbrev pub decreases-locals : goal.decreases-locals
decreases-locals l = vec_len l.rest
