-- The names of the starts are those of what they stand for.
use Rattle.std.proofs.Common.{List, IfSome, IfNone, subst}
use Rattle.c_values.specs.Name.{Name}
use Rattle.monad_sorts.specs.CodeInside.{IsAt, IsNowhere}
use Rattle.monad_sorts.proofs.Positions.{start_names_are}
use Rattle.monad_sorts.proofs.names.start_position.Goals as goal

pub returns-clause-some : goal.returns-clause-some
returns-clause-some c =
    subst (λ (xs : List Name). IfSome c.position.result (λ k. IsAt xs c.args.name.now k))
    (start_names_are c.args.starts.now) c.position.ensures.some

pub returns-clause-none : goal.returns-clause-none
returns-clause-none c =
    subst (λ (xs : List Name). IfNone c.position.result (IsNowhere xs c.args.name.now))
    (start_names_are c.args.starts.now) c.position.ensures.none
