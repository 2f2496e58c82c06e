use Rattle.std.proofs.Common.{sym, subst}
use Rattle.std.specs.Prelude.{IsSome}
use Rattle.expression_lang.specs.Sort.{sort_of}
use Rattle.expression_lang.specs.CodeExpression.{exp_of}
use Rattle.expression_lang.specs.CodeState.{scope_in}
use Rattle.expression_lang.specs.CodeFault.{IsFault}
use Rattle.command_runs.specs.CodeRun.{locals_of}
use Rattle.command_runs.proofs.Evaluated.{are_scalars, sorted_some, is_narrow}
use Rattle.command_runs.proofs.frame.Frame.value.Goals as goal

pub eval-evaluated-requires-clause-env : goal.eval-evaluated-requires-clause-env
eval-evaluated-requires-clause-env c = are_scalars (locals_of c.args.self.now) c.args.locals.now.items c.requires.fits.locals

pub eval-evaluated-requires-clause-sorted : goal.eval-evaluated-requires-clause-sorted
eval-evaluated-requires-clause-sorted c =
    subst (λ vars. IsSome (sort_of (scope_in c.args.self.now.unit.now.layout c.args.locals.now.items vars) (exp_of c.args.e.now))) (sym c.deref.ensures.value)
    (sorted_some c.args.self.now c.requires.frame c.args.locals.now.items c.args.state.now c.requires.fits (exp_of c.args.e.now) c.requires.sorted.0 c.requires.sorted.1)

pub want_of_memory-requires : goal.want_of_memory-requires
want_of_memory-requires c =
    let n = is_narrow c.args.self.now c.requires.frame c.args.locals.now.items c.args.state.now c.requires.fits (exp_of c.args.e.now) c.requires.sorted.0 c.requires.sorted.1 in
    let h = rw c.deref.ensures.value at c.in-Err.ensures.fault in
    let k = rw c.deref-2.ensures.value at h in
    subst (λ o. IsFault c.in-Err.fault o) n k
