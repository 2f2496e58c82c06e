-- Each name of the loop has its scalar, or none has one.
use Rattle.std.proofs.Common.{◌≡◌, Some, None, IfOk, map, subst, rules}
use Rattle.std.specs.Option.{option_map}
use Rattle.expression_lang.specs.Sort.{Scope}
use Rattle.monad_lang.specs.CodeProgram.{mon_of, start_of}
use Rattle.monad_lang.specs.Run.{start_names}
use Rattle.monad_lang.specs.Sorted.{start_scalars}
use Rattle.expression_steps.specs.CodePoint.{names_of, scalars_of, scope_in}
use Rattle.expression_steps.specs.CodeProgramStepsView.{turned_at}
use Rattle.expression_steps.proofs.Headers.{none_started, some_started}
use Rattle.expression_steps.proofs.program_steps.started_step.Goals as goal

pub returns-in-Some : goal.returns-in-Some
returns-in-Some c =
    let starts = map start_of c.args.turns.starts.now in
    let g = scope_in c.args.context.now in
    let bound = c.deref.result.now in
    let named : names_of bound ≡ start_names starts = search rules in
    let told : Some (scalars_of bound) ≡ start_scalars g starts = search rules in
    subst
    (λ (s : Scope). IfOk c.turn_within.result (λ new. option_map (λ m. mon_of m.value) new ≡ turned_at c.args.turns s))
    (some_started starts g (names_of bound) (scalars_of bound) named told) c.turn_within.ensures

pub returns-in-None : goal.returns-in-None
returns-in-None c =
    let starts = map start_of c.args.turns.starts.now in
    let g = scope_in c.args.context.now in
    let told : None ≡ start_scalars g starts = search rules in
    subst
    (λ (s : Scope). IfOk c.turn_step.result (λ new. option_map (λ m. mon_of m.value) new ≡ turned_at c.args.turns s))
    (none_started starts g told) c.turn_step.ensures
