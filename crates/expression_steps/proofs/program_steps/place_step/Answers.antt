-- The step in an object is the step in the place that this is.
use Rattle.std.proofs.Common.{◌≡◌, IfOk, sym, subst}
use Rattle.std.specs.Option.{option_map}
use Rattle.monad_lang.specs.CodeProgram.{place_of}
use Rattle.expression_steps.specs.Rewritten.{place_step}
use Rattle.expression_steps.specs.Shortened.{shortened}
use Rattle.expression_steps.specs.CodePoint.{known_in, scope_in}
use Rattle.expression_steps.proofs.program_steps.place_step.Goals as goal

pub returns-in-Stored : goal.returns-in-Stored
returns-in-Stored c =
    subst
    (λ p. IfOk c.object_step.result (λ new. option_map place_of new
    ≡ place_step (shortened (scope_in c.args.context.now)) (known_in c.args.facts.now) (place_of p)))
    (sym c.in-Stored.is) c.object_step.ensures

pub returns-in-Written : goal.returns-in-Written
returns-in-Written c =
    subst
    (λ p. IfOk c.object_step-in-Written.result (λ new. option_map place_of new
    ≡ place_step (shortened (scope_in c.args.context.now)) (known_in c.args.facts.now) (place_of p)))
    (sym c.in-Written.is) c.object_step-in-Written.ensures
