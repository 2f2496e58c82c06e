-- The parameters are in scope, and nothing is known.
use Rattle.std.proofs.Common.{◌≡◌, [], None, ap, ap₂, ◌∙◌}
use Rattle.std.proofs.lemmas.Result.{IfOk-weaker}
use Rattle.expression_lang.specs.Sorted.{names_with}
use Rattle.monad_lang.specs.CodeProgram.{mon_of}
use Rattle.rule_eq.specs.Table.{point}
use Rattle.rule_walks.specs.CodeWalks.{made_in}
use Rattle.expression_steps.specs.CodePoint.{names_of as bound_names, scalars_of, known_in}
use Rattle.given_scalars.specs.CodeScalars.{setting_over}
use Rattle.polish.specs.Polished.{polished}
use Rattle.polish.specs.Seen.{seen}
use Rattle.polish.proofs.translation.made_tidy.Goals as goal

pub returns : goal.returns
returns c =
    let m = mon_of c.args.left.now in
    IfOk-weaker c.polished.result
    (λ p. made_in p
    ≡ seen
    (polished
    (point (known_in c.new-facts.result)
    (setting_over c.args.unit (names_with (bound_names c.deref.result.now) (scalars_of c.deref.result.now) (λ _. None)))) m))
    _
    (λ p e. e
    ∙ ap
    (λ fs. seen
    (polished
    (point fs
    (setting_over c.args.unit (names_with (bound_names c.deref.result.now) (scalars_of c.deref.result.now) (λ _. None)))) m))
    c.new-facts.ensures.facts
    ∙ ap
    (λ bs. seen
    (polished (point [] (setting_over c.args.unit (names_with (bound_names bs) (scalars_of bs) (λ _. None)))) m))
    c.deref.ensures.value
    ∙ ap₂ (λ xs ss. seen (polished (point [] (setting_over c.args.unit (names_with xs ss (λ _. None)))) m))
    c.in_ok-bound.ensures.names c.in_ok-bound.ensures.scalars)
    c.polished.ensures
