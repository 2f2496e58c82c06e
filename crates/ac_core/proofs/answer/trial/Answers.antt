use Rattle.std.proofs.Common.{inl, ap, ◌∙◌, subst, arith}
use Rattle.std.proofs.lemmas.Result.{IfOk-weaker}
use Rattle.c_values.specs.CodeTypes as types
use Rattle.sample_text.specs.Sample.{sample_text}
use Rattle.text_answers.specs.TextAnswer.{IsTextAnswer}
use Rattle.ac_core.specs.Trial.{IsTried}
use Rattle.ac_core.proofs.answer.trial.Goals as goal

pub returns-in_ok-text-in-Ok : goal.returns-in_ok-text-in-Ok
returns-in_ok-text-in-Ok g c =
    IfOk-weaker c.answer_text.result _ _
    (λ a h. inl (
      omega (arith, c.if-few-le-COUNT_LIMIT.true, c.in-Ok.ensures),
      subst (λ t. IsTextAnswer (types.target_of c.args.target) (IsTried (types.target_of c.args.target)) t a.status a.lines.items)
          (c.deref.ensures.value ∙ c.in_ok-text-in-Ok.ensures ∙ ap sample_text c.in-Ok.ensures.1) h,
    ))
    c.answer_text.ensures
