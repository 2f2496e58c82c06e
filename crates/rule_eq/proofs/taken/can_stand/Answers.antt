-- By each of the three that are asked.
use Rattle.std.proofs.Common.{rules, ◌≡◌, true, false, map, inl, inr, string_bytes, refl, sym, ◌∙◌}
use Rattle.std.proofs.lemmas.Bool.{false≢true}
use Rattle.expression_lang.specs.CodeExpression.{exp_of}
use Rattle.expression_lang.specs.Mentions.{reads}
use Rattle.monad_lang.specs.CodeProgram.{mon_of}
use Rattle.rule_eq.specs.CodeTaken.{without}
use Rattle.rule_eq.proofs.Taking.{stands, stands_uncaptured, stands_free, free_stands}
use Rattle.rule_eq.proofs.taken.can_stand.Goals as goal

pub returns-then-captures : goal.returns-then-captures
returns-then-captures c = λ exps. (
  (λ yes. absurd (false≢true yes)),
  (λ s. absurd (false≢true (sym (stands_uncaptured (record { exp = exp_of c.args.value.now; name = c.args.name.now; exps = exps; names = without c.args.position (map string_bytes c.args.names.now) }) (mon_of c.args.m.now) s) ∙ (sym c.captures-2.ensures ∙ c.if-captures.true)))),
)

pub returns-then-not-any : goal.returns-then-not-any
returns-then-not-any c = λ exps.
    let state : reads (exp_of c.args.value.now) ≡ false = search rules in
    ((λ yes. stands (record { exp = exp_of c.args.value.now; name = c.args.name.now; exps = exps; names = without c.args.position (map string_bytes c.args.names.now) }) (mon_of c.args.m.now) (sym c.is_unnamed_but.ensures ∙ c.if-not-is_unnamed_but.false) (sym c.captures-2.ensures ∙ c.if-captures.false) (inl state)), (λ s. refl))

pub returns : goal.returns
returns c = λ exps.
    let state : reads (exp_of c.args.value.now) ≡ true = search rules in (
      (λ yes. stands (record { exp = exp_of c.args.value.now; name = c.args.name.now; exps = exps; names = without c.args.position (map string_bytes c.args.names.now) }) (mon_of c.args.m.now) (sym c.is_unnamed_but.ensures ∙ c.if-not-is_unnamed_but.false) (sym c.captures-2.ensures ∙ c.if-captures.false) (inr (free_stands c.is_free.result _ c.is_free.ensures yes))),
      (λ s. stands_free (record { exp = exp_of c.args.value.now; name = c.args.name.now; exps = exps; names = without c.args.position (map string_bytes c.args.names.now) }) (mon_of c.args.m.now) c.is_free.result c.is_free.ensures state s),
    )
