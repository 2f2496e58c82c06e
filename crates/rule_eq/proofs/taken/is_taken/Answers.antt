-- The value with its name, where both are there.
use Rattle.std.proofs.Common.{Some, map, string_bytes, ap, sym, ◌∙◌}
use Rattle.std.proofs.lemmas.Bool.{false≢true}
use Rattle.expression_lang.specs.CodeExpression.{exp_of}
use Rattle.monad_lang.specs.CodeProgram.{mon_of}
use Rattle.rule_eq.specs.CodeTaken.{without}
use Rattle.rule_eq.proofs.Taking.{taken, found, taken_is, no_value, no_name, not_taken}
use Rattle.rule_eq.proofs.taken.is_taken.Goals as goal

pub returns-in_default : goal.returns-in_default
returns-in_default c = (
  (λ yes. absurd (false≢true yes)),
  (λ h. absurd (not_taken _ (mon_of c.args.m.now) (mon_of c.args.right.now) (no_value c.args.position (map exp_of c.args.values.now) (map string_bytes c.args.names.now) c.in_default.ensures.none) h)),
)

pub returns-in_default-name_at : goal.returns-in_default-name_at
returns-in_default-name_at c = (
  (λ yes. absurd (false≢true yes)),
  (λ h. absurd (not_taken _ (mon_of c.args.m.now) (mon_of c.args.right.now) (no_name c.args.position (map exp_of c.args.values.now) (map string_bytes c.args.names.now) c.in_default-name_at.ensures.none) h)),
)

pub returns-then-can_stand : goal.returns-then-can_stand
returns-then-can_stand c =
    let es = map exp_of c.args.values.now in
    let xs = map string_bytes c.args.names.now in
    let k = taken c.args.position (exp_of c.in-Some.value.now) c.as_str-name.result.now es xs in
    let is = taken_is _ k (mon_of c.args.m.now) (mon_of c.args.right.now) (found c.args.position es xs _ _ c.in-Some.ensures.some (c.in-Some-name_at.ensures.some ∙ ap (λ x. Some x) (sym c.as_str-name.ensures.value))) in
    let stands = (c.can_stand.ensures (without c.args.position es)).0 c.if-can_stand.true in
    ((λ yes. is.0 (stands, c.is_right.ensures.0 yes)), (λ h. c.is_right.ensures.1 (is.1 h).1))

pub returns-else-can_stand : goal.returns-else-can_stand
returns-else-can_stand c =
    let es = map exp_of c.args.values.now in
    let xs = map string_bytes c.args.names.now in
    let k = taken c.args.position (exp_of c.in-Some.value.now) c.as_str-name.result.now es xs in
    let is = taken_is _ k (mon_of c.args.m.now) (mon_of c.args.right.now) (found c.args.position es xs _ _ c.in-Some.ensures.some (c.in-Some-name_at.ensures.some ∙ ap (λ x. Some x) (sym c.as_str-name.ensures.value))) in (
      (λ yes. absurd cc),
      (λ h. absurd (false≢true (sym c.if-can_stand.false ∙ (c.can_stand.ensures (without c.args.position es)).1 (is.1 h).0))),
    )
