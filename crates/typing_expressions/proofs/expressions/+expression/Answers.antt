-- A cast is answered as its rule is, behind its type and its operand.
use Rattle.std.proofs.Common.{◌≡◌, length, ap, subst, ◌∙◌, rules}
use Rattle.std.specs.Prelude.{string_bytes}
use Rattle.c_grammar.specs.CodeTree as view
use Rattle.c_values.specs.CodeTypes.{type_of}
use Rattle.typing_rules.specs.Checked.{Good, rule}
use Rattle.typing_rules.specs.CodeOperand.{operand_of, demand_of}
use Rattle.typing_rules.specs.CodeWords.{base_of}
use Rattle.typing_rules.specs.Expressions as expressions
use Rattle.typing_rules.specs.Operand.{ForValue}
use Rattle.typing_scope.specs.CodeScope.{scope_of}
use Rattle.typing_expressions.proofs.Casts.{cast_answers, type_typed}
use Rattle.typing_expressions.proofs.Enumerated.{enumerated}
use Rattle.typing_expressions.proofs.expressions.+expression.Goals as goal

pub operand-returns-in_ok-inner-in-Cast : goal.operand-returns-in_ok-inner-in-Cast
operand-returns-in_ok-inner-in-Cast t c =
    let s = scope_of c.args.scope.now in
    let u = scope_of c.base-in-Cast.new.scope in
    let v = scope_of c.operand-in-Cast.new.scope in
    let ws = view.words_of c.in-Cast.words.value in
    let stars = c.in-Cast.stars.items in
    let e = view.exp_of c.in-Cast.inner.value in
    let b = base_of c.in_ok-base-in-Cast.base in
    let ty = type_of c.in_ok-ty-in-Cast.ty in
    let a = operand_of c.in_ok-inner-in-Cast.inner in
    let n = c.len-in-Cast.result in
    let words_typed : expressions.base ws s ≡ Good (b, u) = subst (λ w. expressions.base (view.words_of w) s ≡ Good (b, u)) c.deref-in-Cast.ensures c.in_ok-base-in-Cast.ensures in
    let around : rule (expressions.words_start ws) (λ z. expressions.starred n b.type) u ≡ Good (ty, u) = subst (λ w. rule (expressions.words_start (view.words_of w)) (λ z. expressions.starred n b.type) u ≡ Good (ty, u)) c.deref-in-Cast-2.ensures c.in_ok-ty-in-Cast.ensures in
    let inner : expressions.operand ForValue e u ≡ Good (a, v) = subst (λ w. expressions.operand ForValue (view.exp_of w) u ≡ Good (a, v)) c.deref-in-Cast-3.ensures c.in_ok-inner-in-Cast.ensures in
    let same : n ≡ length stars = search rules in
    cast_answers (demand_of c.args.demand) (view.exp_of c.args.e.now) c.in-Cast.at ws stars e ty a s u v c.cast_at.result (ap view.exp_of c.in-Cast.is) (type_typed ws stars n b ty s u words_typed same around) inner c.cast_at.ensures

pub enumerator-returns-in_ok-typed-in-Explicit : goal.enumerator-returns-in_ok-typed-in-Explicit
enumerator-returns-in_ok-typed-in-Explicit t c =
    let s = scope_of c.args.scope.now in
    let u = scope_of c.operand.new.scope in
    let e = view.exp_of c.in-Explicit.value.value in
    let a = operand_of c.in_ok-typed-in-Explicit.typed in
    let typed : expressions.operand ForValue e s ≡ Good (a, u) = subst (λ w. expressions.operand ForValue (view.exp_of w) s ≡ Good (a, u)) c.deref.ensures c.in_ok-typed-in-Explicit.ensures in
    let begins : c.first.result ≡ expressions.first e = c.first.ensures ∙ ap (λ w. expressions.first (view.exp_of w)) c.deref-in-Explicit.ensures in
    enumerated (λ n. n) c.args.next c.in-Explicit.at c.first.result (string_bytes c.in-Explicit.name) c.as_str-in-Explicit.result.now e a s u (scope_of c.enumerator_at.new.scope) c.enumerator_at.result (view.enumerator_of c.args.enumerator.now)
    (ap view.enumerator_of c.in-Explicit.is) begins c.as_str-in-Explicit.ensures.value typed c.enumerator_at.ensures
