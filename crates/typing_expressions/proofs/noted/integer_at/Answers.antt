-- The number is its rule's, of the operand's value, and the conversions are noted.
use Rattle.std.proofs.Common.{◌≡◌, ℤ, subst}
use Rattle.c_lang.specs.Cast.{has_cast}
use Rattle.c_lang.specs.CodeTyped.{expr_of}
use Rattle.typing_rules.specs.Checked.{Good, changed, ruled, then}
use Rattle.typing_rules.specs.Constant.{constant_value}
use Rattle.typing_rules.specs.Expressions.{integer_of, note}
use Rattle.typing_scope.specs.CodeScope.{scope_of}
use Rattle.typing_expressions.proofs.Conversions.{noted_good}
use Rattle.typing_expressions.proofs.noted.integer_at.Goals as goal

pub returns : goal.returns
returns c =
    let s = scope_of c.args.scope.now in
    let t = scope_of c.note.new.self in
    let n = c.in_ok-n.n in
    let e = expr_of c.in_ok-e.e in
    subst (λ x. then (ruled c.args.at s (integer_of x (constant_value s.layout x))) (changed (note (has_cast x))) ≡ Good (n, t)) c.in_ok-e.ensures
    (noted_good (λ (m : ℤ). m) c.args.at s t c.integer_of.result n (integer_of e (constant_value s.layout e)) c.has_cast.result (has_cast e) c.integer_of.ensures c.in_ok-n.ensures c.has_cast.ensures c.note.ensures)
