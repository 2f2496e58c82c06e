-- The value so far is that of the digits so far, and once it is too large the whole is.
use Rattle.std.proofs.Common.{◌≡◌, ◌*◌, ◌<◌, ◌^◌, arith, ap, ◌∙◌, subst}
use Rattle.std.specs.Str.Parse.{digits_value}
use Rattle.std.proofs.lemmas.List.{take_all}
use Rattle.c_lex.proofs.Digits.{next_value, next_value-le}
use Rattle.c_lex.proofs.numbers.digits_value.Goals as goal

pub returns-in_err-checked_mul : goal.returns-in_err-checked_mul
returns-in_err-checked_mul c =
    let more = next_value-le c.args.base c.args.digits.now c.loop-byte.byte-index c.loop-byte.value (omega arith) c.loop-byte-test.true c.loop-byte.invariant.so_far in
    rw c.from_residual.ensures (λ fits. c.in_err-checked_mul.ensures (omega (arith, ap (λ n. c.loop-byte.value * n) c.from.ensures)))

pub returns-in_err-value : goal.returns-in_err-value
returns-in_err-value c =
    let more = next_value-le c.args.base c.args.digits.now c.loop-byte.byte-index c.loop-byte.value (omega arith) c.loop-byte-test.true c.loop-byte.invariant.so_far in
    let product = (c.in_ok-checked_mul.ensures).1 in
    rw c.from_residual-in_err-value.ensures (λ fits. c.in_err-value.ensures (omega (arith, ap (λ n. c.loop-byte.value * n) c.from.ensures)))

pub loop-byte-preserved : goal.loop-byte-preserved
loop-byte-preserved c =
    let more = next_value c.args.base c.args.digits.now c.loop-byte.byte-index c.loop-byte.value c.loop-byte-test.true c.loop-byte.invariant.so_far in
    let product = (c.in_ok-checked_mul.ensures).1 in
    let sum = c.in_ok-value.ensures in
    record { fits = omega arith; so_far = cc }

pub returns : goal.returns
returns c =
    let whole : c.loop-byte.value ≡ digits_value c.args.base c.args.digits.now = c.loop-byte.invariant.so_far ∙ ap (digits_value c.args.base) (take_all c.loop-byte.byte-index c.args.digits.now c.loop-byte-test.false) in
    (subst (λ n. n < 2 ^ 64) whole c.loop-byte.invariant.fits, whole)
