use Rattle.std.proofs.Common.{◌≡◌, ◌*◌, ◌/◌, string_bytes, ap, ◌∙◌, sym, arith}
use Rattle.std.proofs.Math.Nat.{mul-div_cancel_left}
use Rattle.c_values.specs.Layout.{size_of}
use Rattle.c_values.specs.CodeTypes.{type_of}
use Rattle.c_values.proofs.Into.{into_struct, into_array}
use Rattle.c_values.proofs.offsets.step_into.Goals as goal

pub returns-in-Index : goal.returns-in-Index
returns-in-Index c =
    let x = string_bytes c.in-Struct.name in
    rw (c.in-Struct.is, c.in-Index.is) (sym (into_struct c.args.l.now x _ c.size_of-size.ensures.layout (rw c.in-Struct.is at c.requires)))

pub returns-in-Index-step : goal.returns-in-Index-step
returns-in-Index-step c =
    let l = c.args.l.now in
    let u = type_of c.in-Array.element.value in
    let n = c.in-Array.length in
    let i = c.in-Index-step.i in
    let whole : c.size_of-size.result ≡ n * size_of l u = c.size_of-size.ensures.value ∙ ap (λ t. size_of l (type_of t)) c.in-Array.is in
    let each : c.size_of-size.result / n ≡ size_of l u = ap (λ m. m / n) whole ∙ mul-div_cancel_left (size_of l u) (omega arith) in
    rw (c.in-Array.is, c.in-Index-step.is, c.deref.ensures) (into_array l u n i (c.size_of-size.result / n) c.if-i-length.true each)
