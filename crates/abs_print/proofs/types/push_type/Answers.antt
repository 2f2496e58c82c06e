use Rattle.std.proofs.Common.{◌++◌, ap, sym, ◌∙◌, append_assoc}
use Rattle.std.specs.Prelude.{codes}
use Rattle.std.specs.Fmt.{decimal}
use Rattle.c_values.specs.CodeTypes.{type_of}
use Rattle.abs_print.specs.Expressions.{type_text}
use Rattle.abs_print.proofs.Along.{ending_put_aside, front_written}
use Rattle.abs_print.proofs.types.push_type.Goals as goal

pub down-preserved-in-Ptr : goal.down-preserved-in-Ptr
down-preserved-in-Ptr c =
    ending_put_aside _ _ _ _ _ _ _ _ c.down.invariant c.in_ok-push-in-Ptr-2.ensures.items
    (front_written _ _ (codes "(ptr ") _ _ c.in_ok-push-in-Ptr.ensures
    (ap (λ t. type_text (type_of t)) c.in-Ptr.is
    ∙ ap (λ t. codes "(ptr " ++ (type_text (type_of t) ++ codes ")")) (sym c.deref-inner.ensures)))

pub down-preserved : goal.down-preserved
down-preserved c =
    let length = decimal c.in-Array.length in
    ending_put_aside _ _ _ _ _ _ _ _ c.down.invariant c.in_ok-push-in-Array-2.ensures.items
    (front_written _ _ (codes "(array ") _ _ c.in_ok-push-in-Array.ensures
    (ap (λ t. type_text (type_of t)) c.in-Array.is
    ∙ ap (λ t. codes "(array " ++ t) (append_assoc (type_text (type_of c.in-Array.next.value)) (codes " " ++ length) (codes ")"))
    ∙ ap (λ t. codes "(array " ++ (type_text (type_of t) ++ (codes " " ++ (length ++ codes ")")))) (sym c.deref-inner-in-Array.ensures)))
