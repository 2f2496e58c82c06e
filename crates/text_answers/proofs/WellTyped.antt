-- The unit of a text is well-typed.
use Rattle.c_values.specs.Types.{Target}
use Rattle.c_lang.specs.Typed.{TypedUnit}
use Rattle.c_lang.specs.WellTyped.{IsWellTyped}
use Rattle.typing_laws.proofs.SpelledTexts.{texts_are_written}
use Rattle.typing_laws.proofs.Whole.{typed_units_are_well_typed}
use Rattle.text_answers.specs.TextAnswer.{IsRead}

pub well_typed : (target : Target) (unit : TypedUnit) → IsRead target unit → IsWellTyped unit
well_typed target unit h =
    let t = h.is_text in
    typed_units_are_well_typed target t.tree unit (texts_are_written h.text t.tokens t.tree h.short t.are_tokens t.is_tree.spells) t.typed
