-- A struct has no elements.
use Rattle.std.proofs.Common.{◌∙◌, ap, sym}
use Rattle.std.specs.Prelude.{string_bytes}
use Rattle.c_values.specs.Layout.{shape_of}
use Rattle.c_values.specs.CodeTypes.{type_of}
use Rattle.expression_lang.specs.CodeAlong.{element_in}
use Rattle.expression_lang.proofs.Sorting.{struct_element}
use Rattle.rule_word.proofs.sorts.element.Goals as goal

pub returns-in-Struct : goal.returns-in-Struct
returns-in-Struct c =
    sym (ap (λ t. element_in (shape_of c.args.l.now (type_of t))) c.in-Struct.is
    ∙ struct_element c.args.l.now (string_bytes c.in-Struct.field-0))
