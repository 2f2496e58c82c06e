-- A struct has no elements.
use Rattle.std.proofs.Common.{ap, ◌∙◌}
use Rattle.std.specs.Prelude.{string_bytes}
use Rattle.c_values.specs.Layout.{shape_of}
use Rattle.c_values.specs.CodeTypes.{type_of}
use Rattle.expression_lang.specs.CodeAlong.{element_in}
use Rattle.expression_lang.specs.CodeExpression.{exp_of}
use Rattle.expression_lang.proofs.Sorting.{struct_element}
use Rattle.assertion_walks.proofs.ScalarEnds.{no_array}
use Rattle.assertion_walks.proofs.scalars.element_at.Goals as goal

pub returns-in-Struct-clause-none : goal.returns-in-Struct-clause-none
returns-in-Struct-clause-none c =
    no_array (exp_of c.args.index.now) (shape_of c.args.l.now (type_of c.args.t.now))
    (ap (λ t. element_in (shape_of c.args.l.now (type_of t))) c.in-Struct.is
    ∙ struct_element c.args.l.now (string_bytes c.in-Struct.field-0))
