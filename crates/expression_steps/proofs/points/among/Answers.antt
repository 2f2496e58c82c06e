-- One name more was passed.
use Rattle.std.proofs.Common.{List, ◌∷◌, sym, ap, ◌∙◌}
use Rattle.std.specs.Option.{option_map}
use Rattle.c_values.specs.Name.{Name}
use Rattle.expression_lang.specs.CodeSort.{scalar_of}
use Rattle.expression_lang.specs.Sorted.{names_with}
use Rattle.expression_steps.specs.declared.points.Binding as B
use Rattle.expression_steps.specs.CodePoint.{names_of, scalars_of}
use Rattle.expression_steps.proofs.points.among.Goals as goal

pub along-preserved : goal.along-preserved
along-preserved c =
    let bs = c.in-Some.others.now in
    let y = c.args.name.now in
    c.along.invariant
    ∙ ap (λ (xs : List B.Binding). names_with (names_of xs) (scalars_of xs) (λ _. option_map scalar_of c.along.found) y)
    c.in-Some.ensures.cases.0
    ∙ ap
    (λ (x : Name).
    names_with (x ∷ names_of bs) (scalar_of c.in-Some.first.now.scalar ∷ scalars_of bs)
    (λ _. option_map scalar_of c.along.found) y) (sym c.as_str.ensures.value)
    ∙ c.after_name-found.ensures (names_of bs) (scalars_of bs)
