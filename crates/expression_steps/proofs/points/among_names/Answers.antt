-- One name more was passed.
use Rattle.std.proofs.Common.{List, ◌∷◌, map, string_bytes, sym, ap, ap₂, ◌∙◌}
use Rattle.std.specs.Option.{option_map}
use Rattle.c_values.specs.Name.{Name}
use Rattle.expression_lang.specs.Sort.{Scalar}
use Rattle.expression_lang.specs.CodeSort.{scalar_of}
use Rattle.expression_lang.specs.Sorted.{names_with}
use Rattle.expression_steps.proofs.points.among_names.Goals as goal

pub along-preserved : goal.along-preserved
along-preserved c =
    let y = c.args.name.now in
    let xs = map string_bytes c.in-Some.others.now in
    let ss = map scalar_of c.in-Some-split_first.behind.now in
    sym (c.after_name-found.ensures xs ss)
    ∙ ap (λ (x : Name). names_with (x ∷ xs) (scalar_of c.in-Some-split_first.scalar.now ∷ ss) (λ _. option_map scalar_of c.along.found) y)
    c.as_str.ensures.value
    ∙ ap₂ (λ (ns : List Name) (ts : List Scalar). names_with ns ts (λ _. option_map scalar_of c.along.found) y)
    (ap (map string_bytes) (sym c.in-Some.ensures.cases.0)) (ap (map scalar_of) (sym c.in-Some-split_first.ensures.cases.0))
    ∙ c.along.invariant
