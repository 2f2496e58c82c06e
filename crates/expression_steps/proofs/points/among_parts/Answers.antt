-- One part more was passed.
use Rattle.std.proofs.Common.{◌≡◌, List, map, string_bytes, sym, ap, ◌∙◌, rules}
use Rattle.std.specs.Option.{option_map}
use Rattle.expression_lang.specs.CodeSort.{scalar_of}
use Rattle.expression_lang.specs.Sorted.{names_with}
use Rattle.expression_steps.specs.declared.points.PassedPart as P
use Rattle.expression_steps.specs.CodePoint.{names_behind}
use Rattle.expression_steps.proofs.NamesFound.{part_after}
use Rattle.expression_steps.proofs.points.among_parts.Goals as goal

pub along-preserved : goal.along-preserved
along-preserved c =
    let y = c.args.name.now in
    let p = c.in-Some.first.now in
    let here : option_map scalar_of c.among_names-found.result ≡ names_with (map string_bytes p.names.items) (map scalar_of p.scalars.items) (λ _. option_map scalar_of c.along.found) y = search rules in
    part_after p c.in-Some.others.now (option_map scalar_of c.along.found)
    (option_map scalar_of c.among_names-found.result) y here
    ∙ ap (λ (ps : List P.PassedPart). names_behind ps (λ _. option_map scalar_of c.along.found) y)
    (sym c.in-Some.ensures.cases.0)
    ∙ c.along.invariant
