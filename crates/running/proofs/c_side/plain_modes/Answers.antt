-- None is left.
use Rattle.std.proofs.Common.{◌++◌, map, sym, ap, ◌∙◌}
use Rattle.std.proofs.lemmas.List.{append-nil, nil_from_length}
use Rattle.expression_lang.specs.CodeExpression.{level_of}
use Rattle.running.proofs.CRuns.{each_on_bytes, plain_levels}
use Rattle.running.proofs.c_side.plain_modes.Goals as goal

pub returns : goal.returns
returns c =
    let levels = map level_of c.functions.levels.items in
    plain_levels c.args.unit.now.functions.items levels
    (sym (append-nil levels)
    ∙ ap (λ fs. levels ++ each_on_bytes fs) (sym (nil_from_length c.functions.rest.now c.in_default.ensures.cases))
    ∙ c.functions.invariant)
