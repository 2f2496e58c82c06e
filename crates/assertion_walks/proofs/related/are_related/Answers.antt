-- By the search.
use Rattle.std.proofs.Common.{◌≡◌, ◌||◌, sym, ap, ap₂, ◌∙◌}
use Rattle.c_values.specs.Layout.{shape_of}
use Rattle.c_values.specs.CodeTypes.{type_of}
use Rattle.assertion_walks.specs.CodeRelated.{has_part}
use Rattle.assertion_walks.proofs.PartsHad.{related_is}
use Rattle.assertion_walks.proofs.related.are_related.Goals as goal

pub returns-then-has_part : goal.returns-then-has_part
returns-then-has_part c =
    let l = c.args.l.now in
    let t = type_of c.args.t.now in
    let u = type_of c.args.u.now in
    let is = related_is l t u in
    let there = sym c.has_part.ensures ∙ c.if-has_part.true in
    ((λ yes. is.0 (ap (λ b. b || has_part (shape_of l u) t) there)), (λ so. c.if-has_part.true))

pub returns-else-has_part : goal.returns-else-has_part
returns-else-has_part c =
    let l = c.args.l.now in
    let t = type_of c.args.t.now in
    let u = type_of c.args.u.now in
    let is = related_is l t u in
    let same : (has_part (shape_of l t) u || has_part (shape_of l u) t) ≡ c.has_part-else-has_part.result =
    ap₂ (λ a b. a || b) (sym c.has_part.ensures ∙ c.if-has_part.false) (sym c.has_part-else-has_part.ensures) in
    ((λ yes. is.0 (same ∙ yes)), (λ so. sym same ∙ is.1 so))
