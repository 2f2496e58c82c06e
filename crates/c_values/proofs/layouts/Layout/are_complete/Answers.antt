use Rattle.std.proofs.Common.{◌≡◌, ◌<◌, map, length, get_or, ap, sym, ◌∙◌, rules}
use Rattle.std.proofs.lemmas.Bool.{not-true, not-false}
use Rattle.std.proofs.lemmas.List.{get_or-map, length-map}
use Rattle.c_values.specs.Layout.{shape_of}
use Rattle.c_values.specs.CodeLayout.{member_of}
use Rattle.c_values.proofs.Following.{complete_further, incomplete_here}
use Rattle.c_values.proofs.layouts.Layout.are_complete.Goals as goal

pub returns-then-not-extent : goal.returns-then-not-extent
returns-then-not-extent c =
    let ms = c.args.members.now in
    let i = c.loop-ty.ty-index in
    let m = member_of c.loop-ty-item.result in
    let within : i < length ms = search rules in
    let within' : i < length (map member_of ms) = rw length-map within in
    let here : m ≡ get_or (map member_of ms) i m = ap member_of c.loop-ty-item.is ∙ sym (get_or-map member_of ms i c.loop-ty-item.result m within)
    in
    sym (c.loop-ty.invariant ∙ incomplete_here (shape_of c.args.self.now) (map member_of ms) i m within' here (sym c.extent.ensures.measures.complete ∙ not-true c.extent.result.complete c.if-not-extent.true))

pub loop-ty-preserved : goal.loop-ty-preserved
loop-ty-preserved c =
    let ms = c.args.members.now in
    let i = c.loop-ty.ty-index in
    let m = member_of c.loop-ty-item.result in
    let within : i < length ms = search rules in
    let within' : i < length (map member_of ms) = rw length-map within in
    let here : m ≡ get_or (map member_of ms) i m = ap member_of c.loop-ty-item.is ∙ sym (get_or-map member_of ms i c.loop-ty-item.result m within)
    in
    c.loop-ty.invariant ∙ complete_further (shape_of c.args.self.now) (map member_of ms) i m within' here (sym c.extent.ensures.measures.complete ∙ not-false c.extent.result.complete c.if-not-extent.false)
