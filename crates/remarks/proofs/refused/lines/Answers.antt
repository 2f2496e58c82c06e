use Rattle.std.proofs.Common.{◌++◌, sym, ap, ◌∙◌, append_assoc}
use Rattle.std.specs.Option.{option_map}
use Rattle.remarks.specs.Remark.{about, not_accepted, node_is_about, refused_lines}
use Rattle.remarks.proofs.refused.lines.Goals as goal

pub returns-in_ok-extend_from_slice-in-Some : goal.returns-in_ok-extend_from_slice-in-Some
returns-in_ok-extend_from_slice-in-Some c =
    let file = c.args.file.now in
    let shown = c.in-Some.shown.items in
    c.in_ok-extend_from_slice-in-Some.ensures.items ∙ ap (λ s. c.push.new.lines.items ++ s) c.deref.ensures.value
    ∙ ap (λ lines. lines ++ shown) (c.in_ok-push-in-Some.ensures ∙ ap (λ lines. lines ++ node_is_about) c.in_ok-lines.ensures)
    ∙ append_assoc (about file not_accepted) node_is_about shown ∙ ap (λ o. refused_lines file (option_map (λ part. part.items) o)) (sym c.in-Some.is)

pub returns-in-None : goal.returns-in-None
returns-in-None c = c.in_ok-lines.ensures ∙ ap (λ o. refused_lines c.args.file.now (option_map (λ part. part.items) o)) (sym c.in-None.is)
