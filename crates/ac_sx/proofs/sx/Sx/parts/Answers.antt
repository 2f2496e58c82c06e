use Rattle.std.proofs.Common.{Some, ap, sym, ◌∙◌}
use Rattle.ac_sx.specs.CodeSx.{tree_of, trees_in, parts_in}
use Rattle.ac_sx.proofs.Listed.{list_tree}
use Rattle.ac_sx.proofs.sx.Sx.parts.Goals as goal

pub returns-in-List : goal.returns-in-List
returns-in-List c =
    ap (λ xs. Some (trees_in xs)) c.as_slice.ensures.value ∙ ap parts_in (sym (ap tree_of c.in-List.is ∙ list_tree c.in-List.parts))
