-- One tree has been written, and it is the last.
use Rattle.std.proofs.Common.{◌≡◌, Some, vec_len, option_map, ap, sym, ◌∙◌}
use Rattle.ac_sx.specs.CodeSx.{tree_of}
use Rattle.ac_sx.specs.CodeBuilder.{building_of}
use Rattle.ac_sx.proofs.Building.{last_popped}
use Rattle.ac_sx.proofs.Taken.{whole_placed}
use Rattle.ac_sx.proofs.builder.SxBuilder.finish.Goals as goal

pub unreachable-requires : goal.unreachable-requires
unreachable-requires c =
    let none = c.in-None.is in
    let some = last_popped c.args.self.parts.items c.pop.new.self.items c.pop.result (vec_len c.args.self.parts) (vec_len c.pop.new.self) c.pop.ensures.items c.args.self.parts.ok.0 c.pop.ensures.cases ∙ whole_placed (building_of c.args.self) c.requires.0 c.requires.1 in
    let absent = sym (ap (option_map tree_of) none) ∙ some in
    absurd cc

pub returns : goal.returns
returns c = λ t e.
    let is = c.in-Some.is in
    let some = last_popped c.args.self.parts.items c.pop.new.self.items c.pop.result (vec_len c.args.self.parts) (vec_len c.pop.new.self) c.pop.ensures.items c.args.self.parts.ok.0 c.pop.ensures.cases ∙ whole_placed (building_of c.args.self) t e in
    let here : Some (tree_of c.in-Some.tree) ≡ Some t = sym (ap (option_map tree_of) is) ∙ some in
    cc
