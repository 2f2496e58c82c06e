use Rattle.std.proofs.Common.{Some, reverse, map, ap, sym, subst, ◌∙◌}
use Rattle.std.specs.Prelude.{Vec}
use Rattle.std.specs.declared.alloc.Global.{Global}
use Rattle.std.proofs.lemmas.Result.{on_ok_weaker}
use Rattle.ac_sx.specs.declared.terms.TermId.{TermId}
use Rattle.ac_sx.specs.Tree.{Node}
use Rattle.ac_sx.specs.Table.{trees_at, trees_of}
use Rattle.ac_sx.specs.CodeBuilder.{left}
use Rattle.ac_sx.specs.CodeTermReader.{open_of, numbers, building_in, with_part, Stands}
use Rattle.ac_sx.proofs.Opened.{opened, stands_left, around-pop}
use Rattle.ac_sx.proofs.term_reader.OpenLists.leave.Goals as goal

pub returns-clause-next : goal.returns-clause-next
returns-clause-next c =
    let old = c.args.terms.now in
    let new = c.intern.new.self in
    let o = open_of c.args.self.now in
    let popped = ap (λ xs. reverse (map (λ (v : Vec TermId Global). numbers v.items) xs)) c.in-Some.ensures.items ∙ around-pop c.pop.new.self.items c.in-Some.outer in
    let rest = reverse (map (λ (v : Vec TermId Global). numbers v.items) c.pop.new.self.items) in
    let found = c.in_ok-id.ensures.found ∙ ap (λ (v : Vec TermId Global). Some (Node (trees_at (trees_of old) (numbers v.items)))) c.replace-parts.ensures.value in
    let stands = stands_left old new o (numbers c.in-Some.outer.items) rest c.in_ok-id.id.0 popped c.requires.below c.intern.ensures.kept found in
    let after = ap (λ (v : Vec TermId Global). with_part (opened (numbers v.items) rest) c.in_ok-id.id.0) c.replace-parts.ensures.after in
    on_ok_weaker c.place.result (λ put. subst (λ x. Stands new x (left (building_in old o))) (sym (put ∙ after)) stands) c.place.ensures
