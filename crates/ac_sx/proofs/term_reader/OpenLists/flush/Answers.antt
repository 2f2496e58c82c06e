use Rattle.std.proofs.Common.{sym, subst, ◌∙◌}
use Rattle.std.proofs.lemmas.Result.{on_ok_weaker}
use Rattle.ac_sx.specs.Tree.{Atom}
use Rattle.ac_sx.specs.CodeBuilder.{flushed}
use Rattle.ac_sx.specs.CodeTermReader.{open_of, building_in, with_part, Stands}
use Rattle.ac_sx.proofs.Opened.{stands_placed, flushed_some}
use Rattle.ac_sx.proofs.term_reader.OpenLists.flush.Goals as goal

pub returns-clause-next : goal.returns-clause-next
returns-clause-next c =
    let old = c.args.terms.now in
    let new = c.atom.new.terms in
    let o = open_of c.args.self.now in
    let stands = stands_placed old new o c.in_ok-id.id.0 (Atom c.args.word.now) c.requires.below c.atom.ensures.kept c.in_ok-id.ensures.found in
    let some = flushed_some (building_in old o) c.args.word.now (sym c.is_empty.ensures ∙ c.if-is_empty.false) in
    on_ok_weaker c.place.result (λ put. subst (λ x. Stands new x (flushed (building_in old o) c.args.word.now)) (sym put) (subst (λ b. Stands new (with_part o c.in_ok-id.id.0) b) (sym some) stands)) c.place.ensures
