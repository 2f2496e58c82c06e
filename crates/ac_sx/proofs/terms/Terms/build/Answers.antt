-- Each byte goes on an atom, or ends one and begins or ends a list.
use Rattle.std.proofs.Common.{◌≡◌, ◌+◌, ◌++◌, ◌∷◌, [], length, vec_len, drop, get_or, true, false, refl, ap, ap₂, sym, subst, ◌∙◌, arith}
use Rattle.std.specs.List.{list_all, slice_range}
use Rattle.std.proofs.lemmas.Bool.{and_parts}
use Rattle.std.proofs.lemmas.List.{drop_all}
use Rattle.ac_sx.specs.Tree.{is_atom_byte, line_end}
use Rattle.ac_sx.specs.Table.{trees_of, are_below, Keeps}
use Rattle.ac_sx.specs.CodeBuilder.{Building, acted, flushed, built_from, built}
use Rattle.ac_sx.specs.CodeTermReader.{open_of, numbers, building_in, are_open_below, IsLow}
use Rattle.ac_sx.proofs.Tabled.{length-trees_of}
use Rattle.ac_sx.proofs.Levels.{Passing, passing_line, low_nothing, low_flushed, byte_passed, word_passed}
use Rattle.ac_sx.proofs.LineBuilding.{keeps_trans, keeps_self, length-slice_range-le, line_goes_on, line_word_ends, line_built, last_numbered}
use Rattle.ac_sx.proofs.terms.Terms.build.Goals as goal
use Rattle.ac_sx.proofs.terms.Terms.build.Goals.{then-not-is_atom_byte+in_ok-flush+in_ok-act, else-not-is_atom_byte}

pub loop-at-init : goal.loop-at-init
loop-at-init c =
    let text = c.args.bytes.now in
    let es = c.args.self.now in
    let empty = c.new-lists.ensures in
    let building_is = ap (building_in es) empty in
    record {
      begun = omega arith;
      word = refl;
      below = ap (are_open_below (length es)) empty;
      same = ap (λ b. built_from b [] (text ++ line_end ∷ [])) building_is;
      kept = keeps_self es;
      low = subst IsLow (sym building_is) low_nothing;
      passing = subst (λ (b : Building). Passing (length b.around) (text ++ line_end ∷ [])) (sym building_is) (passing_line text c.requires.spelt);
      len = omega arith;
    }

pub act-requires-clause-low : goal.act-requires-clause-low
act-requires-clause-low c = subst IsLow (sym c.in_ok-flush.ensures.next.same) (low_flushed (building_in c.loop-at.self (open_of c.loop-at.lists)) (slice_range c.args.bytes.now c.loop-at.start c.loop-at.at) c.loop-at.invariant.low)

pub loop-at-preserved : goal.loop-at-preserved
loop-at-preserved c =
    let text = c.args.bytes.now in
    let tail = line_end ∷ [] in
    let at = c.loop-at.at in
    let byte = get_or text at 0 in
    let before = building_in c.loop-at.self (open_of c.loop-at.lists) in
    let whole = built (text ++ tail) in
    let i = c.loop-at.invariant in
    elim c.if-not-is_atom_byte.branch [
      | then-not-is_atom_byte+in_ok-flush+in_ok-act w ↦
          let new = w.act.new.terms in
          let there = w.in_ok-act.ensures.next.same ∙ ap (λ b. acted b byte) w.in_ok-flush.ensures.next.same in
          let no_word : is_atom_byte byte ≡ false = sym c.is_atom_byte.ensures ∙ w.if-not-is_atom_byte.true in
          let kept = line_word_ends before (building_in new (open_of w.act.new.self)) (slice_range text c.loop-at.start at) text tail at whole (omega arith) no_word i.same there in
          let building_is = ap₂ (λ es o. building_in es (open_of o)) w.self-is w.lists-is in
          let passed = byte_passed before (building_in c.if-not-is_atom_byte.self (open_of c.if-not-is_atom_byte.lists)) (slice_range text c.loop-at.start at) text tail at (omega arith) i.low i.passing (building_is ∙ there) in
          let longer = keeps_trans c.loop-at.self w.flush.new.terms new w.flush.ensures.kept w.act.ensures.kept in
          record {
            begun = omega (arith, w.start-is);
            word = ap (λ n. list_all is_atom_byte (slice_range text n (at + 1))) w.start-is ∙ kept.0;
            below = ap₂ (λ es o. are_open_below (length es) (open_of o)) w.self-is w.lists-is ∙ w.in_ok-act.ensures.next.below;
            same =
                ap (λ n. built_from (building_in c.if-not-is_atom_byte.self (open_of c.if-not-is_atom_byte.lists)) (slice_range text n (at + 1)) (drop (at + 1) text ++ tail)) w.start-is
                ∙ ap₂ (λ es o. built_from (building_in es (open_of o)) (slice_range text (at + 1) (at + 1)) (drop (at + 1) text ++ tail)) w.self-is w.lists-is
                ∙ kept.1;
            kept = subst (Keeps c.args.self.now) (sym w.self-is) (keeps_trans c.args.self.now c.loop-at.self new i.kept longer);
            low = passed.0;
            passing = passed.1;
            len =
                let word_length = length-slice_range-le text c.loop-at.start at in
                let long = ap length w.self-is in
                let n = i.len in
                let flushed = w.flush.ensures.len in
                let done = w.act.ensures.len in
                let le = i.begun in
                omega (arith, w.start-is, word_length, long, n, flushed, done, le);
          }
      | else-not-is_atom_byte w ↦
          let is : is_atom_byte byte ≡ true = sym c.is_atom_byte.ensures ∙ w.if-not-is_atom_byte.false in
          let building_is = ap₂ (λ es o. building_in es (open_of o)) w.self-is w.lists-is in
          let kept = line_goes_on before text tail c.loop-at.start at whole i.begun (omega arith) is i.word i.same in
          record {
            begun = omega (arith, w.start-is);
            word = ap (λ n. list_all is_atom_byte (slice_range text n (at + 1))) w.start-is ∙ kept.0;
            below = ap₂ (λ es o. are_open_below (length es) (open_of o)) w.self-is w.lists-is ∙ i.below;
            same =
                ap (λ n. built_from (building_in c.if-not-is_atom_byte.self (open_of c.if-not-is_atom_byte.lists)) (slice_range text n (at + 1)) (drop (at + 1) text ++ tail)) w.start-is
                ∙ ap₂ (λ es o. built_from (building_in es (open_of o)) (slice_range text c.loop-at.start (at + 1)) (drop (at + 1) text ++ tail)) w.self-is w.lists-is
                ∙ kept.1;
            kept = subst (Keeps c.args.self.now) (sym w.self-is) i.kept;
            low = subst IsLow (sym building_is) i.low;
            passing = subst (λ (b : Building). Passing (length b.around) (drop (at + 1) text ++ tail)) (sym building_is) (word_passed (length before.around) text tail at (omega arith) is i.passing);
            len = let long = ap length w.self-is in let n = i.len in omega (arith, w.start-is, long, n);
          }
    ]

pub returns-clause-found : goal.returns-clause-found
returns-clause-found c =
    let text = c.args.bytes.now in
    let start = c.loop-at.start in
    let at = c.loop-at.at in
    let new = c.flush-2.new.terms in
    let parts = c.flush-2.new.self.parts in
    let before = building_in c.loop-at.self (open_of c.loop-at.lists) in
    let after = building_in new (open_of c.flush-2.new.self) in
    let stands = c.in_ok-flush-2.ensures.next in
    let at_end : length text ≡ at = omega (arith, c.loop-at-test.false, c.loop-at.auto.at-end) in
    let flushed_is = stands.same ∙ ap (λ n. flushed before (slice_range text start n)) at_end in
    let whole = line_built before after (slice_range text start at) (drop at text) (built (text ++ line_end ∷ [])) (drop_all at text c.loop-at-test.false) c.loop-at.invariant.same flushed_is in
    let below = and_parts (are_below (length new) (numbers parts.items)) _ stands.below in
    let long = length-trees_of new in
    last_numbered (trees_of new) parts.items c.pop.new.self.items c.pop.result (vec_len parts) (vec_len c.pop.new.self) (ap (λ n. are_below n (numbers parts.items)) long ∙ below.0) c.pop.ensures.items parts.ok.0 c.pop.ensures.cases
    ∙ whole
