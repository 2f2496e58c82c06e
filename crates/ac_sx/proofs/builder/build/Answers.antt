-- Each byte goes on an atom, or ends one and begins or ends a list.
use Rattle.std.proofs.Common.{◌≡◌, ◌+◌, vec_len, drop, get_or, true, false, ap, ap₂, sym, ◌∙◌, arith}
use Rattle.std.specs.List.{list_all, slice_range}
use Rattle.std.proofs.lemmas.List.{drop_all}
use Rattle.ac_sx.specs.Tree.{is_atom_byte}
use Rattle.ac_sx.specs.CodeBuilder.{building_of, acted, built_from, built}
use Rattle.ac_sx.proofs.Building.{word_goes_on, word_ends, last_popped}
use Rattle.ac_sx.proofs.builder.build.Goals as goal
use Rattle.ac_sx.proofs.builder.build.Goals.{then-not-is_atom_byte+in_ok-flush+in_ok-act, else-not-is_atom_byte}

pub loop-at-preserved : goal.loop-at-preserved
loop-at-preserved c =
    let text = c.args.text.now in
    let at = c.loop-at.at in
    let word = slice_range text c.loop-at.start at in
    let byte = get_or text at 0 in
    elim c.if-not-is_atom_byte.branch [
      | then-not-is_atom_byte+in_ok-flush+in_ok-act w ↦
          let there = w.in_ok-act.ensures ∙ ap (λ b. acted b byte) w.in_ok-flush.ensures in
          let no_word : is_atom_byte byte ≡ false = sym c.is_atom_byte.ensures ∙ w.if-not-is_atom_byte.true in
          let kept = word_ends (building_of c.loop-at.builder) (building_of w.act.new.self) word text at (built text) (omega arith) no_word c.loop-at.invariant.same there in
          record {
            begun = omega (arith, w.start-is);
            word = ap (λ n. list_all is_atom_byte (slice_range text n (at + 1))) w.start-is ∙ kept.0;
            same = ap₂ (λ b n. built_from (building_of b) (slice_range text n (at + 1)) (drop (at + 1) text)) w.builder-is w.start-is ∙ kept.1;
          }
      | else-not-is_atom_byte w ↦
          let is : is_atom_byte byte ≡ true = sym c.is_atom_byte.ensures ∙ w.if-not-is_atom_byte.false in
          let kept = word_goes_on (building_of c.loop-at.builder) text c.loop-at.start at (built text) c.loop-at.invariant.begun (omega arith) is c.loop-at.invariant.word c.loop-at.invariant.same in
          record {
            begun = omega (arith, w.start-is);
            word = ap (λ n. list_all is_atom_byte (slice_range text n (at + 1))) w.start-is ∙ kept.0;
            same = ap₂ (λ b n. built_from (building_of b) (slice_range text n (at + 1)) (drop (at + 1) text)) w.builder-is w.start-is ∙ kept.1;
          }
    ]

pub returns : goal.returns
returns c =
    let text = c.args.text.now in
    let rest = drop_all c.loop-at.at text c.loop-at-test.false in
    let word = slice_range text c.loop-at.start c.loop-at.at in
    last_popped c.loop-at.builder.parts.items c.pop.new.self.items c.pop.result (vec_len c.loop-at.builder.parts) (vec_len c.pop.new.self) c.pop.ensures.items c.loop-at.builder.parts.ok.0 c.pop.ensures.cases
    ∙ ap (built_from (building_of c.loop-at.builder) word) (sym rest)
    ∙ c.loop-at.invariant.same
