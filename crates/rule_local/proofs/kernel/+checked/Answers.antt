use Rattle.std.proofs.Common.{rules, ◌≡◌, ◌<◌, false, [], ◌∷◌, Ok, Err, refl, sym, subst, ap, ◌∙◌, length, map, string_bytes}
use Rattle.simpl_lang.specs.CodeCommand.{simpl_of}
use Rattle.monad_lang.specs.declared.program.Mon.{size-Mon}
use Rattle.monad_lang.specs.CodeProgram.{mon_of}
use Rattle.rule_local.specs.CodeRow.{parts_of, claim}
use Rattle.rule_local.specs.CodeRule.{tree_of, context_of}
use Rattle.rule_local.proofs.Walked as walked
use Rattle.rule_local.proofs.kernel.+checked.Goals as goal

pub returns-then-not-meets : goal.returns-then-not-meets
returns-then-not-meets t c = c.along.invariant.decides (Err c.along.at) (walked.no_instance c.args.asks (context_of c.args.context) c.meets.result c.along.tree.now (claim (simpl_of c.along.left.now) (mon_of c.along.right.now) (map string_bytes c.along.outputs.now) c.along.is_whole) c.along.at c.if-not-meets.true c.meets.ensures)

pub returns-then-is_empty : goal.returns-then-is_empty
returns-then-is_empty t c =
    let count : length (walked.parts_at c.along.tree.now) ≡ 0 = search rules in
    let none = walked.nothing (walked.parts_at c.along.tree.now) count in
    let first = walked.no_parts c.args.asks (context_of c.args.context) c.meets.result c.along.tree.now (claim (simpl_of c.along.left.now) (mon_of c.along.right.now) (map string_bytes c.along.outputs.now) c.along.is_whole) c.if-not-meets.false c.meets.ensures c.along.at (sym (ap parts_of c.in-None.is) ∙ c.parts.ensures) none in
    c.along.invariant.decides (Ok c.next.result) (subst (λ n. walked.Answers c.args.asks (context_of c.args.context) c.along.tree.now (claim (simpl_of c.along.left.now) (mon_of c.along.right.now) (map string_bytes c.along.outputs.now) c.along.is_whole) c.along.at (Ok n)) (sym c.next.ensures) first)

pub returns-else-is_empty : goal.returns-else-is_empty
returns-else-is_empty t c =
    let some : length (walked.parts_at c.along.tree.now) ≡ 0 → ⊥ = search rules in
    c.along.invariant.decides (Err c.along.at) (walked.some_parts c.args.asks (context_of c.args.context) c.meets.result c.along.tree.now (claim (simpl_of c.along.left.now) (mon_of c.along.right.now) (map string_bytes c.along.outputs.now) c.along.is_whole) c.if-not-meets.false c.meets.ensures 0 c.along.at (sym (ap parts_of c.in-None.is) ∙ c.parts.ensures) some)

pub returns-in_default : goal.returns-in_default
returns-in_default t c =
    let other : length (walked.parts_at c.along.tree.now) ≡ 1 → ⊥ = search rules in
    c.along.invariant.decides (Err c.along.at) (walked.some_parts c.args.asks (context_of c.args.context) c.meets.result c.along.tree.now (claim (simpl_of c.along.left.now) (mon_of c.along.right.now) (map string_bytes c.along.outputs.now) c.along.is_whole) c.if-not-meets.false c.meets.ensures 1 c.along.at (sym (ap parts_of c.in-One.is) ∙ c.parts.ensures) other)

pub along-preserved-in-One : goal.along-preserved-in-One
along-preserved-in-One t c =
    let one : walked.parts_at c.along.tree.now ≡ c.in-Some.part.now ∷ [] = search rules in
    record {
      decides = λ r h. c.along.invariant.decides r (walked.one_part c.args.asks (context_of c.args.context) c.meets.result c.along.tree.now (claim (simpl_of c.along.left.now) (mon_of c.along.right.now) (map string_bytes c.along.outputs.now) c.along.is_whole) c.if-not-meets.false c.meets.ensures c.in-Some.part.now c.along.at (sym (ap parts_of c.in-One.is) ∙ c.parts.ensures) one r
          (walked.moved c.args.asks (context_of c.args.context) (tree_of c.in-Some.part.now) false (sym c.first_left-left.ensures) (sym c.first_right-right.ensures.part) (sym c.first_outputs-outputs.ensures) (sym c.next-at.ensures) r h));
      smaller = walked.no_larger (size-Mon c.first_right-right.result.now) (size-Mon c.along.right.now) (size-Mon c.args.right.now) (c.first_right-right.ensures.smaller (walked.has_some c.args.asks (context_of c.args.context) c.meets.result c.along.tree.now (claim (simpl_of c.along.left.now) (mon_of c.along.right.now) (map string_bytes c.along.outputs.now) c.along.is_whole) c.if-not-meets.false c.meets.ensures 0 (sym (ap parts_of c.in-One.is) ∙ c.parts.ensures))) c.along.invariant.smaller;
    }

pub returns-in_default-both : goal.returns-in_default-both
returns-in_default-both t c =
    let other : length (walked.parts_at c.along.tree.now) ≡ 2 → ⊥ = search rules in
    c.along.invariant.decides (Err c.along.at) (walked.some_parts c.args.asks (context_of c.args.context) c.meets.result c.along.tree.now (claim (simpl_of c.along.left.now) (mon_of c.along.right.now) (map string_bytes c.along.outputs.now) c.along.is_whole) c.if-not-meets.false c.meets.ensures 2 c.along.at (sym (ap parts_of c.in-Two.is) ∙ c.parts.ensures) other)

pub checked-requires : goal.checked-requires
checked-requires t c = (
  subst (λ n. size-Mon c.first_right.result.now < n) c.decreases (walked.smaller (size-Mon c.first_right.result.now) (size-Mon c.along.right.now) (size-Mon c.args.right.now) (c.first_right.ensures.smaller (walked.has_some c.args.asks (context_of c.args.context) c.meets.result c.along.tree.now (claim (simpl_of c.along.left.now) (mon_of c.along.right.now) (map string_bytes c.along.outputs.now) c.along.is_whole) c.if-not-meets.false c.meets.ensures 1 (sym (ap parts_of c.in-Two.is) ∙ c.parts.ensures))) c.along.invariant.smaller),
  tt,
)

pub returns-in_err-at-in-Two : goal.returns-in_err-at-in-Two
returns-in_err-at-in-Two t c =
    let same : c.from_residual.result ≡ Err c.in_err-at-in-Two.field-0.0 = search rules in
    let two : walked.parts_at c.along.tree.now ≡ c.in-Some-both.first.now ∷ c.in-Some-both.last.now ∷ [] = search rules in
    subst (λ r. walked.Answers c.args.asks (context_of c.args.context) c.args.tree.now (claim (simpl_of c.args.left.now) (mon_of c.args.right.now) (map string_bytes c.args.outputs.now) c.args.is_whole) c.args.at r) (sym same)
    (c.along.invariant.decides (Err c.in_err-at-in-Two.field-0.0) (walked.first_bad c.args.asks (context_of c.args.context) c.meets.result c.along.tree.now (claim (simpl_of c.along.left.now) (mon_of c.along.right.now) (map string_bytes c.along.outputs.now) c.along.is_whole) c.if-not-meets.false c.meets.ensures c.in-Some-both.first.now c.in-Some-both.last.now c.along.at c.in_err-at-in-Two.field-0.0 (sym (ap parts_of c.in-Two.is) ∙ c.parts.ensures) two
    (walked.moved c.args.asks (context_of c.args.context) (tree_of c.in-Some-both.first.now) false (sym c.first_left.ensures) (sym c.first_right.ensures.part) (sym c.first_outputs.ensures) (sym c.next-in-Two.ensures) (Err c.in_err-at-in-Two.field-0.0)
    (subst (λ r. walked.Answers c.args.asks (context_of c.args.context) c.in-Some-both.first.now (claim (simpl_of c.first_left.result.now) (mon_of c.first_right.result.now) (map string_bytes c.first_outputs.result.now) false) c.next-in-Two.result r) c.in_err-at-in-Two.was c.checked.ensures))))

pub along-smaller : goal.along-smaller
along-smaller t c = c.last_of-right.ensures.smaller (walked.has_some c.args.asks (context_of c.args.context) c.meets.result c.along.tree.now (claim (simpl_of c.along.left.now) (mon_of c.along.right.now) (map string_bytes c.along.outputs.now) c.along.is_whole) c.if-not-meets.false c.meets.ensures 1 (sym (ap parts_of c.in-Two.is) ∙ c.parts.ensures))

pub along-preserved : goal.along-preserved
along-preserved t c =
    let two : walked.parts_at c.along.tree.now ≡ c.in-Some-both.first.now ∷ c.in-Some-both.last.now ∷ [] = search rules in
    record {
      decides = λ r h. c.along.invariant.decides r (walked.two_parts c.args.asks (context_of c.args.context) c.meets.result c.along.tree.now (claim (simpl_of c.along.left.now) (mon_of c.along.right.now) (map string_bytes c.along.outputs.now) c.along.is_whole) c.if-not-meets.false c.meets.ensures c.in-Some-both.first.now c.in-Some-both.last.now c.along.at c.in_ok-at-in-Two.at (sym (ap parts_of c.in-Two.is) ∙ c.parts.ensures) two
          (walked.moved c.args.asks (context_of c.args.context) (tree_of c.in-Some-both.first.now) false (sym c.first_left.ensures) (sym c.first_right.ensures.part) (sym c.first_outputs.ensures) (sym c.next-in-Two.ensures) (Ok c.in_ok-at-in-Two.at)
          (subst (λ r. walked.Answers c.args.asks (context_of c.args.context) c.in-Some-both.first.now (claim (simpl_of c.first_left.result.now) (mon_of c.first_right.result.now) (map string_bytes c.first_outputs.result.now) false) c.next-in-Two.result r) c.in_ok-at-in-Two.was c.checked.ensures)) r
          (walked.moved c.args.asks (context_of c.args.context) (tree_of c.in-Some-both.last.now) false (sym c.last_left-left.ensures) (sym c.last_of-right.ensures.part) refl refl r h));
      smaller = walked.no_larger (size-Mon c.last_of-right.result.now) (size-Mon c.along.right.now) (size-Mon c.args.right.now) (c.last_of-right.ensures.smaller (walked.has_some c.args.asks (context_of c.args.context) c.meets.result c.along.tree.now (claim (simpl_of c.along.left.now) (mon_of c.along.right.now) (map string_bytes c.along.outputs.now) c.along.is_whole) c.if-not-meets.false c.meets.ensures 1 (sym (ap parts_of c.in-Two.is) ∙ c.parts.ensures))) c.along.invariant.smaller;
    }
