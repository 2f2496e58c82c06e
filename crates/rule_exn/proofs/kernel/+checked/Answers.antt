use Rattle.std.proofs.Common.{rules, ◌≡◌, true, [], ◌∷◌, Ok, Err, refl, sym, subst, ap, ◌∙◌, length, ◌<◌}
use Rattle.simpl_lang.specs.declared.command.Simpl.{size-Simpl}
use Rattle.simpl_lang.specs.CodeCommand.{simpl_of}
use Rattle.rule_exn.specs.Quiet.{quiet}
use Rattle.rule_exn.specs.CodeRow.{parts_of}
use Rattle.rule_exn.specs.CodeRule.{tree_of}
use Rattle.rule_exn.proofs.Walked as walked
use Rattle.rule_exn.proofs.Rows.{first_quiet, last_quiet, some_parts}
use Rattle.rule_exn.proofs.kernel.+checked.Goals as goal

-- src/kernel.rt:52:13
pub returns-then-not-is_instance : goal.returns-then-not-is_instance
returns-then-not-is_instance t c = c.along.invariant.decides (Err c.along.at) (walked.no_instance c.is_instance.result c.along.tree.now (simpl_of c.along.left.now) (simpl_of c.along.right.now) c.along.at c.if-not-is_instance.true c.is_instance.ensures)

-- src/kernel.rt:56:17
pub returns-then-is_empty : goal.returns-then-is_empty
returns-then-is_empty t c =
    let count : length (walked.parts_at c.along.tree.now) ≡ 0 = search rules in
    let none = walked.nothing (walked.parts_at c.along.tree.now) count in
    let first = walked.no_parts c.is_instance.result c.along.tree.now (simpl_of c.along.left.now) (simpl_of c.along.right.now) c.along.at c.if-not-is_instance.false c.is_instance.ensures (sym (ap parts_of c.in-None.is) ∙ c.parts.ensures) none in
    c.along.invariant.decides (Ok c.next.result) (subst (λ n. walked.Answers c.along.tree.now (simpl_of c.along.left.now) (simpl_of c.along.right.now) c.along.at (Ok n)) (sym c.next.ensures) first)

-- src/kernel.rt:56:17
pub returns-else-is_empty : goal.returns-else-is_empty
returns-else-is_empty t c =
    let some : length (walked.parts_at c.along.tree.now) ≡ 0 → ⊥ = search rules in
    c.along.invariant.decides (Err c.along.at) (walked.some_parts c.is_instance.result c.along.tree.now (simpl_of c.along.left.now) (simpl_of c.along.right.now) 0 c.along.at c.if-not-is_instance.false c.is_instance.ensures (sym (ap parts_of c.in-None.is) ∙ c.parts.ensures) some)

-- src/kernel.rt:64:21
pub returns-in_default : goal.returns-in_default
returns-in_default t c =
    let other : length (walked.parts_at c.along.tree.now) ≡ 1 → ⊥ = search rules in
    c.along.invariant.decides (Err c.along.at) (walked.some_parts c.is_instance.result c.along.tree.now (simpl_of c.along.left.now) (simpl_of c.along.right.now) 1 c.along.at c.if-not-is_instance.false c.is_instance.ensures (sym (ap parts_of c.in-One.is) ∙ c.parts.ensures) other)

-- src/kernel.rt:49:5
pub along-preserved-in-One : goal.along-preserved-in-One
along-preserved-in-One t c =
    let one : walked.parts_at c.along.tree.now ≡ c.in-Some.part.now ∷ [] = search rules in
    record {
      decides = λ r h. c.along.invariant.decides r (walked.one_part c.is_instance.result c.along.tree.now c.in-Some.part.now (simpl_of c.along.left.now) (simpl_of c.along.right.now) c.along.at c.if-not-is_instance.false c.is_instance.ensures (sym (ap parts_of c.in-One.is) ∙ c.parts.ensures) one r
          (walked.moved (tree_of c.in-Some.part.now) (sym c.first_of-left.ensures.part) (sym c.first_right-right.ensures) (sym c.next-at.ensures) r h));
      quiet = λ e. subst (λ a. quiet a ≡ true) (sym c.first_of-left.ensures.part)
          (first_quiet (walked.rule_at c.along.tree.now) (simpl_of c.along.left.now) (simpl_of c.along.right.now) c.along.known_quiet (c.is_instance.ensures.0 c.if-not-is_instance.false) c.along.invariant.quiet (sym c.first_is_quiet-known_quiet.ensures ∙ e));
      smaller = walked.no_larger (size-Simpl c.first_of-left.result.now) (size-Simpl c.along.left.now) (size-Simpl c.args.left.now)
          (c.first_of-left.ensures.smaller (some_parts (walked.rule_at c.along.tree.now) (simpl_of c.along.left.now) (simpl_of c.along.right.now) 0 (c.is_instance.ensures.0 c.if-not-is_instance.false) (sym (sym (ap parts_of c.in-One.is) ∙ c.parts.ensures))))
          c.along.invariant.smaller;
    }

-- src/kernel.rt:74:21
pub returns-in_default-both : goal.returns-in_default-both
returns-in_default-both t c =
    let other : length (walked.parts_at c.along.tree.now) ≡ 2 → ⊥ = search rules in
    c.along.invariant.decides (Err c.along.at) (walked.some_parts c.is_instance.result c.along.tree.now (simpl_of c.along.left.now) (simpl_of c.along.right.now) 2 c.along.at c.if-not-is_instance.false c.is_instance.ensures (sym (ap parts_of c.in-Two.is) ∙ c.parts.ensures) other)

-- src/kernel.rt:76:22
pub checked-requires : goal.checked-requires
checked-requires t c = (
  subst (λ n. size-Simpl c.first_of.result.now < n) c.decreases (walked.smaller (size-Simpl c.first_of.result.now) (size-Simpl c.along.left.now) (size-Simpl c.args.left.now)
      (c.first_of.ensures.smaller (some_parts (walked.rule_at c.along.tree.now) (simpl_of c.along.left.now) (simpl_of c.along.right.now) 1 (c.is_instance.ensures.0 c.if-not-is_instance.false) (sym (sym (ap parts_of c.in-Two.is) ∙ c.parts.ensures))))
      c.along.invariant.smaller),
  λ e. subst (λ a. quiet a ≡ true) (sym c.first_of.ensures.part)
      (first_quiet (walked.rule_at c.along.tree.now) (simpl_of c.along.left.now) (simpl_of c.along.right.now) c.along.known_quiet (c.is_instance.ensures.0 c.if-not-is_instance.false) c.along.invariant.quiet (sym c.first_is_quiet.ensures ∙ e)),
)

-- src/kernel.rt:76:22
pub returns-in_err-at-in-Two : goal.returns-in_err-at-in-Two
returns-in_err-at-in-Two t c =
    let same : c.from_residual.result ≡ Err c.in_err-at-in-Two.field-0.0 = search rules in
    let two : walked.parts_at c.along.tree.now ≡ c.in-Some-both.first.now ∷ c.in-Some-both.last.now ∷ [] = search rules in
    subst (λ r. walked.Answers c.args.tree.now (simpl_of c.args.left.now) (simpl_of c.args.right.now) c.args.at r) (sym same)
    (c.along.invariant.decides (Err c.in_err-at-in-Two.field-0.0) (walked.first_bad c.is_instance.result c.along.tree.now c.in-Some-both.first.now c.in-Some-both.last.now (simpl_of c.along.left.now) (simpl_of c.along.right.now) c.along.at c.in_err-at-in-Two.field-0.0 c.if-not-is_instance.false c.is_instance.ensures (sym (ap parts_of c.in-Two.is) ∙ c.parts.ensures) two
    (walked.moved (tree_of c.in-Some-both.first.now) (sym c.first_of.ensures.part) (sym c.first_right.ensures) (sym c.next-in-Two.ensures) (Err c.in_err-at-in-Two.field-0.0)
    (subst (λ r. walked.Answers c.in-Some-both.first.now (simpl_of c.first_of.result.now) (simpl_of c.first_right.result.now) c.next-in-Two.result r) c.in_err-at-in-Two.was c.checked.ensures))))

-- src/kernel.rt:49:5
pub along-preserved : goal.along-preserved
along-preserved t c =
    let two : walked.parts_at c.along.tree.now ≡ c.in-Some-both.first.now ∷ c.in-Some-both.last.now ∷ [] = search rules in
    record {
      decides = λ r h. c.along.invariant.decides r (walked.two_parts c.is_instance.result c.along.tree.now c.in-Some-both.first.now c.in-Some-both.last.now (simpl_of c.along.left.now) (simpl_of c.along.right.now) c.along.at c.in_ok-at-in-Two.at c.if-not-is_instance.false c.is_instance.ensures (sym (ap parts_of c.in-Two.is) ∙ c.parts.ensures) two
          (walked.moved (tree_of c.in-Some-both.first.now) (sym c.first_of.ensures.part) (sym c.first_right.ensures) (sym c.next-in-Two.ensures) (Ok c.in_ok-at-in-Two.at)
          (subst (λ r. walked.Answers c.in-Some-both.first.now (simpl_of c.first_of.result.now) (simpl_of c.first_right.result.now) c.next-in-Two.result r) c.in_ok-at-in-Two.was c.checked.ensures)) r
          (walked.moved (tree_of c.in-Some-both.last.now) (sym c.last_of-left.ensures.part) (sym c.last_right-right.ensures) refl r h));
      quiet = λ e. subst (λ a. quiet a ≡ true) (sym c.last_of-left.ensures.part)
          (last_quiet (walked.rule_at c.along.tree.now) (simpl_of c.along.left.now) (simpl_of c.along.right.now) c.along.known_quiet (c.is_instance.ensures.0 c.if-not-is_instance.false) c.along.invariant.quiet (sym c.last_is_quiet-known_quiet.ensures ∙ e));
      smaller = walked.no_larger (size-Simpl c.last_of-left.result.now) (size-Simpl c.along.left.now) (size-Simpl c.args.left.now)
          (c.last_of-left.ensures.smaller (some_parts (walked.rule_at c.along.tree.now) (simpl_of c.along.left.now) (simpl_of c.along.right.now) 1 (c.is_instance.ensures.0 c.if-not-is_instance.false) (sym (sym (ap parts_of c.in-Two.is) ∙ c.parts.ensures))))
          c.along.invariant.smaller;
    }
