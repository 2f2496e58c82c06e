use Rattle.std.proofs.Common.{rules, ◌≡◌, ◌<◌, ◌+◌, ◌*◌, [], ◌∷◌, Ok, Err, Option, None, refl, sym, subst, ap, ◌∙◌, length, arith}
use Rattle.expression_lang.specs.Expression.{Exp}
use Rattle.expression_lang.specs.CodeExpression.{exp_of}
use Rattle.ac_expr.specs.Passed.{passed}
use Rattle.program_facts.specs.CodeParts.{sequence}
use Rattle.monad_lang.specs.CodeProgram.{mon_of}
use Rattle.rule_trees.specs.CodeTree.{trees_in}
use Rattle.rule_trees.specs.CodeNodes.{nodes, nodes_in}
use Rattle.rule_trees.specs.RuleTree.{Checked}
use Rattle.rule_heap.specs.Rule as R
use Rattle.rule_heap.specs.Rule.{Claim, OfExp, OfProgram}
use Rattle.rule_heap.specs.Table.{table, row}
use Rattle.rule_heap.specs.CodeParts.{then_in, step_claim, address}
use Rattle.rule_parts.specs.CodeExps.{exps_in}
use Rattle.rule_heap.specs.CodeRule.{rule_of, rule_at, tree_of, known_in, facts_at}
use Rattle.rule_heap.proofs.Walked as walked
use Rattle.rule_heap.proofs.Along as along
use Rattle.rule_heap.proofs.kernel.+checking.Goals as goal

pub checked_exp-returns-then-not-is_exp_asked : goal.checked_exp-returns-then-not-is_exp_asked
checked_exp-returns-then-not-is_exp_asked t c =
    walked.refused c.args.context.layout.now c.args.tree.now (OfExp (facts_at c.args.context) (exp_of c.args.left.now) (exp_of c.args.right.now)) c.is_exp_asked.result c.args.at c.if-not-is_exp_asked.true c.is_exp_asked.ensures

pub checked_exp-returns-then-not-is_matched : goal.checked_exp-returns-then-not-is_matched
checked_exp-returns-then-not-is_matched t c =
    let items : walked.parts_at c.args.tree.now ≡ c.deref.result.now = search rules in
    let parts = walked.exp_claims c.args.context.layout.now (facts_at c.args.context) (rule_at c.args.tree.now) (exp_of c.args.left.now) (exp_of c.args.right.now) (exps_in c.firsts-pairs.result) (exps_in c.rights-others.result)
    (then_in (facts_at c.args.context) c.exp_thens-then.result) (c.is_exp_asked.ensures.0 c.if-not-is_exp_asked.false) c.firsts-pairs.ensures c.rights-others.ensures (c.exp_thens-then.ensures (facts_at c.args.context)) in
    walked.unmatched c.args.context.layout.now c.args.tree.now (OfExp (facts_at c.args.context) (exp_of c.args.left.now) (exp_of c.args.right.now)) _ c.deref.result.now c.is_matched.result c.args.at parts items c.if-not-is_matched.true (c.is_matched.ensures (facts_at c.args.context))

pub checked_exp-checked_parts-requires : goal.checked_exp-checked_parts-requires
checked_exp-checked_parts-requires t c =
    let items : walked.parts_at c.args.tree.now ≡ c.deref-2.result.now = search rules in
    let same : c.deref.result.now ≡ c.deref-2.result.now = search rules in (
      subst (λ n. 8 * nodes_in (trees_in rule_of c.deref-2.result.now) + 6 < n) c.decreases (walked.parts_less c.args.tree.now c.deref-2.result.now 2 (omega arith) items),
      sym (ap length same) ∙ (c.is_matched.ensures (facts_at c.args.context)).0 c.if-not-is_matched.false,
    )

pub checked_exp-returns : goal.checked_exp-returns
checked_exp-returns t c =
    let items : walked.parts_at c.args.tree.now ≡ c.deref-2.result.now = search rules in
    let same : c.deref.result.now ≡ c.deref-2.result.now = search rules in
    let parts = walked.exp_claims c.args.context.layout.now (facts_at c.args.context) (rule_at c.args.tree.now) (exp_of c.args.left.now) (exp_of c.args.right.now) (exps_in c.firsts-pairs.result) (exps_in c.rights-others.result)
    (then_in (facts_at c.args.context) c.exp_thens-then.result) (c.is_exp_asked.ensures.0 c.if-not-is_exp_asked.false) c.firsts-pairs.ensures c.rights-others.ensures (c.exp_thens-then.ensures (facts_at c.args.context)) in
    walked.decided c.args.context.layout.now c.args.tree.now (OfExp (facts_at c.args.context) (exp_of c.args.left.now) (exp_of c.args.right.now)) _ c.deref-2.result.now c.args.at c.next.result c.checked_parts.result
    (c.is_exp_asked.ensures.0 c.if-not-is_exp_asked.false) parts items (sym (ap length same) ∙ (c.is_matched.ensures (facts_at c.args.context)).0 c.if-not-is_matched.false) c.next.ensures c.checked_parts.ensures

pub checked_flat-returns-then-not-is_asked : goal.checked_flat-returns-then-not-is_asked
checked_flat-returns-then-not-is_asked t c =
    walked.refused c.args.context.layout.now c.args.tree.now (OfProgram (facts_at c.args.context) (mon_of c.args.left.now) (mon_of c.args.right.now)) c.is_asked.result c.args.at c.if-not-is_asked.true c.is_asked.ensures

pub checked_flat-returns-then-is_empty : goal.checked_flat-returns-then-is_empty
checked_flat-returns-then-is_empty t c =
    let count : length (walked.parts_at c.args.tree.now) ≡ 0 = search rules in
    walked.decided c.args.context.layout.now c.args.tree.now (OfProgram (facts_at c.args.context) (mon_of c.args.left.now) (mon_of c.args.right.now)) [] [] c.args.at c.next.result (Ok c.next.result) (c.is_asked.ensures.0 c.if-not-is_asked.false)
    (along.same_parts c.args.context.layout.now (facts_at c.args.context) (rule_at c.args.tree.now) (mon_of c.args.left.now) (mon_of c.args.right.now) (c.is_same.ensures.yes c.if-is_same.true)) (along.nothing (walked.parts_at c.args.tree.now) count) refl c.next.ensures refl

pub checked_flat-returns-else-is_empty : goal.checked_flat-returns-else-is_empty
checked_flat-returns-else-is_empty t c =
    let some : length (walked.parts_at c.args.tree.now) ≡ 0 → ⊥ = search rules in
    walked.miscounted c.args.context.layout.now c.args.tree.now (OfProgram (facts_at c.args.context) (mon_of c.args.left.now) (mon_of c.args.right.now)) [] c.args.at
    (along.same_parts c.args.context.layout.now (facts_at c.args.context) (rule_at c.args.tree.now) (mon_of c.args.left.now) (mon_of c.args.right.now) (c.is_same.ensures.yes c.if-is_same.true)) some

pub checked_flat-returns-then-not-is_matched : goal.checked_flat-returns-then-not-is_matched
checked_flat-returns-then-not-is_matched t c =
    let items : walked.parts_at c.args.tree.now ≡ c.deref.result.now = search rules in
    let parts = walked.program_claims c.args.context.layout.now (facts_at c.args.context) (rule_at c.args.tree.now) (mon_of c.args.left.now) (mon_of c.args.right.now) (exps_in c.program_exps-pairs.result) (exps_in c.program_exps-others.result)
    (then_in (facts_at c.args.context) c.program_thens-then.result) (c.is_same.ensures.no c.if-is_same.false c.requires) (c.is_asked.ensures.0 c.if-not-is_asked.false) c.program_exps-pairs.ensures c.program_exps-others.ensures (c.program_thens-then.ensures (facts_at c.args.context)) in
    walked.unmatched c.args.context.layout.now c.args.tree.now (OfProgram (facts_at c.args.context) (mon_of c.args.left.now) (mon_of c.args.right.now)) _ c.deref.result.now c.is_matched.result c.args.at parts items c.if-not-is_matched.true (c.is_matched.ensures (facts_at c.args.context))

pub checked_flat-checked_parts-requires : goal.checked_flat-checked_parts-requires
checked_flat-checked_parts-requires t c =
    let items : walked.parts_at c.args.tree.now ≡ c.deref-2.result.now = search rules in
    let same : c.deref.result.now ≡ c.deref-2.result.now = search rules in (
      subst (λ n. 8 * nodes_in (trees_in rule_of c.deref-2.result.now) + 6 < n) c.decreases (walked.parts_less c.args.tree.now c.deref-2.result.now 1 (omega arith) items),
      sym (ap length same) ∙ (c.is_matched.ensures (facts_at c.args.context)).0 c.if-not-is_matched.false,
    )

pub checked_flat-returns : goal.checked_flat-returns
checked_flat-returns t c =
    let items : walked.parts_at c.args.tree.now ≡ c.deref-2.result.now = search rules in
    let same : c.deref.result.now ≡ c.deref-2.result.now = search rules in
    let parts = walked.program_claims c.args.context.layout.now (facts_at c.args.context) (rule_at c.args.tree.now) (mon_of c.args.left.now) (mon_of c.args.right.now) (exps_in c.program_exps-pairs.result) (exps_in c.program_exps-others.result)
    (then_in (facts_at c.args.context) c.program_thens-then.result) (c.is_same.ensures.no c.if-is_same.false c.requires) (c.is_asked.ensures.0 c.if-not-is_asked.false) c.program_exps-pairs.ensures c.program_exps-others.ensures (c.program_thens-then.ensures (facts_at c.args.context)) in
    walked.decided c.args.context.layout.now c.args.tree.now (OfProgram (facts_at c.args.context) (mon_of c.args.left.now) (mon_of c.args.right.now)) _ c.deref-2.result.now c.args.at c.next-2.result c.checked_parts.result
    (c.is_asked.ensures.0 c.if-not-is_asked.false) parts items (sym (ap length same) ∙ (c.is_matched.ensures (facts_at c.args.context)).0 c.if-not-is_matched.false) c.next-2.ensures c.checked_parts.ensures

-- along a sequence
pub checked-returns-then-not-is_asked : goal.checked-returns-then-not-is_asked
checked-returns-then-not-is_asked t c =
    c.along.invariant.decides (Err c.along.at)
    (subst (λ fs. Checked (table c.args.context.layout.now) (tree_of c.along.tree.now) (OfProgram fs (mon_of c.along.left.now) (mon_of c.along.right.now)) c.along.at (Err c.along.at)) c.pass-facts.ensures.facts
    (walked.refused c.args.context.layout.now c.along.tree.now (OfProgram (known_in c.pass-facts.result) (mon_of c.along.left.now) (mon_of c.along.right.now)) c.is_asked.result c.along.at c.if-not-is_asked.true c.is_asked.ensures))

pub checked-returns-in_default : goal.checked-returns-in_default
checked-returns-in_default t c =
    let other : length (walked.parts_at c.along.tree.now) ≡ 2 → ⊥ = search rules in
    c.along.invariant.decides (Err c.along.at)
    (subst (λ fs. Checked (table c.args.context.layout.now) (tree_of c.along.tree.now) (OfProgram fs (mon_of c.along.left.now) (mon_of c.along.right.now)) c.along.at (Err c.along.at)) c.pass-facts.ensures.facts
    (along.miscounted c.args.context.layout.now (known_in c.pass-facts.result) c.along.tree.now (mon_of c.along.left.now) (mon_of c.along.right.now) (sym c.is_step.ensures ∙ c.if-not-is_step.false) (c.is_asked.ensures.0 c.if-not-is_asked.false) c.along.at other))

pub checked-checked_step-requires : goal.checked-checked_step-requires
checked-checked_step-requires t c =
    let items : walked.parts_at c.along.tree.now ≡ c.in-Some.first.now ∷ c.in-Some.last.now ∷ [] = search rules in (
      subst (λ n. 8 * nodes (tree_of c.in-Some.first.now) + 3 < n) c.decreases (along.below_by _ _ _ 3 (along.two_less c.along.tree.now c.in-Some.first.now c.in-Some.last.now items).0 c.along.invariant.smaller (omega arith)),
      (sym c.is_step.ensures ∙ c.if-not-is_step.false, c.is_asked.ensures.0 c.if-not-is_asked.false),
    )

pub checked-returns-in_err-at : goal.checked-returns-in_err-at
checked-returns-in_err-at t c =
    let items : walked.parts_at c.along.tree.now ≡ c.in-Some.first.now ∷ c.in-Some.last.now ∷ [] = search rules in
    let same : c.from_residual.result ≡ Err c.in_err-at.field-0.0 = search rules in
    let claim : Claim = OfProgram (facts_at c.args.context) (mon_of c.args.left.now) (mon_of c.args.right.now) in
    subst (λ r. Checked (table c.args.context.layout.now) (tree_of c.args.tree.now) claim c.args.at r) (sym same)
    (c.along.invariant.decides (Err c.in_err-at.field-0.0)
    (subst (λ fs. Checked (table c.args.context.layout.now) (tree_of c.along.tree.now) (OfProgram fs (mon_of c.along.left.now) (mon_of c.along.right.now)) c.along.at (Err c.in_err-at.field-0.0)) c.pass-facts.ensures.facts
    (along.bad_step c.args.context.layout.now (known_in c.pass-facts.result) c.along.tree.now (mon_of c.along.left.now) (mon_of c.along.right.now) (sym c.is_step.ensures ∙ c.if-not-is_step.false) (c.is_asked.ensures.0 c.if-not-is_asked.false)
    c.in-Some.first.now c.in-Some.last.now items c.along.at c.next.result c.in_err-at.field-0.0 c.next.ensures
    (subst (λ r. Checked (table c.args.context.layout.now) (tree_of c.in-Some.first.now) (step_claim (known_in c.pass-facts.result) (rule_at c.along.tree.now) (mon_of c.along.left.now) (mon_of c.along.right.now)) c.next.result r) c.in_err-at.was c.checked_step.ensures))))

pub checked-checked-requires : goal.checked-checked-requires
checked-checked-requires t c =
    let items : walked.parts_at c.along.tree.now ≡ c.in-Some.first.now ∷ c.in-Some.last.now ∷ [] = search rules in (
      subst (λ n. 8 * nodes (tree_of c.in-Some.last.now) + 2 < n) c.decreases (along.below_by _ _ _ 2 (along.two_less c.along.tree.now c.in-Some.first.now c.in-Some.last.now items).1 c.along.invariant.smaller (omega arith)),
      tt,
    )

pub checked-returns-then-count : goal.checked-returns-then-count
checked-returns-then-count t c =
    let items : walked.parts_at c.along.tree.now ≡ c.in-Some.first.now ∷ c.in-Some.last.now ∷ [] = search rules in
    c.along.invariant.decides c.checked.result
    (subst (λ fs. Checked (table c.args.context.layout.now) (tree_of c.along.tree.now) (OfProgram fs (mon_of c.along.left.now) (mon_of c.along.right.now)) c.along.at c.checked.result) c.pass-facts.ensures.facts
    (along.onward c.args.context.layout.now (known_in c.pass-facts.result) c.along.tree.now (mon_of c.along.left.now) (mon_of c.along.right.now) (sym c.is_step.ensures ∙ c.if-not-is_step.false) (c.is_asked.ensures.0 c.if-not-is_asked.false)
    c.in-Some.first.now c.in-Some.last.now items (known_in c.pass-known.result) (mon_of c.left_behind.result.now) (mon_of c.right_behind.result.now) c.passes.result c.along.at c.next.result c.in_ok-at.at c.passes.ensures
    (c.pass-known.ensures.facts ∙ ap (λ ps. passed c.passes.result ps (known_in c.pass-facts.result)) c.of.ensures) c.left_behind.ensures c.right_behind.ensures c.next.ensures
    (subst (λ r. Checked (table c.args.context.layout.now) (tree_of c.in-Some.first.now) (step_claim (known_in c.pass-facts.result) (rule_at c.along.tree.now) (mon_of c.along.left.now) (mon_of c.along.right.now)) c.next.result r) c.in_ok-at.was c.checked_step.ensures)
    c.checked.result c.checked.ensures))

pub checked-along-smaller : goal.checked-along-smaller
checked-along-smaller t c =
    let items : walked.parts_at c.along.tree.now ≡ c.in-Some.first.now ∷ c.in-Some.last.now ∷ [] = search rules in
    (along.two_less c.along.tree.now c.in-Some.first.now c.in-Some.last.now items).1

pub checked-along-preserved : goal.checked-along-preserved
checked-along-preserved t c =
    let items : walked.parts_at c.along.tree.now ≡ c.in-Some.first.now ∷ c.in-Some.last.now ∷ [] = search rules in
    record {
      decides = λ r h. c.along.invariant.decides r
          (subst (λ fs. Checked (table c.args.context.layout.now) (tree_of c.along.tree.now) (OfProgram fs (mon_of c.along.left.now) (mon_of c.along.right.now)) c.along.at r) c.pass-facts.ensures.facts
          (along.onward c.args.context.layout.now (known_in c.pass-facts.result) c.along.tree.now (mon_of c.along.left.now) (mon_of c.along.right.now) (sym c.is_step.ensures ∙ c.if-not-is_step.false) (c.is_asked.ensures.0 c.if-not-is_asked.false)
          c.in-Some.first.now c.in-Some.last.now items (passed (c.along.count + c.passes-count.result) (sequence c.of-head.result) (facts_at c.args.context)) (mon_of c.left_behind-left.result.now) (mon_of c.right_behind-right.result.now)
          c.passes-count.result c.along.at c.next.result c.in_ok-at.at c.passes-count.ensures
          (sym (along.known_behind (known_in c.pass-facts.result) (facts_at c.args.context) (mon_of c.along.right.now) c.along.count c.passes-count.result (sequence c.of-head.result) c.pass-facts.ensures.facts c.along.invariant.left_over))
          c.left_behind-left.ensures c.right_behind-right.ensures c.next.ensures
          (subst (λ r. Checked (table c.args.context.layout.now) (tree_of c.in-Some.first.now) (step_claim (known_in c.pass-facts.result) (rule_at c.along.tree.now) (mon_of c.along.left.now) (mon_of c.along.right.now)) c.next.result r) c.in_ok-at.was c.checked_step.ensures)
          r h));
      left_over = along.left_over (rule_at c.along.tree.now) (mon_of c.along.right.now) (mon_of c.right_behind-right.result.now) c.along.count c.passes-count.result (sequence c.of-head.result) c.right_behind-right.ensures c.passes-count.ensures c.along.invariant.left_over;
      smaller = let less = (along.two_less c.along.tree.now c.in-Some.first.now c.in-Some.last.now items).1 in along.no_larger _ _ _ less c.along.invariant.smaller;
    }

pub checked_parts-pairs-preserved : goal.checked_parts-pairs-preserved
checked_parts-pairs-preserved t c =
    let items : c.pairs.rest.now ≡ c.in-Some-split_first.part.now ∷ c.in-Some-split_first.behind.now = search rules in
    let lefts : exps_in c.pairs.left ≡ exp_of c.in-Some.a.now ∷ exps_in c.in-Some.more = c.in-Some.ensures.some in
    let others : exps_in c.pairs.right ≡ exp_of c.in-Some-next.b.now ∷ exps_in c.in-Some-next.others = c.in-Some-next.ensures.some in
    let claims = walked.pair_first (facts_at c.args.context) (exp_of c.in-Some.a.now) (exp_of c.in-Some-next.b.now) (exps_in c.in-Some.more) (exps_in c.in-Some-next.others) (exps_in c.pairs.left) (exps_in c.pairs.right) (then_in (facts_at c.args.context) c.args.then) lefts others in
    record {
      decides = λ r h. c.pairs.invariant.decides r (walked.another c.args.context.layout.now c.in-Some-split_first.part.now c.in-Some-split_first.behind.now c.pairs.rest.now (OfExp (facts_at c.args.context) (exp_of c.in-Some.a.now) (exp_of c.in-Some-next.b.now)) _ _ c.pairs.at c.in_ok-at.at r items claims
          (subst (λ q. Checked (table c.args.context.layout.now) (tree_of c.in-Some-split_first.part.now) (OfExp (facts_at c.args.context) (exp_of c.in-Some.a.now) (exp_of c.in-Some-next.b.now)) c.pairs.at q) c.in_ok-at.was c.checked_exp.ensures) h);
      same = walked.one_less _ _ c.in-Some-split_first.behind.now c.pairs.rest.now _ _ items claims c.pairs.invariant.same;
      smaller = walked.fewer c.in-Some-split_first.part.now c.in-Some-split_first.behind.now c.pairs.rest.now _ items c.pairs.invariant.smaller;
    }

pub checked_step-returns-in_default-address-2 : goal.checked_step-returns-in_default-address-2
checked_step-returns-in_default-address-2 t c =
    let holds : (row c.args.context.layout.now (facts_at c.args.context) R.Pointer (mon_of c.args.left.now) (mon_of c.args.right.now)).holds =
    subst (λ q. (row c.args.context.layout.now (facts_at c.args.context) (rule_of q) (mon_of c.args.left.now) (mon_of c.args.right.now)).holds) c.in-Pointer.is c.requires.asked in
    let none : ◌≡◌ {A = Option Exp} None (address (mon_of c.args.right.now)) = c.in_default-address-2.ensures in
    absurd (along.pointer_right c.args.context.layout.now (facts_at c.args.context) (mon_of c.args.left.now) (mon_of c.args.right.now) holds (sym none))
