-- What is left decides, as the loop goes along a sequence; then the parts of each rule do.
use Rattle.std.proofs.Common.{rules, ◌≡◌, ◌+◌, [], ◌∷◌, Ok, Err, sym, subst, ap, ◌∙◌, map, length, arith}
use Rattle.expression_lang.specs.CodeExpression.{exp_of}
use Rattle.ac_expr.specs.Fact.{Whole}
use Rattle.program_facts.specs.CodeParts.{sequence}
use Rattle.monad_lang.specs.CodeProgram.{mon_of, start_of}
use Rattle.monad_sorts.specs.CodeInside.{setting_in, scalars_in, no_names}
use Rattle.monad_sorts.specs.CodeTold.{names_after}
use Rattle.rule_trees.specs.RuleTree.{Checked}
use Rattle.rule_eq.specs.Rule.{Point, does}
use Rattle.rule_eq.specs.Table.{table, knowing}
use Rattle.rule_eq.specs.CodeFits.{Fits}
use Rattle.rule_eq.specs.CodeRule.{rule_at, tree_of, known_in, point_in}
use Rattle.rule_eq.proofs.States.{point_here, begun, fits_here, decided_here, is_refused, first_as, is_miscounted, first_fits, first_less, last_less, is_bad, turned, again}
use Rattle.rule_eq.proofs.Walked.{parts_at, two_less, one_less, choice_left, choice_right, choice_miscounted, both_fit, choice_bad, choice_onward, turn_left, turn_right, turn_miscounted, body_fits, turn_onward}
use Rattle.rule_eq.proofs.Turning.{turn_here}
use Rattle.rule_eq.proofs.kernel.+checking.Goals as goal

-- along a sequence

pub checked-along-init : goal.checked-along-init
checked-along-init t c = begun _ c.requires

pub checked-is_asked-requires : goal.checked-is_asked-requires
checked-is_asked-requires t c =
    let p = point_in c.args.setting c.pass-known.result c.pass-names.result in
    let same = point_here c.args.setting (known_in c.args.facts.now) (known_in c.pass-known.result) (scalars_in c.args.inside.now)
    (scalars_in c.pass-names.result) (mon_of c.args.right.now) c.along.count (sequence c.of-head.result) c.of-head.ensures
    c.pass-known.ensures.facts c.pass-names.ensures in
    fits_here _ _ _ _ _ _ c.along.invariant p same

pub checked-returns-then-not-is_asked : goal.checked-returns-then-not-is_asked
checked-returns-then-not-is_asked t c =
    let p = point_in c.args.setting c.pass-known.result c.pass-names.result in
    let same = point_here c.args.setting (known_in c.args.facts.now) (known_in c.pass-known.result) (scalars_in c.args.inside.now)
    (scalars_in c.pass-names.result) (mon_of c.args.right.now) c.along.count (sequence c.of-head.result) c.of-head.ensures
    c.pass-known.ensures.facts c.pass-names.ensures in
    is_refused _ _ _ _ _ _ c.along.invariant p same c.is_asked.result c.if-not-is_asked.true c.is_asked.ensures

pub checked-checked_last-requires : goal.checked-checked_last-requires
checked-checked_last-requires t c =
    let p = point_in c.args.setting c.pass-known.result c.pass-names.result in
    let same = point_here c.args.setting (known_in c.args.facts.now) (known_in c.pass-known.result) (scalars_in c.args.inside.now)
    (scalars_in c.pass-names.result) (mon_of c.args.right.now) c.along.count (sequence c.of-head.result) c.of-head.ensures
    c.pass-known.ensures.facts c.pass-names.ensures in
    (omega (arith, c.along.invariant.smaller, c.decreases), (sym c.is_along.ensures ∙ c.if-not-is_along.true, (c.is_asked.ensures.0 c.if-not-is_asked.false, fits_here _ _ _ _ _ _ c.along.invariant p same)))

pub checked-returns-then-not-is_along : goal.checked-returns-then-not-is_along
checked-returns-then-not-is_along t c =
    let p = point_in c.args.setting c.pass-known.result c.pass-names.result in
    let same = point_here c.args.setting (known_in c.args.facts.now) (known_in c.pass-known.result) (scalars_in c.args.inside.now)
    (scalars_in c.pass-names.result) (mon_of c.args.right.now) c.along.count (sequence c.of-head.result) c.of-head.ensures
    c.pass-known.ensures.facts c.pass-names.ensures in
    decided_here _ _ _ _ _ _ c.along.invariant p same c.checked_last.result c.checked_last.ensures

pub checked-returns-in_default : goal.checked-returns-in_default
checked-returns-in_default t c =
    let p = point_in c.args.setting c.pass-known.result c.pass-names.result in
    let same = point_here c.args.setting (known_in c.args.facts.now) (known_in c.pass-known.result) (scalars_in c.args.inside.now)
    (scalars_in c.pass-names.result) (mon_of c.args.right.now) c.along.count (sequence c.of-head.result) c.of-head.ensures
    c.pass-known.ensures.facts c.pass-names.ensures in
    let other : length (parts_at c.along.tree.now) ≡ 2 → ⊥ = search rules in
    is_miscounted _ _ _ _ _ _ c.along.invariant p same (sym c.is_along.ensures ∙ c.if-not-is_along.false) (c.is_asked.ensures.0 c.if-not-is_asked.false) other

pub checked-checked-requires : goal.checked-checked-requires
checked-checked-requires t c =
    let p = point_in c.args.setting c.pass-known.result c.pass-names.result in
    let same = point_here c.args.setting (known_in c.args.facts.now) (known_in c.pass-known.result) (scalars_in c.args.inside.now)
    (scalars_in c.pass-names.result) (mon_of c.args.right.now) c.along.count (sequence c.of-head.result) c.of-head.ensures
    c.pass-known.ensures.facts c.pass-names.ensures in
    let items : parts_at c.along.tree.now ≡ c.in-Some.first.now ∷ c.in-Some.last.now ∷ [] = search rules in (
      first_less _ _ _ _ _ _ c.along.invariant p same (sym c.is_along.ensures ∙ c.if-not-is_along.false) (c.is_asked.ensures.0 c.if-not-is_asked.false) c.in-Some.first.now c.in-Some.last.now items _ 2 (sym c.decreases),
      first_fits _ _ _ _ _ _ c.along.invariant p same (sym c.is_along.ensures ∙ c.if-not-is_along.false) (c.is_asked.ensures.0 c.if-not-is_asked.false) (mon_of c.left_first.result.now) (mon_of c.right_first.result.now) c.left_first.ensures c.right_first.ensures,
    )

pub checked-returns-in_err-later : goal.checked-returns-in_err-later
checked-returns-in_err-later t c =
    let p = point_in c.args.setting c.pass-known.result c.pass-names.result in
    let same = point_here c.args.setting (known_in c.args.facts.now) (known_in c.pass-known.result) (scalars_in c.args.inside.now)
    (scalars_in c.pass-names.result) (mon_of c.args.right.now) c.along.count (sequence c.of-head.result) c.of-head.ensures
    c.pass-known.ensures.facts c.pass-names.ensures in
    let items : parts_at c.along.tree.now ≡ c.in-Some.first.now ∷ c.in-Some.last.now ∷ [] = search rules in
    let residual : c.from_residual.result ≡ Err c.in_err-later.field-0.0 = search rules in
    subst (λ r. Checked table (tree_of c.args.tree.now) (does (point_in c.args.setting c.args.facts.now c.args.inside.now) (mon_of c.args.left.now) (mon_of c.args.right.now)) c.args.at r) (sym residual)
    (is_bad _ _ _ _ _ _ c.along.invariant p same (sym c.is_along.ensures ∙ c.if-not-is_along.false) (c.is_asked.ensures.0 c.if-not-is_asked.false) c.in-Some.first.now c.in-Some.last.now items c.next.result c.in_err-later.field-0.0 c.next.ensures
    (first_as _ _ _ _ _ _ c.along.invariant p same c.in-Some.first.now (mon_of c.left_first.result.now) (mon_of c.right_first.result.now) c.next.result (Err c.in_err-later.field-0.0) c.left_first.ensures c.right_first.ensures
    (subst (λ r. Checked table (tree_of c.in-Some.first.now) (does p (mon_of c.left_first.result.now) (mon_of c.right_first.result.now)) c.next.result r) c.in_err-later.was c.checked.ensures)))

-- past the greatest count, with links of their own

pub checked-checked-requires-then-count : goal.checked-checked-requires-then-count
checked-checked-requires-then-count t c =
    let p = point_in c.args.setting c.pass-known.result c.pass-names.result in
    let same = point_here c.args.setting (known_in c.args.facts.now) (known_in c.pass-known.result) (scalars_in c.args.inside.now)
    (scalars_in c.pass-names.result) (mon_of c.args.right.now) c.along.count (sequence c.of-head.result) c.of-head.ensures
    c.pass-known.ensures.facts c.pass-names.ensures in
    let items : parts_at c.along.tree.now ≡ c.in-Some.first.now ∷ c.in-Some.last.now ∷ [] = search rules in
    let names = names_after (setting_in c.args.setting no_names) c.along.count (scalars_in c.args.inside.now) (mon_of c.args.right.now) in
    let there = point_here c.args.setting (known_in c.pass-known.result) (known_in c.pass-behind.result) names (scalars_in c.pass-more.result)
    (mon_of c.along.right.now) c.passes-steps.result (sequence c.of.result) c.of.ensures c.pass-behind.ensures.facts
    (c.pass-more.ensures ∙ ap (λ ns. names_after (setting_in c.args.setting no_names) c.passes-steps.result ns (mon_of c.along.right.now)) c.pass-names.ensures) in (
      last_less _ _ _ _ _ _ c.along.invariant p same (sym c.is_along.ensures ∙ c.if-not-is_along.false) (c.is_asked.ensures.0 c.if-not-is_asked.false) c.in-Some.first.now c.in-Some.last.now items _ 2 (sym c.decreases),
      (again _ _ _ _ _ _ c.along.invariant p same (sym c.is_along.ensures ∙ c.if-not-is_along.false) (c.is_asked.ensures.0 c.if-not-is_asked.false) c.in-Some.first.now c.in-Some.last.now items c.next.result c.in_ok-later.later c.next.ensures
          (first_as _ _ _ _ _ _ c.along.invariant p same c.in-Some.first.now (mon_of c.left_first.result.now) (mon_of c.right_first.result.now) c.next.result (Ok c.in_ok-later.later) c.left_first.ensures c.right_first.ensures
          (subst (λ r. Checked table (tree_of c.in-Some.first.now) (does p (mon_of c.left_first.result.now) (mon_of c.right_first.result.now)) c.next.result r) c.in_ok-later.was c.checked.ensures))
          (point_in c.args.setting c.pass-behind.result c.pass-more.result) c.passes-steps.result (mon_of c.left_behind-left_after.result.now) (mon_of c.right_behind-right_after.result.now)
          c.passes-steps.ensures.count there c.left_behind-left_after.ensures c.right_behind-right_after.ensures).0,
    )

pub checked-returns-then-count : goal.checked-returns-then-count
checked-returns-then-count t c =
    let p = point_in c.args.setting c.pass-known.result c.pass-names.result in
    let same = point_here c.args.setting (known_in c.args.facts.now) (known_in c.pass-known.result) (scalars_in c.args.inside.now)
    (scalars_in c.pass-names.result) (mon_of c.args.right.now) c.along.count (sequence c.of-head.result) c.of-head.ensures
    c.pass-known.ensures.facts c.pass-names.ensures in
    let items : parts_at c.along.tree.now ≡ c.in-Some.first.now ∷ c.in-Some.last.now ∷ [] = search rules in
    let names = names_after (setting_in c.args.setting no_names) c.along.count (scalars_in c.args.inside.now) (mon_of c.args.right.now) in
    let there = point_here c.args.setting (known_in c.pass-known.result) (known_in c.pass-behind.result) names (scalars_in c.pass-more.result)
    (mon_of c.along.right.now) c.passes-steps.result (sequence c.of.result) c.of.ensures c.pass-behind.ensures.facts
    (c.pass-more.ensures ∙ ap (λ ns. names_after (setting_in c.args.setting no_names) c.passes-steps.result ns (mon_of c.along.right.now)) c.pass-names.ensures) in
    (again _ _ _ _ _ _ c.along.invariant p same (sym c.is_along.ensures ∙ c.if-not-is_along.false) (c.is_asked.ensures.0 c.if-not-is_asked.false) c.in-Some.first.now c.in-Some.last.now items c.next.result c.in_ok-later.later c.next.ensures
    (first_as _ _ _ _ _ _ c.along.invariant p same c.in-Some.first.now (mon_of c.left_first.result.now) (mon_of c.right_first.result.now) c.next.result (Ok c.in_ok-later.later) c.left_first.ensures c.right_first.ensures
    (subst (λ r. Checked table (tree_of c.in-Some.first.now) (does p (mon_of c.left_first.result.now) (mon_of c.right_first.result.now)) c.next.result r) c.in_ok-later.was c.checked.ensures))
    (point_in c.args.setting c.pass-behind.result c.pass-more.result) c.passes-steps.result (mon_of c.left_behind-left_after.result.now) (mon_of c.right_behind-right_after.result.now)
    c.passes-steps.ensures.count there c.left_behind-left_after.ensures c.right_behind-right_after.ensures).1
    c.checked-then-count.result c.checked-then-count.ensures

pub checked-along-preserved : goal.checked-along-preserved
checked-along-preserved t c =
    let p = point_in c.args.setting c.pass-known.result c.pass-names.result in
    let same = point_here c.args.setting (known_in c.args.facts.now) (known_in c.pass-known.result) (scalars_in c.args.inside.now)
    (scalars_in c.pass-names.result) (mon_of c.args.right.now) c.along.count (sequence c.of-head.result) c.of-head.ensures
    c.pass-known.ensures.facts c.pass-names.ensures in
    let items : parts_at c.along.tree.now ≡ c.in-Some.first.now ∷ c.in-Some.last.now ∷ [] = search rules in
    turned _ _ _ _ _ _ c.along.invariant p same (sym c.is_along.ensures ∙ c.if-not-is_along.false) (c.is_asked.ensures.0 c.if-not-is_asked.false) c.in-Some.first.now c.in-Some.last.now items c.next.result c.in_ok-later.later c.next.ensures
    (first_as _ _ _ _ _ _ c.along.invariant p same c.in-Some.first.now (mon_of c.left_first.result.now) (mon_of c.right_first.result.now) c.next.result (Ok c.in_ok-later.later) c.left_first.ensures c.right_first.ensures
    (subst (λ r. Checked table (tree_of c.in-Some.first.now) (does p (mon_of c.left_first.result.now) (mon_of c.right_first.result.now)) c.next.result r) c.in_ok-later.was c.checked.ensures))
    _ (mon_of c.left_behind-left_after.result.now) (mon_of c.right_behind-right_after.result.now) (ap (λ k. c.along.count + k) c.passes-steps.ensures.count)
    c.left_behind-left_after.ensures c.right_behind-right_after.ensures

pub checked-along-smaller : goal.checked-along-smaller
checked-along-smaller t c =
    let items : parts_at c.along.tree.now ≡ c.in-Some.first.now ∷ c.in-Some.last.now ∷ [] = search rules in
    (two_less c.along.tree.now c.in-Some.first.now c.in-Some.last.now items).1

-- a choice

pub checked_branches-returns-in_default : goal.checked_branches-returns-in_default
checked_branches-returns-in_default t c =
    absurd (choice_left (point_in c.args.setting c.args.facts.now c.args.inside.now) (rule_at c.args.tree.now) (mon_of c.args.left.now) (mon_of c.args.right.now) c.requires.choice c.requires.asked c.in_default.ensures.none)

pub checked_branches-returns-in_default-branches : goal.checked_branches-returns-in_default-branches
checked_branches-returns-in_default-branches t c =
    absurd (choice_right (point_in c.args.setting c.args.facts.now c.args.inside.now) (rule_at c.args.tree.now) (mon_of c.args.left.now) (mon_of c.args.right.now) c.requires.choice c.requires.asked c.in_default-branches.ensures.none)

pub checked_branches-returns-in_default-both : goal.checked_branches-returns-in_default-both
checked_branches-returns-in_default-both t c =
    let other : length (parts_at c.args.tree.now) ≡ 2 → ⊥ = search rules in
    choice_miscounted c.args.tree.now (point_in c.args.setting c.args.facts.now c.args.inside.now) (mon_of c.args.left.now) (mon_of c.args.right.now) c.requires.choice c.requires.asked (exp_of c.in-Some._test.now) (exp_of c.in-Some-branches.test.now) (mon_of c.in-Some.m.now) (mon_of c.in-Some.n.now) (mon_of c.in-Some-branches.other.now) (mon_of c.in-Some-branches.rest.now) c.in-Some.ensures.some c.in-Some-branches.ensures.some c.args.at other

pub checked_branches-checked_knowing-requires : goal.checked_branches-checked_knowing-requires
checked_branches-checked_knowing-requires t c =
    let items : parts_at c.args.tree.now ≡ c.in-Some-both.first.now ∷ c.in-Some-both.last.now ∷ [] = search rules in
    let less = two_less c.args.tree.now c.in-Some-both.first.now c.in-Some-both.last.now items in
    (omega (arith, less.0, c.decreases), (both_fit c.args.tree.now (point_in c.args.setting c.args.facts.now c.args.inside.now) (mon_of c.args.left.now) (mon_of c.args.right.now) c.requires.choice c.requires.asked (exp_of c.in-Some._test.now) (exp_of c.in-Some-branches.test.now) (mon_of c.in-Some.m.now) (mon_of c.in-Some.n.now) (mon_of c.in-Some-branches.other.now) (mon_of c.in-Some-branches.rest.now) c.in-Some.ensures.some c.in-Some-branches.ensures.some c.requires.fits).0)

pub checked_branches-returns-in_err-behind : goal.checked_branches-returns-in_err-behind
checked_branches-returns-in_err-behind t c =
    let items : parts_at c.args.tree.now ≡ c.in-Some-both.first.now ∷ c.in-Some-both.last.now ∷ [] = search rules in
    let residual : c.from_residual.result ≡ Err c.in_err-behind.field-0.0 = search rules in
    subst (λ r. Checked table (tree_of c.args.tree.now) (does (point_in c.args.setting c.args.facts.now c.args.inside.now) (mon_of c.args.left.now) (mon_of c.args.right.now)) c.args.at r) (sym residual)
    (choice_bad c.args.tree.now (point_in c.args.setting c.args.facts.now c.args.inside.now) (mon_of c.args.left.now) (mon_of c.args.right.now) c.requires.choice c.requires.asked (exp_of c.in-Some._test.now) (exp_of c.in-Some-branches.test.now) (mon_of c.in-Some.m.now) (mon_of c.in-Some.n.now) (mon_of c.in-Some-branches.other.now) (mon_of c.in-Some-branches.rest.now) c.in-Some.ensures.some c.in-Some-branches.ensures.some c.in-Some-both.first.now c.in-Some-both.last.now items c.args.at c.next.result c.in_err-behind.field-0.0 c.next.ensures
    (subst (λ r. Checked table (tree_of c.in-Some-both.first.now) (does (knowing (Whole (exp_of c.in-Some-branches.test.now)) (point_in c.args.setting c.args.facts.now c.args.inside.now)) (mon_of c.in-Some.m.now) (mon_of c.in-Some-branches.other.now)) c.next.result r) c.in_err-behind.was c.checked_knowing.ensures))

pub checked_branches-checked_knowing-requires-2 : goal.checked_branches-checked_knowing-requires-2
checked_branches-checked_knowing-requires-2 t c =
    let items : parts_at c.args.tree.now ≡ c.in-Some-both.first.now ∷ c.in-Some-both.last.now ∷ [] = search rules in
    let less = two_less c.args.tree.now c.in-Some-both.first.now c.in-Some-both.last.now items in
    (omega (arith, less.1, c.decreases), (both_fit c.args.tree.now (point_in c.args.setting c.args.facts.now c.args.inside.now) (mon_of c.args.left.now) (mon_of c.args.right.now) c.requires.choice c.requires.asked (exp_of c.in-Some._test.now) (exp_of c.in-Some-branches.test.now) (mon_of c.in-Some.m.now) (mon_of c.in-Some.n.now) (mon_of c.in-Some-branches.other.now) (mon_of c.in-Some-branches.rest.now) c.in-Some.ensures.some c.in-Some-branches.ensures.some c.requires.fits).1)

pub checked_branches-returns : goal.checked_branches-returns
checked_branches-returns t c =
    let items : parts_at c.args.tree.now ≡ c.in-Some-both.first.now ∷ c.in-Some-both.last.now ∷ [] = search rules in
    choice_onward c.args.tree.now (point_in c.args.setting c.args.facts.now c.args.inside.now) (mon_of c.args.left.now) (mon_of c.args.right.now) c.requires.choice c.requires.asked (exp_of c.in-Some._test.now) (exp_of c.in-Some-branches.test.now) (mon_of c.in-Some.m.now) (mon_of c.in-Some.n.now) (mon_of c.in-Some-branches.other.now) (mon_of c.in-Some-branches.rest.now) c.in-Some.ensures.some c.in-Some-branches.ensures.some c.in-Some-both.first.now c.in-Some-both.last.now items c.args.at c.next.result c.in_ok-behind.behind c.next.ensures
    (subst (λ r. Checked table (tree_of c.in-Some-both.first.now) (does (knowing (Whole (exp_of c.in-Some-branches.test.now)) (point_in c.args.setting c.args.facts.now c.args.inside.now)) (mon_of c.in-Some.m.now) (mon_of c.in-Some-branches.other.now)) c.next.result r) c.in_ok-behind.was c.checked_knowing.ensures) c.checked_knowing-2.result c.checked_knowing-2.ensures

-- a loop

pub checked_turn-returns-in_default : goal.checked_turn-returns-in_default
checked_turn-returns-in_default t c =
    absurd (turn_left (point_in c.args.setting c.args.facts.now c.args.inside.now) (rule_at c.args.tree.now) (mon_of c.args.left.now) (mon_of c.args.right.now) c.requires.turn c.requires.asked c.in_default.ensures.none)

pub checked_turn-returns-in_default-turn : goal.checked_turn-returns-in_default-turn
checked_turn-returns-in_default-turn t c =
    absurd (turn_right (point_in c.args.setting c.args.facts.now c.args.inside.now) (rule_at c.args.tree.now) (mon_of c.args.left.now) (mon_of c.args.right.now) c.requires.turn c.requires.asked c.in_default-turn.ensures.none)

pub checked_turn-returns-in_default-only : goal.checked_turn-returns-in_default-only
checked_turn-returns-in_default-only t c =
    let other : length (parts_at c.args.tree.now) ≡ 1 → ⊥ = search rules in
    turn_miscounted c.args.tree.now (point_in c.args.setting c.args.facts.now c.args.inside.now) (mon_of c.args.left.now) (mon_of c.args.right.now) c.requires.turn c.requires.asked (map start_of c.in-Some._starts.now) (map start_of c.in-Some-turn._others.now) (exp_of c.in-Some._guard.now) (exp_of c.in-Some-turn.guard.now) (exp_of c.in-Some._test.now) (exp_of c.in-Some-turn.test.now) (mon_of c.in-Some.m.now) (mon_of c.in-Some-turn.n.now) c.in-Some.ensures.some c.in-Some-turn.ensures.some c.args.at other

pub checked_turn-checked-requires : goal.checked_turn-checked-requires
checked_turn-checked-requires t c =
    let items : parts_at c.args.tree.now ≡ c.in-Some-only.part.now ∷ [] = search rules in
    let none : known_in c.no_facts.result.now ≡ [] = c.no_facts.ensures in
    let facts : known_in c.with-known.result ≡ Whole (exp_of c.in-Some-turn.test.now) ∷ Whole (exp_of c.in-Some-turn.guard.now) ∷ [] =
    c.with-known.ensures.facts ∙ ap (λ fs. Whole (exp_of c.in-Some-turn.test.now) ∷ fs) (c.with-first.ensures.facts ∙ ap (λ fs. Whole (exp_of c.in-Some-turn.guard.now) ∷ fs) none) in
    let here = turn_here c.args.setting (known_in c.args.facts.now) (known_in c.with-known.result) (Whole (exp_of c.in-Some-turn.test.now) ∷ Whole (exp_of c.in-Some-turn.guard.now) ∷ [])
    (scalars_in c.args.inside.now) (scalars_in c.pass-names.result) (mon_of c.args.right.now) (map start_of c.in-Some-turn._others.now) (exp_of c.in-Some-turn.guard.now) (exp_of c.in-Some-turn.test.now) (mon_of c.in-Some-turn.n.now)
    c.in-Some-turn.ensures.some c.requires.fits.right c.pass-names.ensures facts in
    let less = one_less c.args.tree.now c.in-Some-only.part.now items in
    (omega (arith, less, c.decreases), subst (λ (q : Point). Fits q.setting (mon_of c.in-Some.m.now) (mon_of c.in-Some-turn.n.now)) (sym here) (body_fits c.args.tree.now (point_in c.args.setting c.args.facts.now c.args.inside.now) (mon_of c.args.left.now) (mon_of c.args.right.now) c.requires.turn c.requires.asked (map start_of c.in-Some._starts.now) (map start_of c.in-Some-turn._others.now) (exp_of c.in-Some._guard.now) (exp_of c.in-Some-turn.guard.now) (exp_of c.in-Some._test.now) (exp_of c.in-Some-turn.test.now) (mon_of c.in-Some.m.now) (mon_of c.in-Some-turn.n.now) c.in-Some.ensures.some c.in-Some-turn.ensures.some c.requires.fits))

pub checked_turn-returns : goal.checked_turn-returns
checked_turn-returns t c =
    let items : parts_at c.args.tree.now ≡ c.in-Some-only.part.now ∷ [] = search rules in
    let none : known_in c.no_facts.result.now ≡ [] = c.no_facts.ensures in
    let facts : known_in c.with-known.result ≡ Whole (exp_of c.in-Some-turn.test.now) ∷ Whole (exp_of c.in-Some-turn.guard.now) ∷ [] =
    c.with-known.ensures.facts ∙ ap (λ fs. Whole (exp_of c.in-Some-turn.test.now) ∷ fs) (c.with-first.ensures.facts ∙ ap (λ fs. Whole (exp_of c.in-Some-turn.guard.now) ∷ fs) none) in
    let here = turn_here c.args.setting (known_in c.args.facts.now) (known_in c.with-known.result) (Whole (exp_of c.in-Some-turn.test.now) ∷ Whole (exp_of c.in-Some-turn.guard.now) ∷ [])
    (scalars_in c.args.inside.now) (scalars_in c.pass-names.result) (mon_of c.args.right.now) (map start_of c.in-Some-turn._others.now) (exp_of c.in-Some-turn.guard.now) (exp_of c.in-Some-turn.test.now) (mon_of c.in-Some-turn.n.now)
    c.in-Some-turn.ensures.some c.requires.fits.right c.pass-names.ensures facts in
    turn_onward c.args.tree.now (point_in c.args.setting c.args.facts.now c.args.inside.now) (mon_of c.args.left.now) (mon_of c.args.right.now) c.requires.turn c.requires.asked (map start_of c.in-Some._starts.now) (map start_of c.in-Some-turn._others.now) (exp_of c.in-Some._guard.now) (exp_of c.in-Some-turn.guard.now) (exp_of c.in-Some._test.now) (exp_of c.in-Some-turn.test.now) (mon_of c.in-Some.m.now) (mon_of c.in-Some-turn.n.now) c.in-Some.ensures.some c.in-Some-turn.ensures.some c.in-Some-only.part.now items c.args.at c.next.result c.checked.result c.next.ensures
    (subst (λ q. Checked table (tree_of c.in-Some-only.part.now) (does q (mon_of c.in-Some.m.now) (mon_of c.in-Some-turn.n.now)) c.next.result c.checked.result) here c.checked.ensures)
