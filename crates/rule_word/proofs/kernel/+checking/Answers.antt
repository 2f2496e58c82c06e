-- What each function of the kernel finds.
use Rattle.std.proofs.Common.{rules, ◌≡◌, ◌<◌, ◌≤◌, ◌+◌, ◌*◌, ◌++◌, true, false, Some, [], ◌∷◌, map, length, Ok, Err, refl, sym, subst, ap, ap₂, ◌∙◌, arith}
use Rattle.expression_lang.specs.Expression as X
use Rattle.expression_lang.specs.CodeExpression.{exp_of, kind_of}
use Rattle.ac_expr.specs.Fact.{Whole}
use Rattle.ac_expr.specs.Passed.{passed}
use Rattle.monad_lang.specs.CodeProgram.{mon_of}
use Rattle.program_facts.specs.Flow.{parts}
use Rattle.rule_trees.specs.RuleTree.{Checked, AllChecked}
use Rattle.rule_trees.specs.CodeTree.{trees_in}
use Rattle.rule_trees.specs.CodeNodes.{nodes, nodes_in}
use Rattle.rule_word.specs.declared.rule.View as V
use Rattle.rule_word.specs.declared.kernel.Front as F
use Rattle.rule_word.specs.declared.passed.Passed as Q
use Rattle.rule_word.specs.Rule.{Point, expression, program}
use Rattle.rule_word.specs.Scopes.{own, with_kinds}
use Rattle.rule_word.specs.Table.{program_row}
use Rattle.rule_word.specs.CodeFits.{Fits, AllFit, ClaimFits, FitInTurn}
use Rattle.rule_word.specs.CodeNames.{with_passed, are_binders}
use Rattle.rule_word.specs.CodePassed.{sequence, conjuncts}
use Rattle.rule_word.specs.CodeClaims.{inside, is_and, first_of, behind, names_bound}
use Rattle.rule_word.specs.CodeRule.{rule_of, rule_at, tree_of, known_in, context_in, table_at}
use Rattle.rule_word.specs.CodeKinds.{binders_in, point_in, scope_at}
use Rattle.rule_word.specs.CodeParts.{seen_in, pairs_at, thens_at, claim_in}
use Rattle.rule_word.specs.CodeRows.{claim_at}
use Rattle.rule_word.specs.CodeFront.{Leaves, IsBehind, IsLast, row_thens, IsEntered, IsLastOf, RowLeaves}
use Rattle.rule_word.proofs.Walked as walked
use Rattle.rule_word.proofs.RowLeft.{row_left}
use Rattle.rule_word.proofs.Paired as paired
use Rattle.rule_word.proofs.Along as along
use Rattle.rule_word.proofs.Steps as steps
use Rattle.rule_word.proofs.KindsStay.{inside_stay}
use Rattle.rule_word.proofs.Sequences.{FactsLeft, NamesLeft, one_fact_passed, more_facts_passed}
use Rattle.rule_word.proofs.SteppedOn.{names_there, on_from, next_from, next_is}
use Rattle.rule_word.proofs.kernel.+checking.Goals as goal

pub checked_exp-returns-then-not-is_exp_asked : goal.checked_exp-returns-then-not-is_exp_asked
checked_exp-returns-then-not-is_exp_asked t c =
    c.down.invariant.decides (Err c.down.at) (walked.refused c.args.context.now c.down.tree.now (claim_at c.args.context.now c.args.point (exp_of c.down.left.now) c.down.view (exp_of c.down.right.now)) c.is_exp_asked.result c.down.at c.if-not-is_exp_asked.true (λ h. c.is_exp_asked.ensures.1 h.1))

pub checked_exp-returns-then-not-is_matched : goal.checked_exp-returns-then-not-is_matched
checked_exp-returns-then-not-is_matched t c =
    let items : walked.parts_at c.down.tree.now ≡ c.deref.result.now = search rules in
    c.down.invariant.decides (Err c.down.at) (walked.unmatched c.args.context.now c.down.tree.now (claim_at c.args.context.now c.args.point (exp_of c.down.left.now) c.down.view (exp_of c.down.right.now)) ((pairs_at (context_in c.args.context.now) (point_in c.args.point) c.lefts-pairs.result c.exp_views-views.result c.rights-others.result) ++ (thens_at (context_in c.args.context.now) (point_in c.args.point) c.exp_then-then.result)) c.deref.result.now c.is_matched.result c.down.at (walked.claims_are c.args.context.now c.args.point (rule_at c.down.tree.now) (exp_of c.down.left.now) c.down.view (exp_of c.down.right.now) c.lefts-pairs.result c.exp_views-views.result c.rights-others.result c.lefts-pairs.ensures c.rights-others.ensures c.exp_views-views.ensures.views (thens_at (context_in c.args.context.now) (point_in c.args.point) c.exp_then-then.result) (c.exp_then-then.ensures (context_in c.args.context.now) (point_in c.args.point)) c.down.invariant.fits (c.is_exp_asked.ensures.0 c.if-not-is_exp_asked.false)) items c.if-not-is_matched.true (c.is_matched.ensures (context_in c.args.context.now) (point_in c.args.point) (point_in c.args.point)))

pub checked_exp-checked_pairs-requires : goal.checked_exp-checked_pairs-requires
checked_exp-checked_pairs-requires t c =
    let items : walked.parts_at c.down.tree.now ≡ c.deref-in-down.result.now = search rules in
    let same : c.deref.result.now ≡ c.deref-in-down.result.now = search rules in
    let count : length c.deref-in-down.result.now ≡ length ((pairs_at (context_in c.args.context.now) (point_in c.args.point) c.lefts-pairs.result c.exp_views-views.result c.rights-others.result) ++ (thens_at (context_in c.args.context.now) (point_in c.args.point) c.exp_then-then.result)) = sym (ap length same) ∙ (c.is_matched.ensures (context_in c.args.context.now) (point_in c.args.point) (point_in c.args.point)).0 c.if-not-is_matched.false in (
      subst (λ n. 8 * nodes_in (trees_in rule_of c.deref-in-down.result.now) + 6 < n) c.decreases (along.below_by _ _ _ 6 2 (walked.parts_less c.down.tree.now c.deref-in-down.result.now items) c.down.invariant.smaller (omega arith)),
      (
        walked.ready_is c.args.context.now c.args.point (rule_at c.down.tree.now) (exp_of c.down.left.now) c.down.view (exp_of c.down.right.now) c.lefts-pairs.result c.exp_views-views.result c.rights-others.result c.lefts-pairs.ensures c.rights-others.ensures c.exp_views-views.ensures.views c.exp_views-views.ensures.looks c.down.invariant.fits (c.is_exp_asked.ensures.0 c.if-not-is_exp_asked.false),
        (
          c.requires.kinds,
          (
            c.requires.results,
            subst (λ n. length (pairs_at (context_in c.args.context.now) (point_in c.args.point) c.lefts-pairs.result c.exp_views-views.result c.rights-others.result) ≤ n) (sym count) (walked.fewer_first (pairs_at (context_in c.args.context.now) (point_in c.args.point) c.lefts-pairs.result c.exp_views-views.result c.rights-others.result) (thens_at (context_in c.args.context.now) (point_in c.args.point) c.exp_then-then.result)),
          ),
        ),
      ),
    )

pub checked_exp-returns-in_err-rest : goal.checked_exp-returns-in_err-rest
checked_exp-returns-in_err-rest t c =
    let items : walked.parts_at c.down.tree.now ≡ c.deref-in-down.result.now = search rules in
    let same : c.deref.result.now ≡ c.deref-in-down.result.now = search rules in
    let count : length c.deref-in-down.result.now ≡ length ((pairs_at (context_in c.args.context.now) (point_in c.args.point) c.lefts-pairs.result c.exp_views-views.result c.rights-others.result) ++ (thens_at (context_in c.args.context.now) (point_in c.args.point) c.exp_then-then.result)) = sym (ap length same) ∙ (c.is_matched.ensures (context_in c.args.context.now) (point_in c.args.point) (point_in c.args.point)).0 c.if-not-is_matched.false in
    let bad : c.checked_pairs.result ≡ Err c.in_err-rest.field-0.0 = search rules in
    let same-2 : c.from_residual.result ≡ Err c.in_err-rest.field-0.0 = search rules in
    subst (λ r. Checked (table_at c.args.context.now) (tree_of c.args.tree.now) (claim_at c.args.context.now c.args.point (exp_of c.args.left.now) c.args.view (exp_of c.args.right.now)) c.args.at r) (sym same-2)
    (c.down.invariant.decides (Err c.in_err-rest.field-0.0) (walked.decided c.args.context.now c.down.tree.now (claim_at c.args.context.now c.args.point (exp_of c.down.left.now) c.down.view (exp_of c.down.right.now)) ((pairs_at (context_in c.args.context.now) (point_in c.args.point) c.lefts-pairs.result c.exp_views-views.result c.rights-others.result) ++ (thens_at (context_in c.args.context.now) (point_in c.args.point) c.exp_then-then.result)) c.deref-in-down.result.now c.down.at c.next.result (Err c.in_err-rest.field-0.0) ((c.down.invariant.fits.1 ∙ sym c.down.invariant.fits.2, (c.is_exp_asked.ensures.0 c.if-not-is_exp_asked.false))) (walked.claims_are c.args.context.now c.args.point (rule_at c.down.tree.now) (exp_of c.down.left.now) c.down.view (exp_of c.down.right.now) c.lefts-pairs.result c.exp_views-views.result c.rights-others.result c.lefts-pairs.ensures c.rights-others.ensures c.exp_views-views.ensures.views (thens_at (context_in c.args.context.now) (point_in c.args.point) c.exp_then-then.result) (c.exp_then-then.ensures (context_in c.args.context.now) (point_in c.args.point)) c.down.invariant.fits (c.is_exp_asked.ensures.0 c.if-not-is_exp_asked.false)) items count c.next.ensures (subst (λ r. Leaves c.args.context.now c.args.point c.deref-in-down.result.now (pairs_at (context_in c.args.context.now) (point_in c.args.point) c.lefts-pairs.result c.exp_views-views.result c.rights-others.result) c.next.result r) bad c.checked_pairs.ensures (thens_at (context_in c.args.context.now) (point_in c.args.point) c.exp_then-then.result))))

pub checked_exp-checked_then-requires : goal.checked_exp-checked_then-requires
checked_exp-checked_then-requires t c =
    let items : walked.parts_at c.down.tree.now ≡ c.deref-in-down.result.now = search rules in
    let same : c.deref.result.now ≡ c.deref-in-down.result.now = search rules in
    let count : length c.deref-in-down.result.now ≡ length ((pairs_at (context_in c.args.context.now) (point_in c.args.point) c.lefts-pairs.result c.exp_views-views.result c.rights-others.result) ++ (thens_at (context_in c.args.context.now) (point_in c.args.point) c.exp_then-then.result)) = sym (ap length same) ∙ (c.is_matched.ensures (context_in c.args.context.now) (point_in c.args.point) (point_in c.args.point)).0 c.if-not-is_matched.false in
    let was : c.checked_pairs.result ≡ Ok (F.TheVariants.Behind c.in-Behind.rest c.in-Behind.number) = search rules in
    let b : IsBehind c.args.context.now c.deref-in-down.result.now (pairs_at (context_in c.args.context.now) (point_in c.args.point) c.lefts-pairs.result c.exp_views-views.result c.rights-others.result) c.next.result c.in-Behind.rest.now c.in-Behind.number = subst (λ r. Leaves c.args.context.now c.args.point c.deref-in-down.result.now (pairs_at (context_in c.args.context.now) (point_in c.args.point) c.lefts-pairs.result c.exp_views-views.result c.rights-others.result) c.next.result r) was c.checked_pairs.ensures in (
      subst (λ n. 8 * nodes_in (trees_in rule_of c.in-Behind.rest.now) + 6 < n) c.decreases (along.below_by _ _ _ 6 2 (along.le_less _ _ _ b.fewer (walked.parts_less c.down.tree.now c.deref-in-down.result.now items)) c.down.invariant.smaller (omega arith)),
      (walked.rest_count (pairs_at (context_in c.args.context.now) (point_in c.args.point) c.lefts-pairs.result c.exp_views-views.result c.rights-others.result) (thens_at (context_in c.args.context.now) (point_in c.args.point) c.exp_then-then.result) (length c.in-Behind.rest.now) (length c.deref-in-down.result.now) count b.count, (b.turn (thens_at (context_in c.args.context.now) (point_in c.args.point) c.exp_then-then.result) (walked.thens_fit c.args.context.now c.args.point (rule_at c.down.tree.now) (exp_of c.down.left.now) c.down.view (exp_of c.down.right.now) c.lefts-pairs.result c.exp_views-views.result c.rights-others.result c.lefts-pairs.ensures c.rights-others.ensures c.exp_views-views.ensures.views (thens_at (context_in c.args.context.now) (point_in c.args.point) c.exp_then-then.result) (c.exp_then-then.ensures (context_in c.args.context.now) (point_in c.args.point)) c.down.invariant.fits (c.is_exp_asked.ensures.0 c.if-not-is_exp_asked.false) b.fit), (c.requires.kinds, c.requires.results))),
    )

pub checked_exp-returns-in-Behind : goal.checked_exp-returns-in-Behind
checked_exp-returns-in-Behind t c =
    let items : walked.parts_at c.down.tree.now ≡ c.deref-in-down.result.now = search rules in
    let same : c.deref.result.now ≡ c.deref-in-down.result.now = search rules in
    let count : length c.deref-in-down.result.now ≡ length ((pairs_at (context_in c.args.context.now) (point_in c.args.point) c.lefts-pairs.result c.exp_views-views.result c.rights-others.result) ++ (thens_at (context_in c.args.context.now) (point_in c.args.point) c.exp_then-then.result)) = sym (ap length same) ∙ (c.is_matched.ensures (context_in c.args.context.now) (point_in c.args.point) (point_in c.args.point)).0 c.if-not-is_matched.false in
    let was : c.checked_pairs.result ≡ Ok (F.TheVariants.Behind c.in-Behind.rest c.in-Behind.number) = search rules in
    let b : IsBehind c.args.context.now c.deref-in-down.result.now (pairs_at (context_in c.args.context.now) (point_in c.args.point) c.lefts-pairs.result c.exp_views-views.result c.rights-others.result) c.next.result c.in-Behind.rest.now c.in-Behind.number = subst (λ r. Leaves c.args.context.now c.args.point c.deref-in-down.result.now (pairs_at (context_in c.args.context.now) (point_in c.args.point) c.lefts-pairs.result c.exp_views-views.result c.rights-others.result) c.next.result r) was c.checked_pairs.ensures in
    c.down.invariant.decides c.checked_then.result (walked.decided c.args.context.now c.down.tree.now (claim_at c.args.context.now c.args.point (exp_of c.down.left.now) c.down.view (exp_of c.down.right.now)) ((pairs_at (context_in c.args.context.now) (point_in c.args.point) c.lefts-pairs.result c.exp_views-views.result c.rights-others.result) ++ (thens_at (context_in c.args.context.now) (point_in c.args.point) c.exp_then-then.result)) c.deref-in-down.result.now c.down.at c.next.result c.checked_then.result ((c.down.invariant.fits.1 ∙ sym c.down.invariant.fits.2, (c.is_exp_asked.ensures.0 c.if-not-is_exp_asked.false))) (walked.claims_are c.args.context.now c.args.point (rule_at c.down.tree.now) (exp_of c.down.left.now) c.down.view (exp_of c.down.right.now) c.lefts-pairs.result c.exp_views-views.result c.rights-others.result c.lefts-pairs.ensures c.rights-others.ensures c.exp_views-views.ensures.views (thens_at (context_in c.args.context.now) (point_in c.args.point) c.exp_then-then.result) (c.exp_then-then.ensures (context_in c.args.context.now) (point_in c.args.point)) c.down.invariant.fits (c.is_exp_asked.ensures.0 c.if-not-is_exp_asked.false)) items count c.next.ensures (b.decides (thens_at (context_in c.args.context.now) (point_in c.args.point) c.exp_then-then.result) c.checked_then.result c.checked_then.ensures))

pub checked_exp-down-smaller : goal.checked_exp-down-smaller
checked_exp-down-smaller t c =
    let items : walked.parts_at c.down.tree.now ≡ c.deref-in-down.result.now = search rules in
    let same : c.deref.result.now ≡ c.deref-in-down.result.now = search rules in
    let count : length c.deref-in-down.result.now ≡ length ((pairs_at (context_in c.args.context.now) (point_in c.args.point) c.lefts-pairs.result c.exp_views-views.result c.rights-others.result) ++ (thens_at (context_in c.args.context.now) (point_in c.args.point) c.exp_then-then.result)) = sym (ap length same) ∙ (c.is_matched.ensures (context_in c.args.context.now) (point_in c.args.point) (point_in c.args.point)).0 c.if-not-is_matched.false in
    let was : c.checked_pairs.result ≡ Ok (F.TheVariants.Last c.in-Last.part c.in-Last.e c.in-Last.seen c.in-Last.other c.in-Last.number) = search rules in
    let k : IsLast c.args.context.now c.args.point c.deref-in-down.result.now (pairs_at (context_in c.args.context.now) (point_in c.args.point) c.lefts-pairs.result c.exp_views-views.result c.rights-others.result) c.next.result c.in-Last.part.now (exp_of c.in-Last.e.now) c.in-Last.seen (exp_of c.in-Last.other.now) c.in-Last.number = subst (λ r. Leaves c.args.context.now c.args.point c.deref-in-down.result.now (pairs_at (context_in c.args.context.now) (point_in c.args.point) c.lefts-pairs.result c.exp_views-views.result c.rights-others.result) c.next.result r) was c.checked_pairs.ensures in
    along.le_less _ _ _ k.fewer (walked.parts_less c.down.tree.now c.deref-in-down.result.now items)

pub checked_exp-down-preserved : goal.checked_exp-down-preserved
checked_exp-down-preserved t c =
    let items : walked.parts_at c.down.tree.now ≡ c.deref-in-down.result.now = search rules in
    let same : c.deref.result.now ≡ c.deref-in-down.result.now = search rules in
    let count : length c.deref-in-down.result.now ≡ length ((pairs_at (context_in c.args.context.now) (point_in c.args.point) c.lefts-pairs.result c.exp_views-views.result c.rights-others.result) ++ (thens_at (context_in c.args.context.now) (point_in c.args.point) c.exp_then-then.result)) = sym (ap length same) ∙ (c.is_matched.ensures (context_in c.args.context.now) (point_in c.args.point) (point_in c.args.point)).0 c.if-not-is_matched.false in
    let was : c.checked_pairs.result ≡ Ok (F.TheVariants.Last c.in-Last.part c.in-Last.e c.in-Last.seen c.in-Last.other c.in-Last.number) = search rules in
    let k : IsLast c.args.context.now c.args.point c.deref-in-down.result.now (pairs_at (context_in c.args.context.now) (point_in c.args.point) c.lefts-pairs.result c.exp_views-views.result c.rights-others.result) c.next.result c.in-Last.part.now (exp_of c.in-Last.e.now) c.in-Last.seen (exp_of c.in-Last.other.now) c.in-Last.number = subst (λ r. Leaves c.args.context.now c.args.point c.deref-in-down.result.now (pairs_at (context_in c.args.context.now) (point_in c.args.point) c.lefts-pairs.result c.exp_views-views.result c.rights-others.result) c.next.result r) was c.checked_pairs.ensures in
    record {
      decides = λ r h. c.down.invariant.decides r (walked.decided c.args.context.now c.down.tree.now (claim_at c.args.context.now c.args.point (exp_of c.down.left.now) c.down.view (exp_of c.down.right.now)) ((pairs_at (context_in c.args.context.now) (point_in c.args.point) c.lefts-pairs.result c.exp_views-views.result c.rights-others.result) ++ (thens_at (context_in c.args.context.now) (point_in c.args.point) c.exp_then-then.result)) c.deref-in-down.result.now c.down.at c.next.result r ((c.down.invariant.fits.1 ∙ sym c.down.invariant.fits.2, (c.is_exp_asked.ensures.0 c.if-not-is_exp_asked.false))) (walked.claims_are c.args.context.now c.args.point (rule_at c.down.tree.now) (exp_of c.down.left.now) c.down.view (exp_of c.down.right.now) c.lefts-pairs.result c.exp_views-views.result c.rights-others.result c.lefts-pairs.ensures c.rights-others.ensures c.exp_views-views.ensures.views (thens_at (context_in c.args.context.now) (point_in c.args.point) c.exp_then-then.result) (c.exp_then-then.ensures (context_in c.args.context.now) (point_in c.args.point)) c.down.invariant.fits (c.is_exp_asked.ensures.0 c.if-not-is_exp_asked.false)) items count c.next.ensures (subst (λ cs. AllChecked (table_at c.args.context.now) (trees_in rule_of c.deref-in-down.result.now) cs c.next.result r) (sym (walked.nothing_more (pairs_at (context_in c.args.context.now) (point_in c.args.point) c.lefts-pairs.result c.exp_views-views.result c.rights-others.result) (thens_at (context_in c.args.context.now) (point_in c.args.point) c.exp_then-then.result) (k.count ∙ count))) (k.decides r h)));
      fits = k.fits;
      smaller = along.no_larger _ _ _ (along.le_less _ _ _ k.fewer (walked.parts_less c.down.tree.now c.deref-in-down.result.now items)) c.down.invariant.smaller;
    }

pub checked_pairs-returns-in_default-seen_at : goal.checked_pairs-returns-in_default-seen_at
checked_pairs-returns-in_default-seen_at t c =
    let items : c.pairs.rest.now ≡ c.in-Some-split_first.part.now ∷ c.in-Some-split_first.behind.now = search rules in
    paired.walk_bad c.args.context.now c.args.parts.now (pairs_at (context_in c.args.context.now) (point_in c.args.point) c.args.left c.args.views c.args.right) c.args.at c.pairs.rest.now (pairs_at (context_in c.args.context.now) (point_in c.args.point) c.pairs.left c.pairs.views c.pairs.right) c.pairs.at c.pairs.invariant.walk c.in-Some-split_first.part.now c.in-Some-split_first.behind.now (expression (point_in c.args.point) (exp_of c.in-Some.e.now) (seen_in (scope_at c.args.context.now c.args.point) (exp_of c.in-Some.e.now) c.in-Some-next.seen) (exp_of c.in-Some-next-2.a.now)) (pairs_at (context_in c.args.context.now) (point_in c.args.point) c.in-Some.lefts c.in-Some-next.others c.in-Some-next-2.rights) items (paired.pairs_more c.args.context.now c.args.point c.pairs.left c.in-Some.lefts c.pairs.views c.in-Some-next.others c.pairs.right c.in-Some-next-2.rights (exp_of c.in-Some.e.now) (exp_of c.in-Some-next-2.a.now) c.in-Some-next.seen c.in-Some.ensures.some c.in-Some-next-2.ensures.some c.in-Some-next.ensures.some) c.pairs.at
    (paired.seen_bad c.args.context.now c.args.point c.in-Some-split_first.part.now c.in-Some-next.seen (exp_of c.in-Some.e.now) (exp_of c.in-Some-next-2.a.now) c.pairs.at (paired.first_ready c.args.context.now c.args.point c.pairs.left c.in-Some.lefts c.pairs.views c.in-Some-next.others c.pairs.right c.in-Some-next-2.rights (exp_of c.in-Some.e.now) (exp_of c.in-Some-next-2.a.now) c.in-Some-next.seen c.in-Some.ensures.some c.in-Some-next-2.ensures.some c.in-Some-next.ensures.some c.in-Some-next.ensures.looks.1 c.pairs.invariant.ready) c.in_default-seen_at.ensures.none)

pub checked_pairs-returns-then-is_empty : goal.checked_pairs-returns-then-is_empty
checked_pairs-returns-then-is_empty t c =
    let items : c.pairs.rest.now ≡ c.in-Some-split_first.part.now ∷ c.in-Some-split_first.behind.now = search rules in
    let none : length c.in-Some-split_first.behind.now ≡ 0 = search rules in
    paired.walk_last c.args.context.now c.args.parts.now (pairs_at (context_in c.args.context.now) (point_in c.args.point) c.args.left c.args.views c.args.right) c.args.at c.pairs.rest.now (pairs_at (context_in c.args.context.now) (point_in c.args.point) c.pairs.left c.pairs.views c.pairs.right) c.pairs.at c.pairs.invariant.walk c.in-Some-split_first.part.now c.in-Some-split_first.behind.now (expression (point_in c.args.point) (exp_of c.in-Some.e.now) (seen_in (scope_at c.args.context.now c.args.point) (exp_of c.in-Some.e.now) c.in-Some-next.seen) (exp_of c.in-Some-next-2.a.now)) (pairs_at (context_in c.args.context.now) (point_in c.args.point) c.in-Some.lefts c.in-Some-next.others c.in-Some-next-2.rights) items (paired.pairs_more c.args.context.now c.args.point c.pairs.left c.in-Some.lefts c.pairs.views c.in-Some-next.others c.pairs.right c.in-Some-next-2.rights (exp_of c.in-Some.e.now) (exp_of c.in-Some-next-2.a.now) c.in-Some-next.seen c.in-Some.ensures.some c.in-Some-next-2.ensures.some c.in-Some-next.ensures.some) c.args.point (exp_of c.in-Some.e.now) c.in-Some-seen_at.view (exp_of c.in-Some-next-2.a.now) (ap (λ v. expression (point_in c.args.point) (exp_of c.in-Some.e.now) v (exp_of c.in-Some-next-2.a.now)) (sym c.in-Some-seen_at.ensures.some.0)) (paired.nothing c.in-Some-split_first.behind.now none) c.in-Some-seen_at.ensures.some.1

pub checked_pairs-pairs-preserved : goal.checked_pairs-pairs-preserved
checked_pairs-pairs-preserved t c =
    let items : c.pairs.rest.now ≡ c.in-Some-split_first.part.now ∷ c.in-Some-split_first.behind.now = search rules in
    record {
      walk = paired.walk_on c.args.context.now c.args.parts.now (pairs_at (context_in c.args.context.now) (point_in c.args.point) c.args.left c.args.views c.args.right) c.args.at c.pairs.rest.now (pairs_at (context_in c.args.context.now) (point_in c.args.point) c.pairs.left c.pairs.views c.pairs.right) c.pairs.at c.pairs.invariant.walk c.in-Some-split_first.part.now c.in-Some-split_first.behind.now (expression (point_in c.args.point) (exp_of c.in-Some.e.now) (seen_in (scope_at c.args.context.now c.args.point) (exp_of c.in-Some.e.now) c.in-Some-next.seen) (exp_of c.in-Some-next-2.a.now)) (pairs_at (context_in c.args.context.now) (point_in c.args.point) c.in-Some.lefts c.in-Some-next.others c.in-Some-next-2.rights) items (paired.pairs_more c.args.context.now c.args.point c.pairs.left c.in-Some.lefts c.pairs.views c.in-Some-next.others c.pairs.right c.in-Some-next-2.rights (exp_of c.in-Some.e.now) (exp_of c.in-Some-next-2.a.now) c.in-Some-next.seen c.in-Some.ensures.some c.in-Some-next-2.ensures.some c.in-Some-next.ensures.some) c.in_ok-at.at (subst (λ v. Fits (scope_at c.args.context.now c.args.point) (exp_of c.in-Some.e.now) v) c.in-Some-seen_at.ensures.some.0 c.in-Some-seen_at.ensures.some.1)
          (subst (λ v. Checked (table_at c.args.context.now) (tree_of c.in-Some-split_first.part.now) (expression (point_in c.args.point) (exp_of c.in-Some.e.now) v (exp_of c.in-Some-next-2.a.now)) c.pairs.at (Ok c.in_ok-at.at)) c.in-Some-seen_at.ensures.some.0
          (subst (λ r. Checked (table_at c.args.context.now) (tree_of c.in-Some-split_first.part.now) (claim_at c.args.context.now c.args.point (exp_of c.in-Some.e.now) c.in-Some-seen_at.view (exp_of c.in-Some-next-2.a.now)) c.pairs.at r) c.in_ok-at.was c.checked_exp.ensures));
      ready = paired.rest_ready c.args.context.now c.args.point c.pairs.left c.in-Some.lefts c.pairs.views c.in-Some-next.others c.pairs.right c.in-Some-next-2.rights (exp_of c.in-Some.e.now) (exp_of c.in-Some-next-2.a.now) c.in-Some-next.seen c.in-Some.ensures.some c.in-Some-next-2.ensures.some c.in-Some-next.ensures.some c.in-Some-next.ensures.looks.0 c.pairs.invariant.ready;
    }

pub checked_front-returns-then-not-is_asked : goal.checked_front-returns-then-not-is_asked
checked_front-returns-then-not-is_asked t c =
    walked.refused c.args.context.now c.args.tree.now (program (point_in c.args.point) (mon_of c.args.left.now) (mon_of c.args.right.now) (map kind_of c.args.kinds.now)) c.is_asked.result c.args.at c.if-not-is_asked.true c.is_asked.ensures.1

pub checked_front-returns-then-not-is_matched : goal.checked_front-returns-then-not-is_matched
checked_front-returns-then-not-is_matched t c =
    let items : walked.parts_at c.args.tree.now ≡ c.deref.result.now = search rules in
    walked.unmatched c.args.context.now c.args.tree.now (program (point_in c.args.point) (mon_of c.args.left.now) (mon_of c.args.right.now) (map kind_of c.args.kinds.now)) ((pairs_at (context_in c.args.context.now) (point_in c.args.point) c.program_exps-pairs.result c.program_views-views.result c.program_exps-others.result) ++ (thens_at (context_in c.args.context.now) (inside (rule_at c.args.tree.now) (mon_of c.args.left.now) (point_in c.args.point)) c.program_then-then.result)) c.deref.result.now c.is_matched.result c.args.at (walked.program_claims c.args.context.now c.args.point (rule_at c.args.tree.now) (mon_of c.args.left.now) (mon_of c.args.right.now) (map kind_of c.args.kinds.now) c.program_exps-pairs.result c.program_views-views.result c.program_exps-others.result c.program_exps-pairs.ensures c.program_exps-others.ensures (c.program_views-views.ensures.views (scope_at c.args.context.now c.args.point)) c.requires.flat c.requires.fits (c.is_asked.ensures.0 c.if-not-is_asked.false) (thens_at (context_in c.args.context.now) (inside (rule_at c.args.tree.now) (mon_of c.args.left.now) (point_in c.args.point)) c.program_then-then.result) (c.program_then-then.ensures (context_in c.args.context.now) (inside (rule_at c.args.tree.now) (mon_of c.args.left.now) (point_in c.args.point)))) items c.if-not-is_matched.true (c.is_matched.ensures (context_in c.args.context.now) (point_in c.args.point) (inside (rule_at c.args.tree.now) (mon_of c.args.left.now) (point_in c.args.point)))

pub checked_front-checked_pairs-requires : goal.checked_front-checked_pairs-requires
checked_front-checked_pairs-requires t c =
    let items : walked.parts_at c.args.tree.now ≡ c.deref-2.result.now = search rules in
    let same : c.deref.result.now ≡ c.deref-2.result.now = search rules in
    let count : length c.deref-2.result.now ≡ length ((pairs_at (context_in c.args.context.now) (point_in c.args.point) c.program_exps-pairs.result c.program_views-views.result c.program_exps-others.result) ++ (thens_at (context_in c.args.context.now) (inside (rule_at c.args.tree.now) (mon_of c.args.left.now) (point_in c.args.point)) c.program_then-then.result)) = sym (ap length same) ∙ (c.is_matched.ensures (context_in c.args.context.now) (point_in c.args.point) (inside (rule_at c.args.tree.now) (mon_of c.args.left.now) (point_in c.args.point))).0 c.if-not-is_matched.false in (
      subst (λ n. 8 * nodes_in (trees_in rule_of c.deref-2.result.now) + 6 < n) c.decreases (subst (λ ts. 8 * nodes_in (trees_in rule_of ts) + 6 < 8 * nodes_in (trees_in rule_of (walked.parts_at c.args.tree.now)) + 7) items (omega arith)),
      (walked.program_is_ready c.args.context.now c.args.point (rule_at c.args.tree.now) (mon_of c.args.left.now) (mon_of c.args.right.now) (map kind_of c.args.kinds.now) c.program_exps-pairs.result c.program_views-views.result c.program_exps-others.result c.program_exps-pairs.ensures c.program_exps-others.ensures (c.program_views-views.ensures.views (scope_at c.args.context.now c.args.point)) c.requires.flat c.requires.fits (c.is_asked.ensures.0 c.if-not-is_asked.false) c.program_views-views.ensures.looks, (c.requires.kinds, (c.requires.results, subst (λ n. length (pairs_at (context_in c.args.context.now) (point_in c.args.point) c.program_exps-pairs.result c.program_views-views.result c.program_exps-others.result) ≤ n) (sym count) (walked.fewer_first (pairs_at (context_in c.args.context.now) (point_in c.args.point) c.program_exps-pairs.result c.program_views-views.result c.program_exps-others.result) (thens_at (context_in c.args.context.now) (inside (rule_at c.args.tree.now) (mon_of c.args.left.now) (point_in c.args.point)) c.program_then-then.result))))),
    )

pub checked_front-returns : goal.checked_front-returns
checked_front-returns t c =
    let items : walked.parts_at c.args.tree.now ≡ c.deref-2.result.now = search rules in
    let same : c.deref.result.now ≡ c.deref-2.result.now = search rules in
    let count : length c.deref-2.result.now ≡ length ((pairs_at (context_in c.args.context.now) (point_in c.args.point) c.program_exps-pairs.result c.program_views-views.result c.program_exps-others.result) ++ (thens_at (context_in c.args.context.now) (inside (rule_at c.args.tree.now) (mon_of c.args.left.now) (point_in c.args.point)) c.program_then-then.result)) = sym (ap length same) ∙ (c.is_matched.ensures (context_in c.args.context.now) (point_in c.args.point) (inside (rule_at c.args.tree.now) (mon_of c.args.left.now) (point_in c.args.point))).0 c.if-not-is_matched.false in
    let thens : thens_at (context_in c.args.context.now) (inside (rule_at c.args.tree.now) (mon_of c.args.left.now) (point_in c.args.point)) c.program_then-then.result ≡ (row_thens c.args.point c.args.tree.now (mon_of c.args.left.now) (mon_of c.args.right.now) (map kind_of c.args.kinds.now)) = (c.program_then-then.ensures (context_in c.args.context.now) (inside (rule_at c.args.tree.now) (mon_of c.args.left.now) (point_in c.args.point))) in
    row_left c.args.context.now c.args.point c.args.tree.now (mon_of c.args.left.now) (mon_of c.args.right.now) (map kind_of c.args.kinds.now) (pairs_at (context_in c.args.context.now) (point_in c.args.point) c.program_exps-pairs.result c.program_views-views.result c.program_exps-others.result) c.deref-2.result.now c.args.at c.next.result
    (c.is_asked.ensures.0 c.if-not-is_asked.false)
    (walked.program_claims c.args.context.now c.args.point (rule_at c.args.tree.now) (mon_of c.args.left.now) (mon_of c.args.right.now) (map kind_of c.args.kinds.now) c.program_exps-pairs.result c.program_views-views.result c.program_exps-others.result c.program_exps-pairs.ensures c.program_exps-others.ensures (c.program_views-views.ensures.views (scope_at c.args.context.now c.args.point)) c.requires.flat c.requires.fits (c.is_asked.ensures.0 c.if-not-is_asked.false) (row_thens c.args.point c.args.tree.now (mon_of c.args.left.now) (mon_of c.args.right.now) (map kind_of c.args.kinds.now)) refl)
    items (count ∙ ap (λ ds. length ((pairs_at (context_in c.args.context.now) (point_in c.args.point) c.program_exps-pairs.result c.program_views-views.result c.program_exps-others.result) ++ ds)) thens) c.next.ensures
    (walked.program_thens_fit c.args.context.now c.args.point (rule_at c.args.tree.now) (mon_of c.args.left.now) (mon_of c.args.right.now) (map kind_of c.args.kinds.now) c.program_exps-pairs.result c.program_views-views.result c.program_exps-others.result c.program_exps-pairs.ensures c.program_exps-others.ensures (c.program_views-views.ensures.views (scope_at c.args.context.now c.args.point)) c.requires.flat c.requires.fits (c.is_asked.ensures.0 c.if-not-is_asked.false) (row_thens c.args.point c.args.tree.now (mon_of c.args.left.now) (mon_of c.args.right.now) (map kind_of c.args.kinds.now)) refl)
    (λ f. inside_stay (context_in c.args.context.now) c.laid_out.ensures c.requires.results (point_in c.args.point) c.requires.kinds (rule_at c.args.tree.now) (mon_of c.args.left.now) (mon_of c.args.right.now) (map kind_of c.args.kinds.now) (c.is_asked.ensures.0 c.if-not-is_asked.false) (subst (λ cs. AllFit (context_in c.args.context.now) cs) (walked.program_pairs_are c.args.context.now c.args.point (rule_at c.args.tree.now) (mon_of c.args.left.now) (mon_of c.args.right.now) (map kind_of c.args.kinds.now) c.program_exps-pairs.result c.program_views-views.result c.program_exps-others.result c.program_exps-pairs.ensures c.program_exps-others.ensures (c.program_views-views.ensures.views (scope_at c.args.context.now c.args.point))) f))
    c.checked_pairs.result c.checked_pairs.ensures

pub checked_flat-checked_front-requires : goal.checked_flat-checked_front-requires
checked_flat-checked_front-requires t c =
    (subst (λ n. 8 * nodes_in (trees_in rule_of (walked.parts_at c.args.tree.now)) + 7 < n) c.decreases (along.below_flat _ _ 7 (walked.parts_less c.args.tree.now (walked.parts_at c.args.tree.now) refl) (omega arith)), (c.requires.flat, (c.requires.fits, (c.requires.kinds, c.requires.results))))

pub checked_flat-returns-in_err-rest : goal.checked_flat-returns-in_err-rest
checked_flat-returns-in_err-rest t c =
    let bad : c.checked_front.result ≡ Err c.in_err-rest.field-0.0 = search rules in
    let same : c.from_residual.result ≡ Err c.in_err-rest.field-0.0 = search rules in
    subst (λ r. Checked (table_at c.args.context.now) (tree_of c.args.tree.now) (program (point_in c.args.point) (mon_of c.args.left.now) (mon_of c.args.right.now) (map kind_of c.args.kinds.now)) c.args.at r) (sym same)
    (subst (λ r. RowLeaves c.args.context.now c.args.point c.args.tree.now (mon_of c.args.left.now) (mon_of c.args.right.now) (map kind_of c.args.kinds.now) c.args.at r) bad c.checked_front.ensures)

pub checked_flat-checked_inside-requires : goal.checked_flat-checked_inside-requires
checked_flat-checked_inside-requires t c =
    let was : c.checked_front.result ≡ Ok (F.TheVariants.Behind c.in-Behind.rest c.in-Behind.number) = search rules in
    let b : IsEntered c.args.context.now c.args.point c.args.tree.now (mon_of c.args.left.now) (mon_of c.args.right.now) (map kind_of c.args.kinds.now) c.args.at c.in-Behind.rest.now c.in-Behind.number = subst (λ r. RowLeaves c.args.context.now c.args.point c.args.tree.now (mon_of c.args.left.now) (mon_of c.args.right.now) (map kind_of c.args.kinds.now) c.args.at r) was c.checked_front.ensures in
    let thens : thens_at (context_in c.args.context.now) (inside (rule_at c.args.tree.now) (mon_of c.args.left.now) (point_in c.args.point)) c.program_then-then.result ≡ (row_thens c.args.point c.args.tree.now (mon_of c.args.left.now) (mon_of c.args.right.now) (map kind_of c.args.kinds.now)) = (c.program_then-then.ensures (context_in c.args.context.now) (inside (rule_at c.args.tree.now) (mon_of c.args.left.now) (point_in c.args.point))) in (
      subst (λ n. 8 * nodes_in (trees_in rule_of c.in-Behind.rest.now) + 7 < n) c.decreases (along.below_flat _ _ 7 b.fewer (omega arith)),
      (b.count ∙ ap length (sym thens), (subst (λ ds. FitInTurn (context_in c.args.context.now) ds) (sym thens) b.fit, (b.names, c.requires.results))),
    )

pub checked_flat-returns-in-Behind : goal.checked_flat-returns-in-Behind
checked_flat-returns-in-Behind t c =
    let was : c.checked_front.result ≡ Ok (F.TheVariants.Behind c.in-Behind.rest c.in-Behind.number) = search rules in
    let b : IsEntered c.args.context.now c.args.point c.args.tree.now (mon_of c.args.left.now) (mon_of c.args.right.now) (map kind_of c.args.kinds.now) c.args.at c.in-Behind.rest.now c.in-Behind.number = subst (λ r. RowLeaves c.args.context.now c.args.point c.args.tree.now (mon_of c.args.left.now) (mon_of c.args.right.now) (map kind_of c.args.kinds.now) c.args.at r) was c.checked_front.ensures in
    let thens : thens_at (context_in c.args.context.now) (inside (rule_at c.args.tree.now) (mon_of c.args.left.now) (point_in c.args.point)) c.program_then-then.result ≡ (row_thens c.args.point c.args.tree.now (mon_of c.args.left.now) (mon_of c.args.right.now) (map kind_of c.args.kinds.now)) = (c.program_then-then.ensures (context_in c.args.context.now) (inside (rule_at c.args.tree.now) (mon_of c.args.left.now) (point_in c.args.point))) in
    b.decides c.checked_inside.result (subst (λ ds. AllChecked (table_at c.args.context.now) (trees_in rule_of c.in-Behind.rest.now) ds c.in-Behind.number c.checked_inside.result) thens c.checked_inside.ensures)

pub checked_flat-checked_exp-requires : goal.checked_flat-checked_exp-requires
checked_flat-checked_exp-requires t c =
    let was : c.checked_front.result ≡ Ok (F.TheVariants.Last c.in-Last.part c.in-Last.e c.in-Last.view c.in-Last.a c.in-Last.number) = search rules in
    let k : IsLastOf c.args.context.now c.args.point c.args.tree.now (mon_of c.args.left.now) (mon_of c.args.right.now) (map kind_of c.args.kinds.now) c.args.at c.in-Last.part.now (exp_of c.in-Last.e.now) c.in-Last.view (exp_of c.in-Last.a.now) c.in-Last.number = subst (λ r. RowLeaves c.args.context.now c.args.point c.args.tree.now (mon_of c.args.left.now) (mon_of c.args.right.now) (map kind_of c.args.kinds.now) c.args.at r) was c.checked_front.ensures in
    (subst (λ n. 8 * nodes (tree_of c.in-Last.part.now) + 2 < n) c.decreases (along.below_flat _ _ 2 k.fewer (omega arith)), (k.fits, (c.requires.kinds, c.requires.results)))

pub checked_flat-returns-in-Last : goal.checked_flat-returns-in-Last
checked_flat-returns-in-Last t c =
    let was : c.checked_front.result ≡ Ok (F.TheVariants.Last c.in-Last.part c.in-Last.e c.in-Last.view c.in-Last.a c.in-Last.number) = search rules in
    let k : IsLastOf c.args.context.now c.args.point c.args.tree.now (mon_of c.args.left.now) (mon_of c.args.right.now) (map kind_of c.args.kinds.now) c.args.at c.in-Last.part.now (exp_of c.in-Last.e.now) c.in-Last.view (exp_of c.in-Last.a.now) c.in-Last.number = subst (λ r. RowLeaves c.args.context.now c.args.point c.args.tree.now (mon_of c.args.left.now) (mon_of c.args.right.now) (map kind_of c.args.kinds.now) c.args.at r) was c.checked_front.ensures in
    k.decides c.checked_exp.result c.checked_exp.ensures

pub checked_recast-returns-then-not-is_asked : goal.checked_recast-returns-then-not-is_asked
checked_recast-returns-then-not-is_asked t c =
    walked.refused c.args.context.now c.args.tree.now (program (point_in c.args.point) (mon_of c.args.left.now) (mon_of c.args.right.now) (map kind_of c.args.kinds.now)) c.is_asked.result c.args.at c.if-not-is_asked.true c.is_asked.ensures.1

pub checked_recast-checked-requires : goal.checked_recast-checked-requires
checked_recast-checked-requires t c =
    let items : walked.parts_at c.args.tree.now ≡ c.in-Some.part.now ∷ [] = search rules in
    let right : mon_of c.first_of.result.now ≡ first_of (mon_of c.args.right.now) = c.first_of.ensures in
    (subst (λ n. 8 * nodes (tree_of c.in-Some.part.now) + 2 < n) c.decreases (along.below_flat _ _ 2 (along.one_less c.args.tree.now c.in-Some.part.now items) (omega arith)), (along.recast_fits (context_in c.args.context.now) c.args.tree.now c.in-Some.part.now items (point_in c.args.point) (map kind_of c.args.js.now) (map kind_of c.args.kinds.now) (mon_of c.args.left.now) (mon_of c.args.right.now) c.requires.recast c.requires.fits (c.is_asked.ensures.0 c.if-not-is_asked.false), (c.requires.kinds, c.requires.results)))

pub checked_recast-returns : goal.checked_recast-returns
checked_recast-returns t c =
    let items : walked.parts_at c.args.tree.now ≡ c.in-Some.part.now ∷ [] = search rules in
    along.recast_onward (context_in c.args.context.now) c.args.tree.now c.in-Some.part.now items (point_in c.args.point) (map kind_of c.args.js.now) (map kind_of c.args.kinds.now) (mon_of c.args.left.now) (mon_of c.args.right.now) c.requires.recast c.requires.fits (c.is_asked.ensures.0 c.if-not-is_asked.false) c.args.at c.next.result c.checked.result c.next.ensures
    (subst (λ m. Checked (table_at c.args.context.now) (tree_of c.in-Some.part.now) (program (point_in c.args.point) (mon_of c.args.left.now) m (map kind_of c.args.js.now)) c.next.result c.checked.result) c.first_of.ensures c.checked.ensures)

pub checked_recast-returns-in_default : goal.checked_recast-returns-in_default
checked_recast-returns-in_default t c =
    let other : length (walked.parts_at c.args.tree.now) ≡ 1 → ⊥ = search rules in
    along.recast_miscounted (context_in c.args.context.now) c.args.tree.now (point_in c.args.point) (map kind_of c.args.js.now) (map kind_of c.args.kinds.now) (mon_of c.args.left.now) (mon_of c.args.right.now) c.requires.recast (c.is_asked.ensures.0 c.if-not-is_asked.false) c.args.at other

pub checked_then-claims-preserved : goal.checked_then-claims-preserved
checked_then-claims-preserved t c =
    let items : c.claims.rest.now ≡ c.in-Some.part.now ∷ c.in-Some.behind.now = search rules in
    let checked : Checked (table_at c.args.context.now) (tree_of c.in-Some.part.now) (claim_in (context_in c.args.context.now) (point_in c.args.point) c.in-Some-next.claim) c.claims.at (Ok c.in_ok-at.at) = subst (λ r. Checked (table_at c.args.context.now) (tree_of c.in-Some.part.now) (claim_in (context_in c.args.context.now) (point_in c.args.point) c.in-Some-next.claim) c.claims.at r) c.in_ok-at.was c.checked_under.ensures in
    record {
      decides = λ r h. c.claims.invariant.decides r (walked.next_checked c.args.context.now c.in-Some.part.now c.in-Some.behind.now c.claims.rest.now (claim_in (context_in c.args.context.now) (point_in c.args.point) c.in-Some-next.claim) _ _ items (c.in-Some-next.ensures.some (context_in c.args.context.now) (point_in c.args.point)) c.claims.at c.in_ok-at.at r checked h);
      fit = walked.next_fits c.args.context.now c.in-Some.part.now c.in-Some.behind.now c.claims.rest.now (claim_in (context_in c.args.context.now) (point_in c.args.point) c.in-Some-next.claim) _ _ items (c.in-Some-next.ensures.some (context_in c.args.context.now) (point_in c.args.point)) c.claims.at c.in_ok-at.at checked c.claims.invariant.fit;
      count = walked.next_count c.args.context.now c.in-Some.part.now c.in-Some.behind.now c.claims.rest.now (claim_in (context_in c.args.context.now) (point_in c.args.point) c.in-Some-next.claim) _ _ items (c.in-Some-next.ensures.some (context_in c.args.context.now) (point_in c.args.point)) c.claims.invariant.count;
      smaller = (walked.fewer c.args.context.now c.in-Some.part.now c.in-Some.behind.now c.claims.rest.now (claim_in (context_in c.args.context.now) (point_in c.args.point) c.in-Some-next.claim) _ _ items (c.in-Some-next.ensures.some (context_in c.args.context.now) (point_in c.args.point)) (nodes_in (trees_in rule_of c.args.parts.now)) c.claims.invariant.smaller).0;
    }

pub checked-returns-then-not-is_asked : goal.checked-returns-then-not-is_asked
checked-returns-then-not-is_asked t c =
    c.along.invariant.decides (Err c.along.at) (walked.refused c.args.context.now c.along.tree.now (program (record { facts = passed c.along.count (sequence (Q.TheVariants.Program c.of.result)) (point_in c.args.point).facts; names = with_passed c.along.count (tree_of c.args.tree.now) (mon_of c.args.left.now) (point_in c.args.point).names }) (mon_of c.along.left.now) (mon_of c.along.right.now) (map kind_of c.args.kinds.now)) c.is_asked.result c.along.at c.if-not-is_asked.true
    (λ h. c.is_asked.ensures.1 (subst (λ p. (program_row (context_in c.args.context.now) p (rule_at c.along.tree.now) (mon_of c.along.left.now) (mon_of c.along.right.now) (map kind_of c.args.kinds.now)).holds) (sym (ap₂ (λ fs bs. record { facts = fs; names = bs }) c.pass-facts.ensures.facts (c.pass-names.ensures ∙ names_there c.along.stretch c.along.count (tree_of c.args.tree.now) (mon_of c.args.left.now) c.along.invariant.stands (binders_in c.args.point.names.now)))) h)))

pub checked-returns-in_default-both : goal.checked-returns-in_default-both
checked-returns-in_default-both t c =
    let other : length (walked.parts_at c.along.tree.now) ≡ 2 → ⊥ = search rules in
    c.along.invariant.decides (Err c.along.at) (along.bind_miscounted (context_in c.args.context.now) c.along.tree.now (record { facts = passed c.along.count (sequence (Q.TheVariants.Program c.of.result)) (point_in c.args.point).facts; names = with_passed c.along.count (tree_of c.args.tree.now) (mon_of c.args.left.now) (point_in c.args.point).names }) (map kind_of c.in-Some.js.now) (map kind_of c.args.kinds.now) (mon_of c.along.left.now) (mon_of c.along.right.now) c.in-Some.ensures.some (subst (λ p. (program_row (context_in c.args.context.now) p (rule_at c.along.tree.now) (mon_of c.along.left.now) (mon_of c.along.right.now) (map kind_of c.args.kinds.now)).holds) (ap₂ (λ fs bs. record { facts = fs; names = bs }) c.pass-facts.ensures.facts (c.pass-names.ensures ∙ names_there c.along.stretch c.along.count (tree_of c.args.tree.now) (mon_of c.args.left.now) c.along.invariant.stands (binders_in c.args.point.names.now))) (c.is_asked.ensures.0 c.if-not-is_asked.false)) c.along.at other)

pub checked-checked-requires : goal.checked-checked-requires
checked-checked-requires t c =
    let items : walked.parts_at c.along.tree.now ≡ c.in-Some-both.first.now ∷ c.in-Some-both.last.now ∷ [] = search rules in (
      subst (λ n. 8 * nodes (tree_of c.in-Some-both.first.now) + 2 < n) c.decreases (along.below_by _ _ _ 2 2 (along.two_less c.along.tree.now c.in-Some-both.first.now c.in-Some-both.last.now items).0 c.along.invariant.smaller (omega arith)),
      (
        subst (λ p. ClaimFits (context_in c.args.context.now) (program p (mon_of c.first_of.result.now) (first_of (mon_of c.along.right.now)) (map kind_of c.in-Some.js.now))) (sym (ap₂ (λ fs bs. record { facts = fs; names = bs }) c.pass-facts.ensures.facts (c.pass-names.ensures ∙ names_there c.along.stretch c.along.count (tree_of c.args.tree.now) (mon_of c.args.left.now) c.along.invariant.stands (binders_in c.args.point.names.now)))) (subst (λ m. ClaimFits (context_in c.args.context.now) (program (record { facts = passed c.along.count (sequence (Q.TheVariants.Program c.of.result)) (point_in c.args.point).facts; names = with_passed c.along.count (tree_of c.args.tree.now) (mon_of c.args.left.now) (point_in c.args.point).names }) m (first_of (mon_of c.along.right.now)) (map kind_of c.in-Some.js.now))) (sym c.first_of.ensures) (along.step_fits (context_in c.args.context.now) c.along.tree.now c.in-Some-both.first.now c.in-Some-both.last.now items (point_in c.args.point) c.along.count (sequence (Q.TheVariants.Program c.of.result)) (tree_of c.args.tree.now) (mon_of c.args.left.now) (map kind_of c.in-Some.js.now) (map kind_of c.args.kinds.now) (mon_of c.along.left.now) (mon_of c.along.right.now) c.in-Some.ensures.some c.along.invariant.facts c.along.invariant.names c.along.invariant.fits (subst (λ p. (program_row (context_in c.args.context.now) p (rule_at c.along.tree.now) (mon_of c.along.left.now) (mon_of c.along.right.now) (map kind_of c.args.kinds.now)).holds) (ap₂ (λ fs bs. record { facts = fs; names = bs }) c.pass-facts.ensures.facts (c.pass-names.ensures ∙ names_there c.along.stretch c.along.count (tree_of c.args.tree.now) (mon_of c.args.left.now) c.along.invariant.stands (binders_in c.args.point.names.now))) (c.is_asked.ensures.0 c.if-not-is_asked.false)))),
        (subst (λ bs. are_binders bs ≡ true) (sym (c.pass-names.ensures ∙ names_there c.along.stretch c.along.count (tree_of c.args.tree.now) (mon_of c.args.left.now) c.along.invariant.stands (binders_in c.args.point.names.now))) c.along.invariant.kinds, c.requires.results),
      ),
    )

pub checked-returns-in_err-at : goal.checked-returns-in_err-at
checked-returns-in_err-at t c =
    let items : walked.parts_at c.along.tree.now ≡ c.in-Some-both.first.now ∷ c.in-Some-both.last.now ∷ [] = search rules in
    let same : c.from_residual.result ≡ Err c.in_err-at.field-0.0 = search rules in
    subst (λ r. Checked (table_at c.args.context.now) (tree_of c.args.tree.now) (program (point_in c.args.point) (mon_of c.args.left.now) (mon_of c.args.right.now) (map kind_of c.args.kinds.now)) c.args.at r) (sym same)
    (c.along.invariant.decides (Err c.in_err-at.field-0.0) (along.step_bad (context_in c.args.context.now) c.along.tree.now c.in-Some-both.first.now c.in-Some-both.last.now items (point_in c.args.point) c.along.count (sequence (Q.TheVariants.Program c.of.result)) (tree_of c.args.tree.now) (mon_of c.args.left.now) (map kind_of c.in-Some.js.now) (map kind_of c.args.kinds.now) (mon_of c.along.left.now) (mon_of c.along.right.now) c.in-Some.ensures.some c.along.invariant.facts c.along.invariant.names c.along.invariant.fits (subst (λ p. (program_row (context_in c.args.context.now) p (rule_at c.along.tree.now) (mon_of c.along.left.now) (mon_of c.along.right.now) (map kind_of c.args.kinds.now)).holds) (ap₂ (λ fs bs. record { facts = fs; names = bs }) c.pass-facts.ensures.facts (c.pass-names.ensures ∙ names_there c.along.stretch c.along.count (tree_of c.args.tree.now) (mon_of c.args.left.now) c.along.invariant.stands (binders_in c.args.point.names.now))) (c.is_asked.ensures.0 c.if-not-is_asked.false)) c.along.at c.next.result c.in_err-at.field-0.0 c.next.ensures (subst (λ p. Checked (table_at c.args.context.now) (tree_of c.in-Some-both.first.now) (program p (first_of (mon_of c.along.left.now)) (first_of (mon_of c.along.right.now)) (map kind_of c.in-Some.js.now)) c.next.result (Err c.in_err-at.field-0.0)) (ap₂ (λ fs bs. record { facts = fs; names = bs }) c.pass-facts.ensures.facts (c.pass-names.ensures ∙ names_there c.along.stretch c.along.count (tree_of c.args.tree.now) (mon_of c.args.left.now) c.along.invariant.stands (binders_in c.args.point.names.now))) (subst (λ m. Checked (table_at c.args.context.now) (tree_of c.in-Some-both.first.now) (program (record { facts = known_in c.pass-facts.result; names = binders_in c.pass-names.result }) m (first_of (mon_of c.along.right.now)) (map kind_of c.in-Some.js.now)) c.next.result (Err c.in_err-at.field-0.0)) c.first_of.ensures (subst (λ m. Checked (table_at c.args.context.now) (tree_of c.in-Some-both.first.now) (program (record { facts = known_in c.pass-facts.result; names = binders_in c.pass-names.result }) (mon_of c.first_of.result.now) m (map kind_of c.in-Some.js.now)) c.next.result (Err c.in_err-at.field-0.0)) c.first_of-in-along.ensures (subst (λ r. Checked (table_at c.args.context.now) (tree_of c.in-Some-both.first.now) (program (record { facts = known_in c.pass-facts.result; names = binders_in c.pass-names.result }) (mon_of c.first_of.result.now) (mon_of c.first_of-in-along.result.now) (map kind_of c.in-Some.js.now)) c.next.result r) c.in_err-at.was c.checked.ensures))))))

pub checked-checked-requires-then-count : goal.checked-checked-requires-then-count
checked-checked-requires-then-count t c =
    let items : walked.parts_at c.along.tree.now ≡ c.in-Some-both.first.now ∷ c.in-Some-both.last.now ∷ [] = search rules in (
      subst (λ n. 8 * nodes (tree_of c.in-Some-both.last.now) + 2 < n) c.decreases (along.below_by _ _ _ 2 2 (along.two_less c.along.tree.now c.in-Some-both.first.now c.in-Some-both.last.now items).1 c.along.invariant.smaller (omega arith)),
      (
        subst (λ p. ClaimFits (context_in c.args.context.now) (program p (mon_of c.behind.result.now) (behind (mon_of c.along.right.now)) (map kind_of c.args.kinds.now))) (sym (ap₂ (λ fs bs. record { facts = fs; names = bs }) (c.pass-known.ensures.facts ∙ ap₂ (λ ps gs. passed 1 ps gs) c.of-then-count.ensures c.pass-facts.ensures.facts ∙ c.along.invariant.facts.left 1 (point_in c.args.point).facts) (c.push-more.ensures ∙ ap (λ xs. with_kinds xs (map kind_of c.in-Some.js.now) (binders_in c.pass-names.result)) c.named.ensures ∙ ap (λ bs. with_kinds (names_bound (mon_of c.along.left.now)) (map kind_of c.in-Some.js.now) bs) (c.pass-names.ensures ∙ names_there c.along.stretch c.along.count (tree_of c.args.tree.now) (mon_of c.args.left.now) c.along.invariant.stands (binders_in c.args.point.names.now)) ∙ along.step_binds (context_in c.args.context.now) c.along.tree.now c.in-Some-both.first.now c.in-Some-both.last.now items (point_in c.args.point) c.along.count (sequence (Q.TheVariants.Program c.of.result)) (tree_of c.args.tree.now) (mon_of c.args.left.now) (map kind_of c.in-Some.js.now) (map kind_of c.args.kinds.now) (mon_of c.along.left.now) (mon_of c.along.right.now) c.in-Some.ensures.some c.along.invariant.facts c.along.invariant.names c.along.invariant.fits (subst (λ p. (program_row (context_in c.args.context.now) p (rule_at c.along.tree.now) (mon_of c.along.left.now) (mon_of c.along.right.now) (map kind_of c.args.kinds.now)).holds) (ap₂ (λ fs bs. record { facts = fs; names = bs }) c.pass-facts.ensures.facts (c.pass-names.ensures ∙ names_there c.along.stretch c.along.count (tree_of c.args.tree.now) (mon_of c.args.left.now) c.along.invariant.stands (binders_in c.args.point.names.now))) (c.is_asked.ensures.0 c.if-not-is_asked.false)) (point_in c.args.point).names))) (subst (λ m. ClaimFits (context_in c.args.context.now) (program (record { facts = passed (c.along.count + 1) (sequence (Q.TheVariants.Program c.of.result)) (point_in c.args.point).facts; names = with_passed (c.along.count + 1) (tree_of c.args.tree.now) (mon_of c.args.left.now) (point_in c.args.point).names }) m (behind (mon_of c.along.right.now)) (map kind_of c.args.kinds.now))) (sym c.behind.ensures) (along.behind_fits (context_in c.args.context.now) c.along.tree.now c.in-Some-both.first.now c.in-Some-both.last.now items (point_in c.args.point) c.along.count (sequence (Q.TheVariants.Program c.of.result)) (tree_of c.args.tree.now) (mon_of c.args.left.now) (map kind_of c.in-Some.js.now) (map kind_of c.args.kinds.now) (mon_of c.along.left.now) (mon_of c.along.right.now) c.in-Some.ensures.some c.along.invariant.facts c.along.invariant.names c.along.invariant.fits (subst (λ p. (program_row (context_in c.args.context.now) p (rule_at c.along.tree.now) (mon_of c.along.left.now) (mon_of c.along.right.now) (map kind_of c.args.kinds.now)).holds) (ap₂ (λ fs bs. record { facts = fs; names = bs }) c.pass-facts.ensures.facts (c.pass-names.ensures ∙ names_there c.along.stretch c.along.count (tree_of c.args.tree.now) (mon_of c.args.left.now) c.along.invariant.stands (binders_in c.args.point.names.now))) (c.is_asked.ensures.0 c.if-not-is_asked.false)) c.next.result c.in_ok-at.at (subst (λ p. Checked (table_at c.args.context.now) (tree_of c.in-Some-both.first.now) (program p (first_of (mon_of c.along.left.now)) (first_of (mon_of c.along.right.now)) (map kind_of c.in-Some.js.now)) c.next.result (Ok c.in_ok-at.at)) (ap₂ (λ fs bs. record { facts = fs; names = bs }) c.pass-facts.ensures.facts (c.pass-names.ensures ∙ names_there c.along.stretch c.along.count (tree_of c.args.tree.now) (mon_of c.args.left.now) c.along.invariant.stands (binders_in c.args.point.names.now))) (subst (λ m. Checked (table_at c.args.context.now) (tree_of c.in-Some-both.first.now) (program (record { facts = known_in c.pass-facts.result; names = binders_in c.pass-names.result }) m (first_of (mon_of c.along.right.now)) (map kind_of c.in-Some.js.now)) c.next.result (Ok c.in_ok-at.at)) c.first_of.ensures (subst (λ m. Checked (table_at c.args.context.now) (tree_of c.in-Some-both.first.now) (program (record { facts = known_in c.pass-facts.result; names = binders_in c.pass-names.result }) (mon_of c.first_of.result.now) m (map kind_of c.in-Some.js.now)) c.next.result (Ok c.in_ok-at.at)) c.first_of-in-along.ensures (subst (λ r. Checked (table_at c.args.context.now) (tree_of c.in-Some-both.first.now) (program (record { facts = known_in c.pass-facts.result; names = binders_in c.pass-names.result }) (mon_of c.first_of.result.now) (mon_of c.first_of-in-along.result.now) (map kind_of c.in-Some.js.now)) c.next.result r) c.in_ok-at.was c.checked.ensures)))))),
        (subst (λ (p : Point). are_binders p.names ≡ true) (sym (ap₂ (λ fs bs. record { facts = fs; names = bs }) (c.pass-known.ensures.facts ∙ ap₂ (λ ps gs. passed 1 ps gs) c.of-then-count.ensures c.pass-facts.ensures.facts ∙ c.along.invariant.facts.left 1 (point_in c.args.point).facts) (c.push-more.ensures ∙ ap (λ xs. with_kinds xs (map kind_of c.in-Some.js.now) (binders_in c.pass-names.result)) c.named.ensures ∙ ap (λ bs. with_kinds (names_bound (mon_of c.along.left.now)) (map kind_of c.in-Some.js.now) bs) (c.pass-names.ensures ∙ names_there c.along.stretch c.along.count (tree_of c.args.tree.now) (mon_of c.args.left.now) c.along.invariant.stands (binders_in c.args.point.names.now)) ∙ along.step_binds (context_in c.args.context.now) c.along.tree.now c.in-Some-both.first.now c.in-Some-both.last.now items (point_in c.args.point) c.along.count (sequence (Q.TheVariants.Program c.of.result)) (tree_of c.args.tree.now) (mon_of c.args.left.now) (map kind_of c.in-Some.js.now) (map kind_of c.args.kinds.now) (mon_of c.along.left.now) (mon_of c.along.right.now) c.in-Some.ensures.some c.along.invariant.facts c.along.invariant.names c.along.invariant.fits (subst (λ p. (program_row (context_in c.args.context.now) p (rule_at c.along.tree.now) (mon_of c.along.left.now) (mon_of c.along.right.now) (map kind_of c.args.kinds.now)).holds) (ap₂ (λ fs bs. record { facts = fs; names = bs }) c.pass-facts.ensures.facts (c.pass-names.ensures ∙ names_there c.along.stretch c.along.count (tree_of c.args.tree.now) (mon_of c.args.left.now) c.along.invariant.stands (binders_in c.args.point.names.now))) (c.is_asked.ensures.0 c.if-not-is_asked.false)) (point_in c.args.point).names))) (along.behind_kinds (context_in c.args.context.now) c.along.tree.now c.in-Some-both.first.now c.in-Some-both.last.now items (point_in c.args.point) c.along.count (sequence (Q.TheVariants.Program c.of.result)) (tree_of c.args.tree.now) (mon_of c.args.left.now) (map kind_of c.in-Some.js.now) (map kind_of c.args.kinds.now) (mon_of c.along.left.now) (mon_of c.along.right.now) c.in-Some.ensures.some c.along.invariant.facts c.along.invariant.names c.along.invariant.fits (subst (λ p. (program_row (context_in c.args.context.now) p (rule_at c.along.tree.now) (mon_of c.along.left.now) (mon_of c.along.right.now) (map kind_of c.args.kinds.now)).holds) (ap₂ (λ fs bs. record { facts = fs; names = bs }) c.pass-facts.ensures.facts (c.pass-names.ensures ∙ names_there c.along.stretch c.along.count (tree_of c.args.tree.now) (mon_of c.args.left.now) c.along.invariant.stands (binders_in c.args.point.names.now))) (c.is_asked.ensures.0 c.if-not-is_asked.false)) c.laid_out.ensures c.requires.results c.along.invariant.kinds c.next.result c.in_ok-at.at (subst (λ p. Checked (table_at c.args.context.now) (tree_of c.in-Some-both.first.now) (program p (first_of (mon_of c.along.left.now)) (first_of (mon_of c.along.right.now)) (map kind_of c.in-Some.js.now)) c.next.result (Ok c.in_ok-at.at)) (ap₂ (λ fs bs. record { facts = fs; names = bs }) c.pass-facts.ensures.facts (c.pass-names.ensures ∙ names_there c.along.stretch c.along.count (tree_of c.args.tree.now) (mon_of c.args.left.now) c.along.invariant.stands (binders_in c.args.point.names.now))) (subst (λ m. Checked (table_at c.args.context.now) (tree_of c.in-Some-both.first.now) (program (record { facts = known_in c.pass-facts.result; names = binders_in c.pass-names.result }) m (first_of (mon_of c.along.right.now)) (map kind_of c.in-Some.js.now)) c.next.result (Ok c.in_ok-at.at)) c.first_of.ensures (subst (λ m. Checked (table_at c.args.context.now) (tree_of c.in-Some-both.first.now) (program (record { facts = known_in c.pass-facts.result; names = binders_in c.pass-names.result }) (mon_of c.first_of.result.now) m (map kind_of c.in-Some.js.now)) c.next.result (Ok c.in_ok-at.at)) c.first_of-in-along.ensures (subst (λ r. Checked (table_at c.args.context.now) (tree_of c.in-Some-both.first.now) (program (record { facts = known_in c.pass-facts.result; names = binders_in c.pass-names.result }) (mon_of c.first_of.result.now) (mon_of c.first_of-in-along.result.now) (map kind_of c.in-Some.js.now)) c.next.result r) c.in_ok-at.was c.checked.ensures))))), c.requires.results),
      ),
    )

pub checked-returns-then-count : goal.checked-returns-then-count
checked-returns-then-count t c =
    let items : walked.parts_at c.along.tree.now ≡ c.in-Some-both.first.now ∷ c.in-Some-both.last.now ∷ [] = search rules in
    c.along.invariant.decides c.checked-then-count.result (along.step_onward (context_in c.args.context.now) c.along.tree.now c.in-Some-both.first.now c.in-Some-both.last.now items (point_in c.args.point) c.along.count (sequence (Q.TheVariants.Program c.of.result)) (tree_of c.args.tree.now) (mon_of c.args.left.now) (map kind_of c.in-Some.js.now) (map kind_of c.args.kinds.now) (mon_of c.along.left.now) (mon_of c.along.right.now) c.in-Some.ensures.some c.along.invariant.facts c.along.invariant.names c.along.invariant.fits (subst (λ p. (program_row (context_in c.args.context.now) p (rule_at c.along.tree.now) (mon_of c.along.left.now) (mon_of c.along.right.now) (map kind_of c.args.kinds.now)).holds) (ap₂ (λ fs bs. record { facts = fs; names = bs }) c.pass-facts.ensures.facts (c.pass-names.ensures ∙ names_there c.along.stretch c.along.count (tree_of c.args.tree.now) (mon_of c.args.left.now) c.along.invariant.stands (binders_in c.args.point.names.now))) (c.is_asked.ensures.0 c.if-not-is_asked.false)) c.along.at c.next.result c.in_ok-at.at c.next.ensures (subst (λ p. Checked (table_at c.args.context.now) (tree_of c.in-Some-both.first.now) (program p (first_of (mon_of c.along.left.now)) (first_of (mon_of c.along.right.now)) (map kind_of c.in-Some.js.now)) c.next.result (Ok c.in_ok-at.at)) (ap₂ (λ fs bs. record { facts = fs; names = bs }) c.pass-facts.ensures.facts (c.pass-names.ensures ∙ names_there c.along.stretch c.along.count (tree_of c.args.tree.now) (mon_of c.args.left.now) c.along.invariant.stands (binders_in c.args.point.names.now))) (subst (λ m. Checked (table_at c.args.context.now) (tree_of c.in-Some-both.first.now) (program (record { facts = known_in c.pass-facts.result; names = binders_in c.pass-names.result }) m (first_of (mon_of c.along.right.now)) (map kind_of c.in-Some.js.now)) c.next.result (Ok c.in_ok-at.at)) c.first_of.ensures (subst (λ m. Checked (table_at c.args.context.now) (tree_of c.in-Some-both.first.now) (program (record { facts = known_in c.pass-facts.result; names = binders_in c.pass-names.result }) (mon_of c.first_of.result.now) m (map kind_of c.in-Some.js.now)) c.next.result (Ok c.in_ok-at.at)) c.first_of-in-along.ensures (subst (λ r. Checked (table_at c.args.context.now) (tree_of c.in-Some-both.first.now) (program (record { facts = known_in c.pass-facts.result; names = binders_in c.pass-names.result }) (mon_of c.first_of.result.now) (mon_of c.first_of-in-along.result.now) (map kind_of c.in-Some.js.now)) c.next.result r) c.in_ok-at.was c.checked.ensures)))) c.checked-then-count.result
    (subst (λ p. Checked (table_at c.args.context.now) (tree_of c.in-Some-both.last.now) (program p (behind (mon_of c.along.left.now)) (behind (mon_of c.along.right.now)) (map kind_of c.args.kinds.now)) c.in_ok-at.at c.checked-then-count.result) (ap₂ (λ fs bs. record { facts = fs; names = bs }) (c.pass-known.ensures.facts ∙ ap₂ (λ ps gs. passed 1 ps gs) c.of-then-count.ensures c.pass-facts.ensures.facts ∙ c.along.invariant.facts.left 1 (point_in c.args.point).facts) (c.push-more.ensures ∙ ap (λ xs. with_kinds xs (map kind_of c.in-Some.js.now) (binders_in c.pass-names.result)) c.named.ensures ∙ ap (λ bs. with_kinds (names_bound (mon_of c.along.left.now)) (map kind_of c.in-Some.js.now) bs) (c.pass-names.ensures ∙ names_there c.along.stretch c.along.count (tree_of c.args.tree.now) (mon_of c.args.left.now) c.along.invariant.stands (binders_in c.args.point.names.now)) ∙ along.step_binds (context_in c.args.context.now) c.along.tree.now c.in-Some-both.first.now c.in-Some-both.last.now items (point_in c.args.point) c.along.count (sequence (Q.TheVariants.Program c.of.result)) (tree_of c.args.tree.now) (mon_of c.args.left.now) (map kind_of c.in-Some.js.now) (map kind_of c.args.kinds.now) (mon_of c.along.left.now) (mon_of c.along.right.now) c.in-Some.ensures.some c.along.invariant.facts c.along.invariant.names c.along.invariant.fits (subst (λ p. (program_row (context_in c.args.context.now) p (rule_at c.along.tree.now) (mon_of c.along.left.now) (mon_of c.along.right.now) (map kind_of c.args.kinds.now)).holds) (ap₂ (λ fs bs. record { facts = fs; names = bs }) c.pass-facts.ensures.facts (c.pass-names.ensures ∙ names_there c.along.stretch c.along.count (tree_of c.args.tree.now) (mon_of c.args.left.now) c.along.invariant.stands (binders_in c.args.point.names.now))) (c.is_asked.ensures.0 c.if-not-is_asked.false)) (point_in c.args.point).names))
    (subst (λ m. Checked (table_at c.args.context.now) (tree_of c.in-Some-both.last.now) (program (record { facts = known_in c.pass-known.result; names = binders_in c.push-more.result }) m (behind (mon_of c.along.right.now)) (map kind_of c.args.kinds.now)) c.in_ok-at.at c.checked-then-count.result) c.behind.ensures
    (subst (λ m. Checked (table_at c.args.context.now) (tree_of c.in-Some-both.last.now) (program (record { facts = known_in c.pass-known.result; names = binders_in c.push-more.result }) (mon_of c.behind.result.now) m (map kind_of c.args.kinds.now)) c.in_ok-at.at c.checked-then-count.result) c.behind-then-count.ensures c.checked-then-count.ensures))))

pub checked-step-stretch-requires-clause-next : goal.checked-step-stretch-requires-clause-next
checked-step-stretch-requires-clause-next t c =
    let items : walked.parts_at c.along.tree.now ≡ c.in-Some-both.first.now ∷ c.in-Some-both.last.now ∷ [] = search rules in (
      (map kind_of c.in-Some.js.now),
      next_from c.along.stretch c.along.count (tree_of c.args.tree.now) (mon_of c.args.left.now) c.along.invariant.stands (names_bound (mon_of c.along.left.now)) (map kind_of c.in-Some.js.now) (tree_of c.in-Some-both.last.now) (behind (mon_of c.along.left.now))
          (next_is c.along.count (tree_of c.args.tree.now) (mon_of c.args.left.now) (names_bound (mon_of c.along.left.now)) (map kind_of c.in-Some.js.now) (tree_of c.in-Some-both.last.now) (behind (mon_of c.along.left.now)) (along.step_binds (context_in c.args.context.now) c.along.tree.now c.in-Some-both.first.now c.in-Some-both.last.now items (point_in c.args.point) c.along.count (sequence (Q.TheVariants.Program c.of.result)) (tree_of c.args.tree.now) (mon_of c.args.left.now) (map kind_of c.in-Some.js.now) (map kind_of c.args.kinds.now) (mon_of c.along.left.now) (mon_of c.along.right.now) c.in-Some.ensures.some c.along.invariant.facts c.along.invariant.names c.along.invariant.fits (subst (λ p. (program_row (context_in c.args.context.now) p (rule_at c.along.tree.now) (mon_of c.along.left.now) (mon_of c.along.right.now) (map kind_of c.args.kinds.now)).holds) (ap₂ (λ fs bs. record { facts = fs; names = bs }) c.pass-facts.ensures.facts (c.pass-names.ensures ∙ names_there c.along.stretch c.along.count (tree_of c.args.tree.now) (mon_of c.args.left.now) c.along.invariant.stands (binders_in c.args.point.names.now))) (c.is_asked.ensures.0 c.if-not-is_asked.false))) (along.behind_names (context_in c.args.context.now) c.along.tree.now c.in-Some-both.first.now c.in-Some-both.last.now items (point_in c.args.point) c.along.count (sequence (Q.TheVariants.Program c.of.result)) (tree_of c.args.tree.now) (mon_of c.args.left.now) (map kind_of c.in-Some.js.now) (map kind_of c.args.kinds.now) (mon_of c.along.left.now) (mon_of c.along.right.now) c.in-Some.ensures.some c.along.invariant.facts c.along.invariant.names c.along.invariant.fits (subst (λ p. (program_row (context_in c.args.context.now) p (rule_at c.along.tree.now) (mon_of c.along.left.now) (mon_of c.along.right.now) (map kind_of c.args.kinds.now)).holds) (ap₂ (λ fs bs. record { facts = fs; names = bs }) c.pass-facts.ensures.facts (c.pass-names.ensures ∙ names_there c.along.stretch c.along.count (tree_of c.args.tree.now) (mon_of c.args.left.now) c.along.invariant.stands (binders_in c.args.point.names.now))) (c.is_asked.ensures.0 c.if-not-is_asked.false)))),
    )

pub checked-along-smaller : goal.checked-along-smaller
checked-along-smaller t c =
    let items : walked.parts_at c.along.tree.now ≡ c.in-Some-both.first.now ∷ c.in-Some-both.last.now ∷ [] = search rules in
    (along.two_less c.along.tree.now c.in-Some-both.first.now c.in-Some-both.last.now items).1

pub checked-along-preserved : goal.checked-along-preserved
checked-along-preserved t c =
    let items : walked.parts_at c.along.tree.now ≡ c.in-Some-both.first.now ∷ c.in-Some-both.last.now ∷ [] = search rules in
    record {
      decides = λ r h. c.along.invariant.decides r (along.step_onward (context_in c.args.context.now) c.along.tree.now c.in-Some-both.first.now c.in-Some-both.last.now items (point_in c.args.point) c.along.count (sequence (Q.TheVariants.Program c.of.result)) (tree_of c.args.tree.now) (mon_of c.args.left.now) (map kind_of c.in-Some.js.now) (map kind_of c.args.kinds.now) (mon_of c.along.left.now) (mon_of c.along.right.now) c.in-Some.ensures.some c.along.invariant.facts c.along.invariant.names c.along.invariant.fits (subst (λ p. (program_row (context_in c.args.context.now) p (rule_at c.along.tree.now) (mon_of c.along.left.now) (mon_of c.along.right.now) (map kind_of c.args.kinds.now)).holds) (ap₂ (λ fs bs. record { facts = fs; names = bs }) c.pass-facts.ensures.facts (c.pass-names.ensures ∙ names_there c.along.stretch c.along.count (tree_of c.args.tree.now) (mon_of c.args.left.now) c.along.invariant.stands (binders_in c.args.point.names.now))) (c.is_asked.ensures.0 c.if-not-is_asked.false)) c.along.at c.next.result c.in_ok-at.at c.next.ensures (subst (λ p. Checked (table_at c.args.context.now) (tree_of c.in-Some-both.first.now) (program p (first_of (mon_of c.along.left.now)) (first_of (mon_of c.along.right.now)) (map kind_of c.in-Some.js.now)) c.next.result (Ok c.in_ok-at.at)) (ap₂ (λ fs bs. record { facts = fs; names = bs }) c.pass-facts.ensures.facts (c.pass-names.ensures ∙ names_there c.along.stretch c.along.count (tree_of c.args.tree.now) (mon_of c.args.left.now) c.along.invariant.stands (binders_in c.args.point.names.now))) (subst (λ m. Checked (table_at c.args.context.now) (tree_of c.in-Some-both.first.now) (program (record { facts = known_in c.pass-facts.result; names = binders_in c.pass-names.result }) m (first_of (mon_of c.along.right.now)) (map kind_of c.in-Some.js.now)) c.next.result (Ok c.in_ok-at.at)) c.first_of.ensures (subst (λ m. Checked (table_at c.args.context.now) (tree_of c.in-Some-both.first.now) (program (record { facts = known_in c.pass-facts.result; names = binders_in c.pass-names.result }) (mon_of c.first_of.result.now) m (map kind_of c.in-Some.js.now)) c.next.result (Ok c.in_ok-at.at)) c.first_of-in-along.ensures (subst (λ r. Checked (table_at c.args.context.now) (tree_of c.in-Some-both.first.now) (program (record { facts = known_in c.pass-facts.result; names = binders_in c.pass-names.result }) (mon_of c.first_of.result.now) (mon_of c.first_of-in-along.result.now) (map kind_of c.in-Some.js.now)) c.next.result r) c.in_ok-at.was c.checked.ensures)))) r
          (subst (λ m. Checked (table_at c.args.context.now) (tree_of c.in-Some-both.last.now) (program (record { facts = passed (c.along.count + 1) (sequence (Q.TheVariants.Program c.of.result)) (point_in c.args.point).facts; names = with_passed (c.along.count + 1) (tree_of c.args.tree.now) (mon_of c.args.left.now) (point_in c.args.point).names }) m (behind (mon_of c.along.right.now)) (map kind_of c.args.kinds.now)) c.in_ok-at.at r) c.behind-left.ensures
          (subst (λ m. Checked (table_at c.args.context.now) (tree_of c.in-Some-both.last.now) (program (record { facts = passed (c.along.count + 1) (sequence (Q.TheVariants.Program c.of.result)) (point_in c.args.point).facts; names = with_passed (c.along.count + 1) (tree_of c.args.tree.now) (mon_of c.args.left.now) (point_in c.args.point).names }) (mon_of c.behind-left.result.now) m (map kind_of c.args.kinds.now)) c.in_ok-at.at r) c.behind-right.ensures h)));
      fits = subst (λ m. ClaimFits (context_in c.args.context.now) (program (record { facts = passed (c.along.count + 1) (sequence (Q.TheVariants.Program c.of.result)) (point_in c.args.point).facts; names = with_passed (c.along.count + 1) (tree_of c.args.tree.now) (mon_of c.args.left.now) (point_in c.args.point).names }) m (mon_of c.behind-right.result.now) (map kind_of c.args.kinds.now))) (sym c.behind-left.ensures) (along.behind_fits (context_in c.args.context.now) c.along.tree.now c.in-Some-both.first.now c.in-Some-both.last.now items (point_in c.args.point) c.along.count (sequence (Q.TheVariants.Program c.of.result)) (tree_of c.args.tree.now) (mon_of c.args.left.now) (map kind_of c.in-Some.js.now) (map kind_of c.args.kinds.now) (mon_of c.along.left.now) (mon_of c.along.right.now) c.in-Some.ensures.some c.along.invariant.facts c.along.invariant.names c.along.invariant.fits (subst (λ p. (program_row (context_in c.args.context.now) p (rule_at c.along.tree.now) (mon_of c.along.left.now) (mon_of c.along.right.now) (map kind_of c.args.kinds.now)).holds) (ap₂ (λ fs bs. record { facts = fs; names = bs }) c.pass-facts.ensures.facts (c.pass-names.ensures ∙ names_there c.along.stretch c.along.count (tree_of c.args.tree.now) (mon_of c.args.left.now) c.along.invariant.stands (binders_in c.args.point.names.now))) (c.is_asked.ensures.0 c.if-not-is_asked.false)) c.next.result c.in_ok-at.at (subst (λ p. Checked (table_at c.args.context.now) (tree_of c.in-Some-both.first.now) (program p (first_of (mon_of c.along.left.now)) (first_of (mon_of c.along.right.now)) (map kind_of c.in-Some.js.now)) c.next.result (Ok c.in_ok-at.at)) (ap₂ (λ fs bs. record { facts = fs; names = bs }) c.pass-facts.ensures.facts (c.pass-names.ensures ∙ names_there c.along.stretch c.along.count (tree_of c.args.tree.now) (mon_of c.args.left.now) c.along.invariant.stands (binders_in c.args.point.names.now))) (subst (λ m. Checked (table_at c.args.context.now) (tree_of c.in-Some-both.first.now) (program (record { facts = known_in c.pass-facts.result; names = binders_in c.pass-names.result }) m (first_of (mon_of c.along.right.now)) (map kind_of c.in-Some.js.now)) c.next.result (Ok c.in_ok-at.at)) c.first_of.ensures (subst (λ m. Checked (table_at c.args.context.now) (tree_of c.in-Some-both.first.now) (program (record { facts = known_in c.pass-facts.result; names = binders_in c.pass-names.result }) (mon_of c.first_of.result.now) m (map kind_of c.in-Some.js.now)) c.next.result (Ok c.in_ok-at.at)) c.first_of-in-along.ensures (subst (λ r. Checked (table_at c.args.context.now) (tree_of c.in-Some-both.first.now) (program (record { facts = known_in c.pass-facts.result; names = binders_in c.pass-names.result }) (mon_of c.first_of.result.now) (mon_of c.first_of-in-along.result.now) (map kind_of c.in-Some.js.now)) c.next.result r) c.in_ok-at.was c.checked.ensures)))));
      kinds = (along.behind_kinds (context_in c.args.context.now) c.along.tree.now c.in-Some-both.first.now c.in-Some-both.last.now items (point_in c.args.point) c.along.count (sequence (Q.TheVariants.Program c.of.result)) (tree_of c.args.tree.now) (mon_of c.args.left.now) (map kind_of c.in-Some.js.now) (map kind_of c.args.kinds.now) (mon_of c.along.left.now) (mon_of c.along.right.now) c.in-Some.ensures.some c.along.invariant.facts c.along.invariant.names c.along.invariant.fits (subst (λ p. (program_row (context_in c.args.context.now) p (rule_at c.along.tree.now) (mon_of c.along.left.now) (mon_of c.along.right.now) (map kind_of c.args.kinds.now)).holds) (ap₂ (λ fs bs. record { facts = fs; names = bs }) c.pass-facts.ensures.facts (c.pass-names.ensures ∙ names_there c.along.stretch c.along.count (tree_of c.args.tree.now) (mon_of c.args.left.now) c.along.invariant.stands (binders_in c.args.point.names.now))) (c.is_asked.ensures.0 c.if-not-is_asked.false)) c.laid_out.ensures c.requires.results c.along.invariant.kinds c.next.result c.in_ok-at.at (subst (λ p. Checked (table_at c.args.context.now) (tree_of c.in-Some-both.first.now) (program p (first_of (mon_of c.along.left.now)) (first_of (mon_of c.along.right.now)) (map kind_of c.in-Some.js.now)) c.next.result (Ok c.in_ok-at.at)) (ap₂ (λ fs bs. record { facts = fs; names = bs }) c.pass-facts.ensures.facts (c.pass-names.ensures ∙ names_there c.along.stretch c.along.count (tree_of c.args.tree.now) (mon_of c.args.left.now) c.along.invariant.stands (binders_in c.args.point.names.now))) (subst (λ m. Checked (table_at c.args.context.now) (tree_of c.in-Some-both.first.now) (program (record { facts = known_in c.pass-facts.result; names = binders_in c.pass-names.result }) m (first_of (mon_of c.along.right.now)) (map kind_of c.in-Some.js.now)) c.next.result (Ok c.in_ok-at.at)) c.first_of.ensures (subst (λ m. Checked (table_at c.args.context.now) (tree_of c.in-Some-both.first.now) (program (record { facts = known_in c.pass-facts.result; names = binders_in c.pass-names.result }) (mon_of c.first_of.result.now) m (map kind_of c.in-Some.js.now)) c.next.result (Ok c.in_ok-at.at)) c.first_of-in-along.ensures (subst (λ r. Checked (table_at c.args.context.now) (tree_of c.in-Some-both.first.now) (program (record { facts = known_in c.pass-facts.result; names = binders_in c.pass-names.result }) (mon_of c.first_of.result.now) (mon_of c.first_of-in-along.result.now) (map kind_of c.in-Some.js.now)) c.next.result r) c.in_ok-at.was c.checked.ensures)))));
      facts = subst (λ m. FactsLeft (parts m) (c.along.count + 1) (sequence (Q.TheVariants.Program c.of.result))) (sym c.behind-right.ensures) (along.behind_facts (context_in c.args.context.now) c.along.tree.now c.in-Some-both.first.now c.in-Some-both.last.now items (point_in c.args.point) c.along.count (sequence (Q.TheVariants.Program c.of.result)) (tree_of c.args.tree.now) (mon_of c.args.left.now) (map kind_of c.in-Some.js.now) (map kind_of c.args.kinds.now) (mon_of c.along.left.now) (mon_of c.along.right.now) c.in-Some.ensures.some c.along.invariant.facts c.along.invariant.names c.along.invariant.fits (subst (λ p. (program_row (context_in c.args.context.now) p (rule_at c.along.tree.now) (mon_of c.along.left.now) (mon_of c.along.right.now) (map kind_of c.args.kinds.now)).holds) (ap₂ (λ fs bs. record { facts = fs; names = bs }) c.pass-facts.ensures.facts (c.pass-names.ensures ∙ names_there c.along.stretch c.along.count (tree_of c.args.tree.now) (mon_of c.args.left.now) c.along.invariant.stands (binders_in c.args.point.names.now))) (c.is_asked.ensures.0 c.if-not-is_asked.false)));
      names = subst (λ m. NamesLeft (tree_of c.in-Some-both.last.now) m (c.along.count + 1) (tree_of c.args.tree.now) (mon_of c.args.left.now)) (sym c.behind-left.ensures) (along.behind_names (context_in c.args.context.now) c.along.tree.now c.in-Some-both.first.now c.in-Some-both.last.now items (point_in c.args.point) c.along.count (sequence (Q.TheVariants.Program c.of.result)) (tree_of c.args.tree.now) (mon_of c.args.left.now) (map kind_of c.in-Some.js.now) (map kind_of c.args.kinds.now) (mon_of c.along.left.now) (mon_of c.along.right.now) c.in-Some.ensures.some c.along.invariant.facts c.along.invariant.names c.along.invariant.fits (subst (λ p. (program_row (context_in c.args.context.now) p (rule_at c.along.tree.now) (mon_of c.along.left.now) (mon_of c.along.right.now) (map kind_of c.args.kinds.now)).holds) (ap₂ (λ fs bs. record { facts = fs; names = bs }) c.pass-facts.ensures.facts (c.pass-names.ensures ∙ names_there c.along.stretch c.along.count (tree_of c.args.tree.now) (mon_of c.args.left.now) c.along.invariant.stands (binders_in c.args.point.names.now))) (c.is_asked.ensures.0 c.if-not-is_asked.false)));
      kept = c.step-stretch.ensures.kept;
      stands = on_from c.along.stretch c.step-stretch.result c.along.count (tree_of c.args.tree.now) (mon_of c.args.left.now) c.along.invariant.stands c.step-stretch.ensures.count c.step-stretch.ensures.tree c.step-stretch.ensures.parts;
      smaller = along.no_larger _ _ _ (along.two_less c.along.tree.now c.in-Some-both.first.now c.in-Some-both.last.now items).1 c.along.invariant.smaller;
    }

pub checked_ands-returns-in_default-both : goal.checked_ands-returns-in_default-both
checked_ands-returns-in_default-both t c =
    let other : length (walked.parts_at c.along.tree.now) ≡ 2 → ⊥ = search rules in
    c.along.invariant.decides (Err c.along.at) (subst (λ e. Checked (table_at c.args.context.now) (tree_of c.along.tree.now) (expression (record { facts = passed c.along.count (sequence c.sides-head.result) (point_in c.args.point).facts; names = (point_in c.args.point).names }) e (own (scope_at c.args.context.now c.args.point) e) (exp_of c.along.right.now)) c.along.at (Err c.along.at)) (sym c.in-Some.ensures.some) (subst (λ f. Checked (table_at c.args.context.now) (tree_of c.along.tree.now) (expression (record { facts = passed c.along.count (sequence c.sides-head.result) (point_in c.args.point).facts; names = (point_in c.args.point).names }) (X.And (exp_of c.in-Some.a.now) (exp_of c.in-Some.b.now)) (own (scope_at c.args.context.now c.args.point) (X.And (exp_of c.in-Some.a.now) (exp_of c.in-Some.b.now))) f) c.along.at (Err c.along.at)) (sym c.in-Some-sides.ensures.some) (along.and_miscounted (context_in c.args.context.now) c.along.tree.now (record { facts = passed c.along.count (sequence c.sides-head.result) (point_in c.args.point).facts; names = (point_in c.args.point).names }) (steps.and_rule (context_in c.args.context.now) (point_in c.args.point) (rule_at c.along.tree.now) (exp_of c.along.left.now) (exp_of c.along.right.now) c.along.invariant.ands) (exp_of c.in-Some.a.now) (exp_of c.in-Some.b.now) (exp_of c.in-Some-sides.other.now) (exp_of c.in-Some-sides.behind.now) (subst (λ e. Fits (scope_at c.args.context.now c.args.point) e (own (scope_at c.args.context.now c.args.point) e)) c.in-Some.ensures.some c.along.invariant.fits) c.along.at other)))

pub checked_ands-checked_exp-requires : goal.checked_ands-checked_exp-requires
checked_ands-checked_exp-requires t c =
    let items : walked.parts_at c.along.tree.now ≡ c.in-Some-both.first.now ∷ c.in-Some-both.last.now ∷ [] = search rules in (
      subst (λ n. 8 * nodes (tree_of c.in-Some-both.first.now) + 2 < n) c.decreases (along.below_by _ _ _ 2 1 (along.two_less c.along.tree.now c.in-Some-both.first.now c.in-Some-both.last.now items).0 c.along.invariant.smaller (omega arith)),
      ((along.and_fits (context_in c.args.context.now) c.along.tree.now c.in-Some-both.first.now c.in-Some-both.last.now items (record { facts = passed c.along.count (sequence c.sides-head.result) (point_in c.args.point).facts; names = (point_in c.args.point).names }) (steps.and_rule (context_in c.args.context.now) (point_in c.args.point) (rule_at c.along.tree.now) (exp_of c.along.left.now) (exp_of c.along.right.now) c.along.invariant.ands) (exp_of c.in-Some.a.now) (exp_of c.in-Some.b.now) (exp_of c.in-Some-sides.other.now) (exp_of c.in-Some-sides.behind.now) (subst (λ e. Fits (scope_at c.args.context.now c.args.point) e (own (scope_at c.args.context.now c.args.point) e)) c.in-Some.ensures.some c.along.invariant.fits)).0, (c.requires.kinds, c.requires.results)),
    )

pub checked_ands-returns-in_err-at : goal.checked_ands-returns-in_err-at
checked_ands-returns-in_err-at t c =
    let items : walked.parts_at c.along.tree.now ≡ c.in-Some-both.first.now ∷ c.in-Some-both.last.now ∷ [] = search rules in
    let same : c.from_residual.result ≡ Err c.in_err-at.field-0.0 = search rules in
    subst (λ r. Checked (table_at c.args.context.now) (tree_of c.args.tree.now) (claim_at c.args.context.now c.args.point (exp_of c.args.left.now) V.TheVariants.AsIs (exp_of c.args.right.now)) c.args.at r) (sym same)
    (c.along.invariant.decides (Err c.in_err-at.field-0.0) (subst (λ e. Checked (table_at c.args.context.now) (tree_of c.along.tree.now) (expression (record { facts = passed c.along.count (sequence c.sides-head.result) (point_in c.args.point).facts; names = (point_in c.args.point).names }) e (own (scope_at c.args.context.now c.args.point) e) (exp_of c.along.right.now)) c.along.at (Err c.in_err-at.field-0.0)) (sym c.in-Some.ensures.some) (subst (λ f. Checked (table_at c.args.context.now) (tree_of c.along.tree.now) (expression (record { facts = passed c.along.count (sequence c.sides-head.result) (point_in c.args.point).facts; names = (point_in c.args.point).names }) (X.And (exp_of c.in-Some.a.now) (exp_of c.in-Some.b.now)) (own (scope_at c.args.context.now c.args.point) (X.And (exp_of c.in-Some.a.now) (exp_of c.in-Some.b.now))) f) c.along.at (Err c.in_err-at.field-0.0)) (sym c.in-Some-sides.ensures.some) (along.and_bad (context_in c.args.context.now) c.along.tree.now c.in-Some-both.first.now c.in-Some-both.last.now items (record { facts = passed c.along.count (sequence c.sides-head.result) (point_in c.args.point).facts; names = (point_in c.args.point).names }) (steps.and_rule (context_in c.args.context.now) (point_in c.args.point) (rule_at c.along.tree.now) (exp_of c.along.left.now) (exp_of c.along.right.now) c.along.invariant.ands) (exp_of c.in-Some.a.now) (exp_of c.in-Some.b.now) (exp_of c.in-Some-sides.other.now) (exp_of c.in-Some-sides.behind.now) (subst (λ e. Fits (scope_at c.args.context.now c.args.point) e (own (scope_at c.args.context.now c.args.point) e)) c.in-Some.ensures.some c.along.invariant.fits) c.along.at c.next.result c.in_err-at.field-0.0 c.next.ensures (subst (λ p. Checked (table_at c.args.context.now) (tree_of c.in-Some-both.first.now) (expression p (exp_of c.in-Some.a.now) (own (scope_at c.args.context.now c.args.point) (exp_of c.in-Some.a.now)) (exp_of c.in-Some-sides.other.now)) c.next.result (Err c.in_err-at.field-0.0)) (ap (λ fs. record { facts = fs; names = (point_in c.args.point).names }) c.pass-facts.ensures.facts) (subst (λ r. Checked (table_at c.args.context.now) (tree_of c.in-Some-both.first.now) (expression (record { facts = known_in c.pass-facts.result; names = (point_in c.args.point).names }) (exp_of c.in-Some.a.now) (own (scope_at c.args.context.now c.args.point) (exp_of c.in-Some.a.now)) (exp_of c.in-Some-sides.other.now)) c.next.result r) c.in_err-at.was c.checked_exp.ensures))))))

pub checked_ands-checked_exp-requires-then-count : goal.checked_ands-checked_exp-requires-then-count
checked_ands-checked_exp-requires-then-count t c =
    let items : walked.parts_at c.along.tree.now ≡ c.in-Some-both.first.now ∷ c.in-Some-both.last.now ∷ [] = search rules in (
      subst (λ n. 8 * nodes (tree_of c.in-Some-both.last.now) + 2 < n) c.decreases (along.below_by _ _ _ 2 1 (along.two_less c.along.tree.now c.in-Some-both.first.now c.in-Some-both.last.now items).1 c.along.invariant.smaller (omega arith)),
      ((along.and_fits (context_in c.args.context.now) c.along.tree.now c.in-Some-both.first.now c.in-Some-both.last.now items (record { facts = passed c.along.count (sequence c.sides-head.result) (point_in c.args.point).facts; names = (point_in c.args.point).names }) (steps.and_rule (context_in c.args.context.now) (point_in c.args.point) (rule_at c.along.tree.now) (exp_of c.along.left.now) (exp_of c.along.right.now) c.along.invariant.ands) (exp_of c.in-Some.a.now) (exp_of c.in-Some.b.now) (exp_of c.in-Some-sides.other.now) (exp_of c.in-Some-sides.behind.now) (subst (λ e. Fits (scope_at c.args.context.now c.args.point) e (own (scope_at c.args.context.now c.args.point) e)) c.in-Some.ensures.some c.along.invariant.fits)).1, (c.requires.kinds, c.requires.results)),
    )

pub checked_ands-returns-then-count : goal.checked_ands-returns-then-count
checked_ands-returns-then-count t c =
    let items : walked.parts_at c.along.tree.now ≡ c.in-Some-both.first.now ∷ c.in-Some-both.last.now ∷ [] = search rules in
    c.along.invariant.decides c.checked_exp-then-count.result (subst (λ e. Checked (table_at c.args.context.now) (tree_of c.along.tree.now) (expression (record { facts = passed c.along.count (sequence c.sides-head.result) (point_in c.args.point).facts; names = (point_in c.args.point).names }) e (own (scope_at c.args.context.now c.args.point) e) (exp_of c.along.right.now)) c.along.at c.checked_exp-then-count.result) (sym c.in-Some.ensures.some) (subst (λ f. Checked (table_at c.args.context.now) (tree_of c.along.tree.now) (expression (record { facts = passed c.along.count (sequence c.sides-head.result) (point_in c.args.point).facts; names = (point_in c.args.point).names }) (X.And (exp_of c.in-Some.a.now) (exp_of c.in-Some.b.now)) (own (scope_at c.args.context.now c.args.point) (X.And (exp_of c.in-Some.a.now) (exp_of c.in-Some.b.now))) f) c.along.at c.checked_exp-then-count.result) (sym c.in-Some-sides.ensures.some) (along.and_onward (context_in c.args.context.now) c.along.tree.now c.in-Some-both.first.now c.in-Some-both.last.now items (record { facts = passed c.along.count (sequence c.sides-head.result) (point_in c.args.point).facts; names = (point_in c.args.point).names }) (steps.and_rule (context_in c.args.context.now) (point_in c.args.point) (rule_at c.along.tree.now) (exp_of c.along.left.now) (exp_of c.along.right.now) c.along.invariant.ands) (exp_of c.in-Some.a.now) (exp_of c.in-Some.b.now) (exp_of c.in-Some-sides.other.now) (exp_of c.in-Some-sides.behind.now) (subst (λ e. Fits (scope_at c.args.context.now c.args.point) e (own (scope_at c.args.context.now c.args.point) e)) c.in-Some.ensures.some c.along.invariant.fits) c.along.at c.next.result c.in_ok-at.at c.next.ensures (subst (λ p. Checked (table_at c.args.context.now) (tree_of c.in-Some-both.first.now) (expression p (exp_of c.in-Some.a.now) (own (scope_at c.args.context.now c.args.point) (exp_of c.in-Some.a.now)) (exp_of c.in-Some-sides.other.now)) c.next.result (Ok c.in_ok-at.at)) (ap (λ fs. record { facts = fs; names = (point_in c.args.point).names }) c.pass-facts.ensures.facts) (subst (λ r. Checked (table_at c.args.context.now) (tree_of c.in-Some-both.first.now) (expression (record { facts = known_in c.pass-facts.result; names = (point_in c.args.point).names }) (exp_of c.in-Some.a.now) (own (scope_at c.args.context.now c.args.point) (exp_of c.in-Some.a.now)) (exp_of c.in-Some-sides.other.now)) c.next.result r) c.in_ok-at.was c.checked_exp.ensures)) c.checked_exp-then-count.result (subst (λ p. Checked (table_at c.args.context.now) (tree_of c.in-Some-both.last.now) (expression p (exp_of c.in-Some.b.now) (own (scope_at c.args.context.now c.args.point) (exp_of c.in-Some.b.now)) (exp_of c.in-Some-sides.behind.now)) c.in_ok-at.at c.checked_exp-then-count.result) (ap (λ fs. record { facts = fs; names = (point_in c.args.point).names }) (c.with-known.ensures.facts ∙ ap (λ fs. Whole (exp_of c.in-Some-sides.other.now) ∷ fs) c.pass-facts.ensures.facts)) c.checked_exp-then-count.ensures))))

pub checked_ands-along-smaller : goal.checked_ands-along-smaller
checked_ands-along-smaller t c =
    let items : walked.parts_at c.along.tree.now ≡ c.in-Some-both.first.now ∷ c.in-Some-both.last.now ∷ [] = search rules in
    (along.two_less c.along.tree.now c.in-Some-both.first.now c.in-Some-both.last.now items).1

pub checked_ands-along-preserved : goal.checked_ands-along-preserved
checked_ands-along-preserved t c =
    let items : walked.parts_at c.along.tree.now ≡ c.in-Some-both.first.now ∷ c.in-Some-both.last.now ∷ [] = search rules in
    let ands : is_and (rule_at c.in-Some-both.last.now) (exp_of c.in-Some.b.now) (exp_of c.in-Some-sides.behind.now) ≡ true = search rules in
    record {
      decides = λ r h. c.along.invariant.decides r (subst (λ e. Checked (table_at c.args.context.now) (tree_of c.along.tree.now) (expression (record { facts = passed c.along.count (sequence c.sides-head.result) (point_in c.args.point).facts; names = (point_in c.args.point).names }) e (own (scope_at c.args.context.now c.args.point) e) (exp_of c.along.right.now)) c.along.at r) (sym c.in-Some.ensures.some) (subst (λ f. Checked (table_at c.args.context.now) (tree_of c.along.tree.now) (expression (record { facts = passed c.along.count (sequence c.sides-head.result) (point_in c.args.point).facts; names = (point_in c.args.point).names }) (X.And (exp_of c.in-Some.a.now) (exp_of c.in-Some.b.now)) (own (scope_at c.args.context.now c.args.point) (X.And (exp_of c.in-Some.a.now) (exp_of c.in-Some.b.now))) f) c.along.at r) (sym c.in-Some-sides.ensures.some) (along.and_onward (context_in c.args.context.now) c.along.tree.now c.in-Some-both.first.now c.in-Some-both.last.now items (record { facts = passed c.along.count (sequence c.sides-head.result) (point_in c.args.point).facts; names = (point_in c.args.point).names }) (steps.and_rule (context_in c.args.context.now) (point_in c.args.point) (rule_at c.along.tree.now) (exp_of c.along.left.now) (exp_of c.along.right.now) c.along.invariant.ands) (exp_of c.in-Some.a.now) (exp_of c.in-Some.b.now) (exp_of c.in-Some-sides.other.now) (exp_of c.in-Some-sides.behind.now) (subst (λ e. Fits (scope_at c.args.context.now c.args.point) e (own (scope_at c.args.context.now c.args.point) e)) c.in-Some.ensures.some c.along.invariant.fits) c.along.at c.next.result c.in_ok-at.at c.next.ensures (subst (λ p. Checked (table_at c.args.context.now) (tree_of c.in-Some-both.first.now) (expression p (exp_of c.in-Some.a.now) (own (scope_at c.args.context.now c.args.point) (exp_of c.in-Some.a.now)) (exp_of c.in-Some-sides.other.now)) c.next.result (Ok c.in_ok-at.at)) (ap (λ fs. record { facts = fs; names = (point_in c.args.point).names }) c.pass-facts.ensures.facts) (subst (λ r. Checked (table_at c.args.context.now) (tree_of c.in-Some-both.first.now) (expression (record { facts = known_in c.pass-facts.result; names = (point_in c.args.point).names }) (exp_of c.in-Some.a.now) (own (scope_at c.args.context.now c.args.point) (exp_of c.in-Some.a.now)) (exp_of c.in-Some-sides.other.now)) c.next.result r) c.in_ok-at.was c.checked_exp.ensures)) r (subst (λ fs. Checked (table_at c.args.context.now) (tree_of c.in-Some-both.last.now) (expression (record { facts = fs; names = (point_in c.args.point).names }) (exp_of c.in-Some.b.now) (own (scope_at c.args.context.now c.args.point) (exp_of c.in-Some.b.now)) (exp_of c.in-Some-sides.behind.now)) c.in_ok-at.at r) (sym (one_fact_passed (record { guard = Some (exp_of c.in-Some-sides.other.now); names = []; changes = false }) (conjuncts (exp_of c.in-Some-sides.behind.now)) (conjuncts (exp_of c.along.right.now)) c.along.count (sequence c.sides-head.result) (ap conjuncts c.in-Some-sides.ensures.some) c.along.invariant.facts (point_in c.args.point).facts)) h))));
      ands = ands;
      fits = (along.and_fits (context_in c.args.context.now) c.along.tree.now c.in-Some-both.first.now c.in-Some-both.last.now items (record { facts = passed c.along.count (sequence c.sides-head.result) (point_in c.args.point).facts; names = (point_in c.args.point).names }) (steps.and_rule (context_in c.args.context.now) (point_in c.args.point) (rule_at c.along.tree.now) (exp_of c.along.left.now) (exp_of c.along.right.now) c.along.invariant.ands) (exp_of c.in-Some.a.now) (exp_of c.in-Some.b.now) (exp_of c.in-Some-sides.other.now) (exp_of c.in-Some-sides.behind.now) (subst (λ e. Fits (scope_at c.args.context.now c.args.point) e (own (scope_at c.args.context.now c.args.point) e)) c.in-Some.ensures.some c.along.invariant.fits)).1;
      facts = more_facts_passed (record { guard = Some (exp_of c.in-Some-sides.other.now); names = []; changes = false }) (conjuncts (exp_of c.in-Some-sides.behind.now)) (conjuncts (exp_of c.along.right.now)) c.along.count (sequence c.sides-head.result) (ap conjuncts c.in-Some-sides.ensures.some) c.along.invariant.facts;
      smaller = along.no_larger _ _ _ (along.two_less c.along.tree.now c.in-Some-both.first.now c.in-Some-both.last.now items).1 c.along.invariant.smaller;
    }
