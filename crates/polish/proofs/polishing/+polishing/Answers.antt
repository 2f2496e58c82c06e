-- The walk, by what comes of each place.
use Rattle.std.proofs.Common.{rules, arith, ◌≡◌, ◌+◌, true, false, [], ◌∷◌, ◌++◌, map, string_bytes, Some, None, IfOk, sym, ap, ap₂, ◌∙◌, subst}
use Rattle.std.proofs.lemmas.Result.{IfOk-weaker}
use Rattle.expression_lang.specs.Sorted.{names_with}
use Rattle.expression_lang.specs.CodeExpression.{exp_of}
use Rattle.ac_expr.specs.Fact.{Whole}
use Rattle.monad_lang.specs.Program as M
use Rattle.monad_lang.specs.CodeProgram.{mon_of}
use Rattle.rule_eq.specs.Rule as R
use Rattle.rule_eq.specs.Table.{point, behind}
use Rattle.rule_walks.specs.Walk.{one_walk, over_bind, over_one, over_two, walked, then_walked, Nothing, after_before, and_led}
use Rattle.rule_walks.specs.CodeWalks.{walk_in, before_in, made_in}
use Rattle.expression_steps.specs.declared.points.Scoped as N
use Rattle.expression_steps.specs.CodePoint.{names_of, scalars_of, names_in, known_in}
use Rattle.given_scalars.specs.CodeScalars.{setting_over, setting_in}
use Rattle.polish.specs.declared.following.Followed as W
use Rattle.polish.specs.Polished.{leaf, bound, chosen, turned, turning, polished}
use Rattle.polish.specs.Parts.{IsIf, IsLoop}
use Rattle.polish.specs.Branches.{test_in, chosen_in, turn_in}
use Rattle.polish.specs.CodeBranches.{turn_of}
use Rattle.polish.specs.CodeNext as S
use Rattle.polish.specs.CodeNext.{settling_of, stepped}
use Rattle.polish.specs.CodeNextView.{next_in, settling_in}
use Rattle.polish.specs.CodePoint.{point_in}
use Rattle.polish.specs.CodePutting.{put_into}
use Rattle.polish.specs.CodeRewriting.{rewritten_in}
use Rattle.polish.specs.Seen.{seen}
use Rattle.polish.specs.SeenFollowed.{seen_followed}
use Rattle.polish.specs.Descent.{seen_raised}
use Rattle.polish.specs.CodeDescent.{setting_past, point_past, point_behind, stage_in, up_from, rebuilt}
use Rattle.polish.specs.Weight.{weight}
use Rattle.polish.specs.Followed.{ending, heavy, IsFollowed}
use Rattle.polish.proofs.Choices.{first_taken, second_taken, both_made, body_made, choice_made, loop_made, leaf_made}
use Rattle.polish.proofs.Deeper.{at_bottom_lighter, part_lighter as raised_part_lighter, one_higher}
use Rattle.polish.proofs.FollowedSeen.{raised_stays, raised_steps}
use Rattle.polish.proofs.ValuePut.{put_made}
use Rattle.polish.proofs.Onward.{skips_done, stands_done, puts_done, followed_on, last_lighter, sequence_most, onward_more, onward_ends, ends_lighter, turned_made, bottom_lighter}
use Rattle.polish.proofs.polishing.+polishing.Goals as goal
use Rattle.polish.proofs.polishing.+polishing.Goals.{raised-in-Stays, raised-in_default}

pub at_bottom-returns-in_ok-ahead-in-Skips : goal.at_bottom-returns-in_ok-ahead-in-Skips
at_bottom-returns-in_ok-ahead-in-Skips t c =
    let n = mon_of c.args.it.last.now in
    let xs = map string_bytes c.args.it.names.now in
    let fs = known_in c.args.facts.now in
    subst
    (λ j. IsFollowed c.args.unit c.args.scope.now fs n (ending c.args.unit c.args.scope.now fs xs n c.args.here (next_in j))
    (heavy xs n c.args.here) (W.TheVariants.Goes c.args.here.down c.in_ok-ahead-in-Skips.ahead))
    (sym c.in-Skips.is)
    (skips_done c.args.unit c.args.scope.now xs n fs c.args.here.down (before_in c.args.here.ahead) (walk_in c.args.here.walk)
    (mon_of c.args.here.first.now) c.in_ok-ahead-in-Skips.ahead c.requires c.in_ok-ahead-in-Skips.ensures)

pub at_bottom-returns-in_ok-p-in-Stands : goal.at_bottom-returns-in_ok-p-in-Stands
at_bottom-returns-in_ok-p-in-Stands t c =
    let n = mon_of c.args.it.last.now in
    let xs = map string_bytes c.args.it.names.now in
    let fs = known_in c.args.facts.now in
    subst
    (λ j. IsFollowed c.args.unit c.args.scope.now fs n (ending c.args.unit c.args.scope.now fs xs n c.args.here (next_in j))
    (heavy xs n c.args.here) (W.TheVariants.Ends c.args.here.down c.in_ok-p-in-Stands.p))
    (sym c.in-Stands.is)
    (stands_done c.args.unit c.args.scope.now xs n fs c.args.here.down (before_in c.args.here.ahead) (walk_in c.args.here.walk)
    (mon_of c.args.here.first.now) c.in_ok-p-in-Stands.p c.requires c.in_ok-p-in-Stands.ensures)

pub at_bottom-returns-in_ok-p-in-Puts-2 : goal.at_bottom-returns-in_ok-p-in-Puts-2
at_bottom-returns-in_ok-p-in-Puts-2 t c =
    let n = mon_of c.args.it.last.now in
    let xs = map string_bytes c.args.it.names.now in
    let fs = known_in c.args.facts.now in
    subst
    (λ j. IsFollowed c.args.unit c.args.scope.now fs n (ending c.args.unit c.args.scope.now fs xs n c.args.here (next_in j))
    (heavy xs n c.args.here) (W.TheVariants.Ends c.args.here.down c.in_ok-p-in-Puts-2.p))
    (sym c.in-Puts.is)
    (puts_done c.args.unit c.args.scope.now xs n fs c.args.here.down (before_in c.args.here.ahead) (walk_in c.args.here.walk)
    (mon_of c.args.here.first.now) c.in-Puts.position c.in_ok-ahead-in-Puts.ahead c.in_ok-p-in-Puts.p c.in_ok-p-in-Puts-2.p
    c.requires c.in_ok-ahead-in-Puts.ensures
    (subst
    (λ ps. made_in c.in_ok-p-in-Puts.p
    ≡ seen
    (stepped polished (point_past c.args.unit c.args.scope.now fs ps) (S.Puts c.in-Puts.position)
    (mon_of c.args.here.first.now) xs n))
    c.deref.ensures.value c.in_ok-p-in-Puts.ensures)
    c.in_ok-p-in-Puts-2.ensures)

pub climbed-raised-requires : goal.climbed-raised-requires
climbed-raised-requires t c =
    let parts : c.back.parts.items ≡ c.pop.new.self.items ++ c.in-Some.part ∷ [] = search rules in (
      omega (
        arith,
        c.decreases,
        raised_part_lighter c.args.unit c.args.scope.now (known_in c.args.facts.now) c.args.down (made_in c.args.last)
            c.pop-in-Some.new.self.items c.in-Some-pop.level c.pop.new.self.items c.in-Some.part c.back.levels.items
            c.back.parts.items (made_in c.back.new) parts c.back.invariant,
      ),
      tt,
    )

pub climbed-back-preserved : goal.climbed-back-preserved
climbed-back-preserved t c =
    let parts : c.back.parts.items ≡ c.pop.new.self.items ++ c.in-Some.part ∷ [] = search rules in
    let levels : c.back.levels.items ≡ c.pop-in-Some.new.self.items ++ c.in-Some-pop.level ∷ [] = search rules in
    let fs = known_in c.args.facts.now in
    one_higher c.args.unit c.args.scope.now fs c.args.down (made_in c.args.last) c.pop-in-Some.new.self.items
    c.in-Some-pop.level c.pop.new.self.items c.in-Some.part c.back.levels.items c.back.parts.items (made_in c.back.new) parts
    c.back.invariant levels (made_in c.in_ok-new.new)
    (subst
    (λ ps. made_in c.in_ok-new.new
    ≡ seen_raised polished (point_past c.args.unit c.args.scope.now fs ps) (stage_in c.in-Some-pop.level c.in-Some.part)
    (made_in c.back.new))
    c.deref.ensures.value c.in_ok-new.ensures)

pub followed-at_bottom-requires : goal.followed-at_bottom-requires
followed-at_bottom-requires t c =
    let xs = map string_bytes c.args.it.names.now in
    let n = mon_of c.args.it.last.now in (
      omega (
        arith,
        c.decreases,
        c.in_ok-here.ensures.lighter,
        ap (λ m. weight (rebuilt c.args.down.parts.items (M.Bind (mon_of m) xs n))) c.deref.ensures,
      ),
      c.in_ok-here.ensures.kept,
    )

pub followed-returns : goal.followed-returns
followed-returns t c =
    let n = mon_of c.args.it.last.now in
    let xs = map string_bytes c.args.it.names.now in
    let fs = known_in c.args.facts.now in
    IfOk-weaker c.at_bottom.result
    (λ f. IsFollowed c.args.unit c.args.scope.now fs n
    (ending c.args.unit c.args.scope.now fs xs n c.in_ok-here.field-0.here (next_in c.in_ok-here.field-0.next))
    (heavy xs n c.in_ok-here.field-0.here) f)
    _
    (λ f i. subst
    (λ m. IsFollowed c.args.unit c.args.scope.now fs n
    (up_from c.args.unit c.args.scope.now fs c.args.down
    (seen_followed polished (λ a. seen (polished a n)) (point_past c.args.unit c.args.scope.now fs c.args.down.parts.items)
    (before_in c.args.ahead) (walk_in c.args.tidy.walk) (mon_of c.args.it.first.now) (mon_of m) xs n))
    (weight (rebuilt c.args.down.parts.items (M.Bind (mon_of m) xs n))) f)
    c.deref.ensures
    (followed_on c.args.unit c.args.scope.now xs n fs _ c.in_ok-here.field-0 f c.in_ok-here.ensures i))
    c.at_bottom.ensures

pub polished-climbed-requires : goal.polished-climbed-requires
polished-climbed-requires t c =
    let fs = known_in c.args.facts.now in (
      omega (
        arith,
        c.decreases,
        last_lighter c.args.unit c.args.scope.now fs (mon_of c.args.m.now) c.along.down (before_in c.along.ahead)
            (mon_of c.along.rest.now) c.along.invariant (made_in c.in_ok-last.last) (made_in c.in_ok-last-2.last)
            (subst
            (λ ps. made_in c.in_ok-last.last
            ≡ seen (polished (point_past c.args.unit c.args.scope.now fs ps) (mon_of c.along.rest.now))) c.deref.ensures.value
            c.in_ok-last.ensures)
            c.in_ok-last-2.ensures,
      ),
      c.along.invariant.kept,
    )

pub polished-followed-requires : goal.polished-followed-requires
polished-followed-requires t c =
    let fs = known_in c.args.facts.now in (
      omega (
        arith,
        c.decreases,
        sequence_most c.args.unit c.args.scope.now fs (mon_of c.args.m.now) c.along.down (before_in c.along.ahead)
            (mon_of c.along.rest.now) c.along.invariant (mon_of c.in-Some.it.first.now) (map string_bytes c.in-Some.it.names.now)
            (mon_of c.in-Some.it.last.now) (made_in c.in_ok-first.first) c.in-Some.ensures.some
            (subst
            (λ ps. made_in c.in_ok-first.first
            ≡ seen (polished (point_past c.args.unit c.args.scope.now fs ps) (mon_of c.in-Some.it.first.now)))
            c.deref-in-along.ensures.value c.in_ok-first.ensures),
      ),
      c.along.invariant.kept,
    )

pub polished-along-preserved : goal.polished-along-preserved
polished-along-preserved t c =
    let fs = known_in c.args.facts.now in
    let x = mon_of c.in-Some.it.first.now in
    let xs = map string_bytes c.in-Some.it.names.now in
    let n = mon_of c.in-Some.it.last.now in
    let q = made_in c.in_ok-first.first in
    onward_more c.args.unit c.args.scope.now fs (mon_of c.args.m.now) c.along.down (before_in c.along.ahead)
    (mon_of c.along.rest.now) c.along.invariant x xs n q c.in-Some.ensures.some
    (subst
    (λ ps. q ≡ seen (polished (point_past c.args.unit c.args.scope.now fs ps) x)) c.deref-in-along.ensures.value
    c.in_ok-first.ensures)
    c.in-Goes.more c.in-Goes.before
    (subst
    (λ f. IsFollowed c.args.unit c.args.scope.now fs n
    (up_from c.args.unit c.args.scope.now fs c.along.down
    (seen_followed polished (λ a. seen (polished a n)) (point_past c.args.unit c.args.scope.now fs c.along.down.parts.items)
    (before_in c.along.ahead) q.walk x q.program xs n))
    (weight (rebuilt c.along.down.parts.items (M.Bind q.program xs n))) f)
    c.in-Goes.is c.in_ok-more.ensures)

pub polished-climbed-requires-in-Ends : goal.polished-climbed-requires-in-Ends
polished-climbed-requires-in-Ends t c =
    let fs = known_in c.args.facts.now in
    let x = mon_of c.in-Some.it.first.now in
    let xs = map string_bytes c.in-Some.it.names.now in
    let n = mon_of c.in-Some.it.last.now in
    let q = made_in c.in_ok-first.first in
    let ends : IsFollowed c.args.unit c.args.scope.now fs n
    (up_from c.args.unit c.args.scope.now fs c.along.down
    (seen_followed polished (λ a. seen (polished a n)) (point_past c.args.unit c.args.scope.now fs c.along.down.parts.items)
    (before_in c.along.ahead) q.walk x q.program xs n))
    (weight (rebuilt c.along.down.parts.items (M.Bind q.program xs n))) (W.TheVariants.Ends c.in-Ends.more c.in-Ends.last) =
    subst
    (λ f. IsFollowed c.args.unit c.args.scope.now fs n
    (up_from c.args.unit c.args.scope.now fs c.along.down
    (seen_followed polished (λ a. seen (polished a n)) (point_past c.args.unit c.args.scope.now fs c.along.down.parts.items)
    (before_in c.along.ahead) q.walk x q.program xs n))
    (weight (rebuilt c.along.down.parts.items (M.Bind q.program xs n))) f)
    c.in-Ends.is c.in_ok-more.ensures in (
      omega (
        arith,
        c.decreases,
        ends_lighter c.args.unit c.args.scope.now fs (mon_of c.args.m.now) c.along.down (before_in c.along.ahead)
            (mon_of c.along.rest.now) c.along.invariant x xs n q c.in-Some.ensures.some
            (subst
            (λ ps. q ≡ seen (polished (point_past c.args.unit c.args.scope.now fs ps) x)) c.deref-in-along.ensures.value
            c.in_ok-first.ensures)
            c.in-Ends.more c.in-Ends.last ends,
      ),
      ends.kept,
    )

pub polished-returns-in-Ends : goal.polished-returns-in-Ends
polished-returns-in-Ends t c =
    let fs = known_in c.args.facts.now in
    let x = mon_of c.in-Some.it.first.now in
    let xs = map string_bytes c.in-Some.it.names.now in
    let n = mon_of c.in-Some.it.last.now in
    let q = made_in c.in_ok-first.first in
    IfOk-weaker c.climbed-in-Ends.result
    (λ p. made_in p ≡ up_from c.args.unit c.args.scope.now fs c.in-Ends.more (made_in c.in-Ends.last)) _
    (λ p e. e
    ∙ onward_ends c.args.unit c.args.scope.now fs (mon_of c.args.m.now) c.along.down (before_in c.along.ahead)
    (mon_of c.along.rest.now) c.along.invariant x xs n q c.in-Some.ensures.some
    (subst
    (λ ps. q ≡ seen (polished (point_past c.args.unit c.args.scope.now fs ps) x)) c.deref-in-along.ensures.value
    c.in_ok-first.ensures)
    c.in-Ends.more c.in-Ends.last
    (subst
    (λ f. IsFollowed c.args.unit c.args.scope.now fs n
    (up_from c.args.unit c.args.scope.now fs c.along.down
    (seen_followed polished (λ a. seen (polished a n)) (point_past c.args.unit c.args.scope.now fs c.along.down.parts.items)
    (before_in c.along.ahead) q.walk x q.program xs n))
    (weight (rebuilt c.along.down.parts.items (M.Bind q.program xs n))) f)
    c.in-Ends.is c.in_ok-more.ensures))
    c.climbed-in-Ends.ensures

pub polished_behind-returns : goal.polished_behind-returns
polished_behind-returns t c =
    subst
    (λ fs. IfOk c.polished.result (λ p. made_in p
    ≡ seen (polished (point fs (setting_past c.args.unit c.args.scope.now c.args.parts.now)) (mon_of c.args.m.now))))
    c.in_ok-known.ensures c.polished.ensures

pub put_in-returns : goal.put_in-returns
put_in-returns t c =
    let at = point_behind c.args.unit c.args.scope.now c.args.facts.now c.args.parts.now in
    let m = mon_of c.args.first.now in
    let xs = map string_bytes c.args.names.now in
    let n = mon_of c.args.rest.now in
    let p = mon_of c.in-Some.program.value in
    let same : c.in-Ok.position ≡ c.args.position = search rules in
    let put : put_into c.args.position m xs n ≡ Some p = search rules in
    let ahead : before_in c.in_ok-ahead.ahead ≡ and_led Nothing (one_walk (leaf (R.RetOne c.args.position))) p =
    c.in_ok-ahead.ensures
    ∙ ap (λ w. and_led Nothing w p)
    (c.one.ensures ∙ ap (λ t. one_walk t) (c.leaf-tree.ensures ∙ ap (λ i. leaf (R.RetOne i)) same)) in
    IfOk-weaker c.joined.result (λ q. made_in q ≡ after_before (before_in c.in_ok-ahead.ahead) (made_in c.in_ok-p.p)) _
    (λ q e. e ∙ ap (λ b. after_before b (made_in c.in_ok-p.p)) ahead
    ∙ put_made at c.args.position m xs n p (made_in c.in_ok-p.p) put
    (c.in_ok-p.ensures ∙ ap (λ r. seen (polished at (mon_of r))) c.deref.ensures))
    c.joined.ensures

pub raised-returns-then-matches : goal.raised-returns-then-matches
raised-returns-then-matches t c =
    let at = point_behind c.args.unit c.args.scope.now c.args.facts.now c.args.parts.now in
    let m = mon_of c.args.part.first.value in
    let xs = map string_bytes c.args.part.names.items in
    let n = mon_of c.args.last.program.value in
    let program : mon_of c.in_ok-program.program.value ≡ M.Bind m xs n = search rules in
    let told : settling_in c.settling_of-next.result ≡ settling_of m xs n =
    c.settling_of-next.ensures
    ∙ ap (λ a. settling_of (mon_of a) (map string_bytes c.deref-2.result.now) (mon_of c.deref-3.result.now)) c.deref.ensures
    ∙ ap (λ ys. settling_of m (map string_bytes ys) (mon_of c.deref-3.result.now)) c.deref-2.ensures.value
    ∙ ap (λ a. settling_of m xs (mon_of a)) c.deref-3.ensures in
    let stays : settling_in c.settling_of-next.result ≡ S.Stays =
    elim c.match-matches.branch [ raised-in-Stays w ↦ ap settling_in w.in-Stays.is | raised-in_default w ↦ absurd cc ] in
    IfOk-weaker c.joined.result
    (λ q. made_in q
    ≡ after_before (before_in c.args.level.before) (walked (mon_of c.in_ok-program.program.value) (walk_in c.in_ok-walk.walk)))
    _
    (λ q e. e
    ∙ ap₂ (λ r w. after_before (before_in c.args.level.before) (walked r w)) program c.in_ok-walk.ensures
    ∙ sym (raised_stays polished at (stage_in c.args.level c.args.part) (made_in c.args.last) (sym told ∙ stays)))
    c.joined.ensures

pub raised-returns : goal.raised-returns
raised-returns t c =
    let at = point_behind c.args.unit c.args.scope.now c.args.facts.now c.args.parts.now in
    let m = mon_of c.args.part.first.value in
    let xs = map string_bytes c.args.part.names.items in
    let n = mon_of c.args.last.program.value in
    let told : settling_in c.settling_of-next.result ≡ settling_of m xs n =
    c.settling_of-next.ensures
    ∙ ap (λ a. settling_of (mon_of a) (map string_bytes c.deref-2.result.now) (mon_of c.deref-3.result.now)) c.deref.ensures
    ∙ ap (λ ys. settling_of m (map string_bytes ys) (mon_of c.deref-3.result.now)) c.deref-2.ensures.value
    ∙ ap (λ a. settling_of m xs (mon_of a)) c.deref-3.ensures in
    let before : before_in c.in_ok-before.before
    ≡ and_led (before_in c.args.level.before) (over_bind (walk_in c.args.level.walk) (walk_in c.args.last.walk)) (M.Bind m xs n) =
    c.in_ok-before.ensures
    ∙ ap
    (λ w. and_led (before_in c.args.level.before) w
    (M.Bind (mon_of c.deref-4.result.now) (map string_bytes c.deref-5.result.now) (mon_of c.deref-6.result.now)))
    c.in_ok-walk.ensures
    ∙ ap
    (λ a. and_led (before_in c.args.level.before) (over_bind (walk_in c.args.level.walk) (walk_in c.args.last.walk))
    (M.Bind (mon_of a) (map string_bytes c.deref-5.result.now) (mon_of c.deref-6.result.now)))
    c.deref-4.ensures
    ∙ ap
    (λ ys. and_led (before_in c.args.level.before) (over_bind (walk_in c.args.level.walk) (walk_in c.args.last.walk))
    (M.Bind m (map string_bytes ys) (mon_of c.deref-6.result.now)))
    c.deref-5.ensures.value
    ∙ ap
    (λ a. and_led (before_in c.args.level.before) (over_bind (walk_in c.args.level.walk) (walk_in c.args.last.walk))
    (M.Bind m xs (mon_of a)))
    c.deref-6.ensures in
    IfOk-weaker c.joined-2.result (λ q. made_in q ≡ after_before (before_in c.in_ok-before.before) (made_in c.in_ok-p.p)) _
    (λ q e. e
    ∙ ap₂ (λ b s. after_before b s) before
    (c.in_ok-p.ensures
    ∙ ap₂ (λ s ys. seen (stepped polished at s m (map string_bytes ys) n)) told c.deref-7.ensures.value)
    ∙ sym (raised_steps polished at (stage_in c.args.level c.args.part) (made_in c.args.last)))
    c.joined-2.ensures

pub turned-stepped-requires : goal.turned-stepped-requires
turned-stepped-requires t c = (
  omega (
    arith,
    c.decreases,
    c.in_ok-down.ensures.lighter,
    at_bottom_lighter c.in_ok-down.field-0.down.parts.items
        (M.Bind (mon_of c.in_ok-down.field-0.first.now) (map string_bytes c.args.names.now) (mon_of c.args.rest.now)),
    ap weight c.in_ok-first.ensures,
    ap weight c.in_ok-last.ensures,
  ),
  tt,
)

pub turned-climbed-requires : goal.turned-climbed-requires
turned-climbed-requires t c =
    let outer = N.Behind c.args.scope c.args.parts in
    let fs = known_in c.in_ok-known.known in
    let xs = map string_bytes c.args.names.now in
    let n = mon_of c.args.rest.now in
    let d = c.in_ok-down.field-0.down in
    let s = settling_in c.settling_of-next.result in (
      omega (
        arith,
        c.decreases,
        bottom_lighter c.args.unit outer xs n fs d (mon_of c.args.inner.first.now) (map string_bytes c.args.inner.names.now)
            (mon_of c.args.inner.last.now) (mon_of c.in_ok-down.field-0.first.now) c.in_ok-down.ensures s (made_in c.in_ok-p.p)
            c.settling_of-next.ensures
            (c.in_ok-p.ensures
            ∙ ap
            (λ ps. seen
            (stepped polished (point_past c.args.unit outer fs ps) s (mon_of c.in_ok-first.first.value) xs
            (mon_of c.in_ok-last.last.value))) c.deref.ensures.value
            ∙ ap₂ (λ p q. seen (stepped polished (point_past c.args.unit outer fs d.parts.items) s p xs q)) c.in_ok-first.ensures
            c.in_ok-last.ensures),
      ),
      c.in_ok-down.ensures.kept,
    )

pub turned-returns : goal.turned-returns
turned-returns t c =
    let outer = N.Behind c.args.scope c.args.parts in
    let fs = known_in c.in_ok-known.known in
    let a = mon_of c.args.inner.first.now in
    let zs = map string_bytes c.args.inner.names.now in
    let b = mon_of c.args.inner.last.now in
    let xs = map string_bytes c.args.names.now in
    let n = mon_of c.args.rest.now in
    let d = c.in_ok-down.field-0.down in
    let s = settling_in c.settling_of-next.result in
    IfOk-weaker c.climbed.result (λ q. made_in q ≡ up_from c.args.unit outer fs d (made_in c.in_ok-p.p)) _
    (λ q e. e
    ∙ turned_made c.args.unit outer xs n fs d a zs b (mon_of c.in_ok-down.field-0.first.now) c.in_ok-down.ensures s
    (made_in c.in_ok-p.p) c.settling_of-next.ensures
    (c.in_ok-p.ensures
    ∙ ap
    (λ ps. seen
    (stepped polished (point_past c.args.unit outer fs ps) s (mon_of c.in_ok-first.first.value) xs
    (mon_of c.in_ok-last.last.value))) c.deref.ensures.value
    ∙ ap₂ (λ p q. seen (stepped polished (point_past c.args.unit outer fs d.parts.items) s p xs q)) c.in_ok-first.ensures
    c.in_ok-last.ensures)
    ∙ ap
    (λ fs. let at = point fs (setting_past c.args.unit c.args.scope.now c.args.parts.now) in
    seen (turned a zs b xs n (bound polished (behind a zs at) b xs n) (λ r. bound polished at a zs r)))
    c.in_ok-known.ensures)
    c.climbed.ensures

pub turning-returns : goal.turning-returns
turning-returns t c = λ fs.
    let m = mon_of c.args.body.now in
    let k = turn_of c.in-Some.turn in
    let turn : turn_in (mon_of c.args.after.now) ≡ Some k = search rules in
    let known : known_in c.with.result ≡ Whole k.test ∷ Whole k.guard ∷ [] =
    c.with.ensures.facts
    ∙ ap (λ gs. Whole k.test ∷ gs) (c.with-known.ensures.facts ∙ ap (λ gs. Whole k.guard ∷ gs) c.new-none.ensures.facts) in
    IfOk-weaker c.with_body.result
    (λ q. made_in q
    ≡ walked (M.Loop k.starts k.guard k.test (mon_of c.in_ok-p.p.program.value)) (over_one R.Loop (walk_in c.in_ok-p.p.walk)))
    _
    (λ q e. e
    ∙ body_made (point fs (setting_in c.args.scope.now c.args.unit)) m (λ a. polished a m) (mon_of c.args.after.now) k
    (made_in c.in_ok-p.p) c.requires turn
    (c.in_ok-p.ensures
    ∙ ap
    (λ gs. seen (polished (point gs (setting_in (N.Within c.args.scope c.deref.result) c.args.unit)) m)) known
    ∙ ap
    (λ bs. seen
    (polished
    (point (Whole k.test ∷ Whole k.guard ∷ [])
    (setting_over c.args.unit (names_with (names_of bs) (scalars_of bs) (λ y. names_in c.args.scope.now y)))) m))
    c.deref.ensures.value
    ∙ ap (λ names. seen (polished (point (Whole k.test ∷ Whole k.guard ∷ []) (setting_over c.args.unit names)) m))
    (c.in_ok-bound.ensures (λ y. names_in c.args.scope.now y))))
    c.with_body.ensures

pub choice-returns-in_ok-p-in-Some-true : goal.choice-returns-in_ok-p-in-Some-true
choice-returns-in_ok-p-in-Some-true t c =
    let m = mon_of c.args.first.now in
    let n = mon_of c.args.last.now in
    let e = exp_of c.in-Some.test.now in
    let test : test_in (mon_of c.args.after.now) ≡ Some e = search rules in
    let holds : chosen_in e ≡ Some true = search rules in
    IfOk-weaker c.taken_branch.result
    (λ q. made_in q ≡ after_before (and_led Nothing (one_walk (leaf R.IfConst)) m) (made_in c.in_ok-p-in-Some-true.p)) _
    (λ q h. h ∙ ap (λ s. after_before (and_led Nothing (one_walk (leaf R.IfConst)) m) s) c.in_ok-p-in-Some-true.ensures
    ∙ first_taken (point_in c.args.unit c.args.scope.now c.args.facts.now) m n (λ a. polished a m) (λ a. polished a n)
    (mon_of c.args.after.now) e c.requires test holds)
    c.taken_branch.ensures

pub choice-returns-in_ok-p-in-Some-false : goal.choice-returns-in_ok-p-in-Some-false
choice-returns-in_ok-p-in-Some-false t c =
    let m = mon_of c.args.first.now in
    let n = mon_of c.args.last.now in
    let e = exp_of c.in-Some.test.now in
    let test : test_in (mon_of c.args.after.now) ≡ Some e = search rules in
    let fails : chosen_in e ≡ Some false = search rules in
    IfOk-weaker c.taken_branch-in-Some-false.result
    (λ q. made_in q ≡ after_before (and_led Nothing (one_walk (leaf R.IfConst)) n) (made_in c.in_ok-p-in-Some-false.p)) _
    (λ q h. h ∙ ap (λ s. after_before (and_led Nothing (one_walk (leaf R.IfConst)) n) s) c.in_ok-p-in-Some-false.ensures
    ∙ second_taken (point_in c.args.unit c.args.scope.now c.args.facts.now) m n (λ a. polished a m) (λ a. polished a n)
    (mon_of c.args.after.now) e c.requires test fails)
    c.taken_branch-in-Some-false.ensures

pub choice-returns-in_ok-q-in-None : goal.choice-returns-in_ok-q-in-None
choice-returns-in_ok-q-in-None t c =
    let m = mon_of c.args.first.now in
    let n = mon_of c.args.last.now in
    let e = exp_of c.in-Some.test.now in
    let test : test_in (mon_of c.args.after.now) ≡ Some e = search rules in
    let open_yet : chosen_in e ≡ None = search rules in
    let T = setting_in c.args.scope.now c.args.unit in
    IfOk-weaker c.with_branches.result
    (λ q. made_in q
    ≡ walked (M.If e (mon_of c.in_ok-p-in-None.p.program.value) (mon_of c.in_ok-q-in-None.q.program.value))
    (over_two R.If (walk_in c.in_ok-p-in-None.p.walk) (walk_in c.in_ok-q-in-None.q.walk)))
    _
    (λ q h. h
    ∙ both_made (point_in c.args.unit c.args.scope.now c.args.facts.now) m n (λ a. polished a m) (λ a. polished a n)
    (mon_of c.args.after.now) e (made_in c.in_ok-p-in-None.p) (made_in c.in_ok-q-in-None.q) c.requires test open_yet
    (c.in_ok-p-in-None.ensures ∙ ap (λ fs. seen (polished (point fs T) m)) c.with.ensures.facts)
    (c.in_ok-q-in-None.ensures ∙ ap (λ fs. seen (polished (point fs T) n)) c.with-in-None.ensures.facts))
    c.with_branches.ensures

pub single-returns-in_ok-p-in-Branches : goal.single-returns-in_ok-p-in-Branches
single-returns-in_ok-p-in-Branches t c =
    let T = setting_past c.args.unit c.args.scope.now c.args.parts.now in
    let at = point (known_in c.in_ok-known.known) T in
    let x = mon_of c.args.m.now in
    let r = rewritten_in c.in_ok-new.new x in
    let a = mon_of c.deref.result.now in
    let b = mon_of c.deref-in-Branches.result.now in
    let branches : IsIf a b x =
    subst (λ p. IsIf (mon_of p) b x) (sym c.deref.ensures)
    (subst (λ q. IsIf (mon_of c.in-Branches.first.now.value) (mon_of q) x) (sym c.deref-in-Branches.ensures)
    c.in-Branches.ensures) in
    IfOk-weaker c.behind.result (λ q. made_in q ≡ then_walked r.walk r.program (made_in c.in_ok-p-in-Branches.p)) _
    (λ q e. e
    ∙ ap (λ s. then_walked r.walk r.program s)
    (c.in_ok-p-in-Branches.ensures
    ∙ ap (λ y. seen (chosen at y (λ c. polished c a) (λ c. polished c b))) c.after_steps-after.ensures)
    ∙ choice_made at r a b x branches c.in_ok-new.ensures
    ∙ ap (λ fs. seen (polished (point fs T) x)) c.in_ok-known.ensures)
    (c.behind.ensures x)

pub single-returns-in_ok-p-in-Body : goal.single-returns-in_ok-p-in-Body
single-returns-in_ok-p-in-Body t c =
    let T = setting_past c.args.unit c.args.scope.now c.args.parts.now in
    let at = point (known_in c.in_ok-known.known) T in
    let x = mon_of c.args.m.now in
    let r = rewritten_in c.in_ok-new.new x in
    let a = mon_of c.deref-in-Body.result.now in
    let body : IsLoop a x = subst (λ p. IsLoop (mon_of p) x) (sym c.deref-in-Body.ensures) c.in-Body.ensures in
    IfOk-weaker c.behind-in-Body.result (λ q. made_in q ≡ then_walked r.walk r.program (made_in c.in_ok-p-in-Body.p)) _
    (λ q e. e
    ∙ ap (λ s. then_walked r.walk r.program s)
    (c.in_ok-p-in-Body.ensures (known_in c.in_ok-known.known)
    ∙ ap (λ y. seen (turning at y (λ c. polished c a))) c.after_steps.ensures)
    ∙ loop_made at r a x body c.in_ok-new.ensures
    ∙ ap (λ fs. seen (polished (point fs T) x)) c.in_ok-known.ensures)
    (c.behind-in-Body.ensures x)

pub single-returns-in-Nothing : goal.single-returns-in-Nothing
single-returns-in-Nothing t c =
    let T = setting_past c.args.unit c.args.scope.now c.args.parts.now in
    let at = point (known_in c.in_ok-known.known) T in
    let x = mon_of c.args.m.now in
    let r = rewritten_in c.in_ok-new.new x in
    IfOk-weaker c.whole.result (λ q. made_in q ≡ r) _
    (λ q e. e ∙ leaf_made at r x c.in-Nothing.ensures c.in_ok-new.ensures
    ∙ ap (λ fs. seen (polished (point fs T) x)) c.in_ok-known.ensures)
    c.whole.ensures
