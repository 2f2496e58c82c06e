-- Each rule's instances: what is asked of them, and then their parts.
use Rattle.std.proofs.Common.{◌≡◌, rules, true, [], ◌∷◌, map, string_bytes, ap, ap₂, refl, sym, ◌∙◌, subst, arith}
use Rattle.expression_lang.specs.CodeExpression.{exp_of}
use Rattle.expression_lang.specs.Sort.{sort_of, is_truth}
use Rattle.ac_expr.specs.Fact.{Whole, NotTrue}
use Rattle.ac_expr.specs.CodeChain.{facts_of}
use Rattle.monad_lang.specs.Program as M
use Rattle.monad_lang.specs.Run.{start_names}
use Rattle.monad_lang.specs.CodeProgram.{mon_of, start_of}
use Rattle.monad_sorts.specs.CodeInside.{no_names, setting_in}
use Rattle.monad_sorts.specs.CodeTold.{names_after}
use Rattle.rule_trees.specs.RuleTree.{Checked, node, next}
use Rattle.entailment.proofs.Sorts.{assertion_sorted}
use Rattle.triple_lang.specs.Deriv as R
use Rattle.triple_lang.specs.Deriv.{Names, entailed, derived}
use Rattle.triple_lang.specs.CodeDeriv.{shows, trees, tree_of}
use Rattle.hoare_check.specs.DeriveTable.{Asserts, are_free_for, behind, scope, table, within}
use Rattle.hoare_check.specs.CodePosed.{IsPosed, ground_of}
use Rattle.hoare_check.specs.CodeResults.{names_of}
use Rattle.hoare_check.specs.CodeScoping.{names_in}
use Rattle.hoare_check.proofs.NodeParts.{told_err}
use Rattle.hoare_check.proofs.DeriveRows.{bind_refused, bind_found, bind_bad, case_found}
use Rattle.hoare_check.proofs.LoopChecked.{BeginsWith, EndsWith, loop_refused, loop_unbegun, loop_unguarded, loop_unkept, loop_found}
use Rattle.hoare_check.proofs.PassedNames.{bound_behind, bound_within}
use Rattle.hoare_check.proofs.Posing.{bind_first, bind_last, choice_posed, turn_guard, turn_posed}
use Rattle.hoare_check.proofs.derivations.+derived.Goals.{derived_bind-then-not-asserts-via-then-not-asserts, derived_bind-then-not-asserts-via-else-not-asserts+then-not-are_free_for, derived_loop-then-not-begins_with-via-then-not-begins_with, derived_loop-then-not-begins_with-via-else-not-begins_with+then-not-ends_with}
use Rattle.hoare_check.proofs.derivations.+derived.Goals as goal

-- trees of each rule

pub derived-returns-in-Bind : goal.derived-returns-in-Bind
derived-returns-in-Bind g t c =
    let k = ground_of c.args.ground.now in
    let claim = derived (names_in g.N.Scope.scalars c.args.names.now) (facts_of g.S.Sequence.parts c.args.facts.now) (mon_of c.args.m.now)
    (names_of c.args.results) (exp_of c.args.post.now) in
    let there : tree_of c.args.tree.now ≡ node (R.Bind (exp_of c.deref-in-Bind.result.now))
    (trees (tree_of c.deref-in-Bind-2.result.now ∷ tree_of c.deref-in-Bind-3.result.now ∷ [])) = cc (ap tree_of c.in-Bind.is) in
    subst (λ u. Checked (table k) u claim c.args.at c.derived_bind.result) (sym there) c.derived_bind.ensures

pub derived-returns-in-Ret : goal.derived-returns-in-Ret
derived-returns-in-Ret g t c =
    let k = ground_of c.args.ground.now in
    let claim = derived (names_in g.N.Scope.scalars c.args.names.now) (facts_of g.S.Sequence.parts c.args.facts.now) (mon_of c.args.m.now)
    (names_of c.args.results) (exp_of c.args.post.now) in
    let there : tree_of c.args.tree.now ≡ node (R.Ret (exp_of c.deref.result.now))
    (trees (shows c.deref-in-Ret.result.now ∷ [])) = cc (ap tree_of c.in-Ret.is) in
    subst (λ u. Checked (table k) u claim c.args.at c.derived_ret.result) (sym there) c.derived_ret.ensures

pub derived-returns-in-Loop : goal.derived-returns-in-Loop
derived-returns-in-Loop g t c =
    let k = ground_of c.args.ground.now in
    let claim = derived (names_in g.N.Scope.scalars c.args.names.now) (facts_of g.S.Sequence.parts c.args.facts.now) (mon_of c.args.m.now)
    (names_of c.args.results) (exp_of c.args.post.now) in
    let there : tree_of c.args.tree.now ≡ node (R.Loop (exp_of c.deref-in-Loop.result.now) (exp_of c.deref-in-Loop-2.result.now) (exp_of c.deref-in-Loop-6.result.now))
    (trees (shows c.deref-in-Loop-3.result.now ∷ shows c.deref-in-Loop-4.result.now ∷ tree_of c.deref-in-Loop-5.result.now ∷ shows c.deref-in-Loop-7.result.now ∷ [])) = cc (ap tree_of c.in-Loop.is) in
    subst (λ u. Checked (table k) u claim c.args.at c.derived_loop.result) (sym there) c.derived_loop.ensures

pub derived-returns-in-Call : goal.derived-returns-in-Call
derived-returns-in-Call g t c =
    let k = ground_of c.args.ground.now in
    let claim = derived (names_in g.N.Scope.scalars c.args.names.now) (facts_of g.S.Sequence.parts c.args.facts.now) (mon_of c.args.m.now)
    (names_of c.args.results) (exp_of c.args.post.now) in
    let there : tree_of c.args.tree.now ≡ node (R.Call c.in-Call.triple (map exp_of c.deref-in-Call.result.now) (exp_of c.deref-in-Call-2.result.now) (exp_of c.deref-in-Call-4.result.now))
    (trees (shows c.deref-in-Call-3.result.now ∷ shows c.deref-in-Call-5.result.now ∷ [])) = cc (ap tree_of c.in-Call.is) in
    subst (λ u. Checked (table k) u claim c.args.at c.derived_call.result) (sym there) c.derived_call.ensures

pub derived-returns-in-Write : goal.derived-returns-in-Write
derived-returns-in-Write g t c =
    let k = ground_of c.args.ground.now in
    let claim = derived (names_in g.N.Scope.scalars c.args.names.now) (facts_of g.S.Sequence.parts c.args.facts.now) (mon_of c.args.m.now)
    (names_of c.args.results) (exp_of c.args.post.now) in
    let there : tree_of c.args.tree.now ≡ node (R.Write (exp_of c.deref-in-Write.result.now))
    (trees (shows c.deref-in-Write-2.result.now ∷ [])) = cc (ap tree_of c.in-Write.is) in
    subst (λ u. Checked (table k) u claim c.args.at c.derived_write.result) (sym there) c.derived_write.ensures

pub derived-returns-in-Gset : goal.derived-returns-in-Gset
derived-returns-in-Gset g t c =
    let k = ground_of c.args.ground.now in
    let claim = derived (names_in g.N.Scope.scalars c.args.names.now) (facts_of g.S.Sequence.parts c.args.facts.now) (mon_of c.args.m.now)
    (names_of c.args.results) (exp_of c.args.post.now) in
    let there : tree_of c.args.tree.now ≡ node (R.Gset (exp_of c.deref-in-Gset.result.now))
    (trees (shows c.deref-in-Gset-2.result.now ∷ [])) = cc (ap tree_of c.in-Gset.is) in
    subst (λ u. Checked (table k) u claim c.args.at c.derived_gset.result) (sym there) c.derived_gset.ensures

-- one program after another

pub derived_bind-derived-requires : goal.derived_bind-derived-requires
derived_bind-derived-requires g t c κs within =
    let k = ground_of c.args.ground.now in
    let ns = names_in g.N.Scope.scalars c.args.names.now in
    let xs = names_of c.args.results in
    let q = exp_of c.args.post.now in
    let m = mon_of c.deref-2.result.now in
    let ys = map string_bytes c.deref.result.now in
    let n = mon_of c.in-Bind.rest.value in
    let is : mon_of c.args.m.now ≡ M.Bind m ys n = search rules in
    let posed = subst (λ p. IsPosed k ns p xs q) is c.requires in
    let asserted = subst (λ (ms : Names). Asserts k ms (exp_of c.args.between.now))
    (bound_behind k ns c.setting.result c.setting.ensures (mon_of c.args.m.now) m ys n xs q is posed) (c.asserts.ensures.0 c.if-not-asserts.false) in
    (omega (arith, c.decreases), (within.0, (within.1, bind_first k ns m ys n xs q posed (exp_of c.args.between.now) asserted)))

pub derived_bind-returns-then-not-asserts : goal.derived_bind-returns-then-not-asserts
derived_bind-returns-then-not-asserts g t c =
    let k = ground_of c.args.ground.now in
    let ns = names_in g.N.Scope.scalars c.args.names.now in
    let fs = facts_of g.S.Sequence.parts c.args.facts.now in
    let xs = names_of c.args.results in
    let q = exp_of c.args.post.now in
    let whole = mon_of c.args.m.now in
    let ys = map string_bytes c.deref.result.now in
    let m = mon_of c.in-Bind.program.value in
    let n = mon_of c.in-Bind.rest.value in
    let is : whole ≡ M.Bind m ys n = ap mon_of c.in-Bind.is ∙ ap (λ bs. M.Bind (mon_of c.in-Bind.program.value) (map string_bytes bs) (mon_of c.in-Bind.rest.value)) (sym c.deref.ensures.value) in
    let posed = subst (λ p. IsPosed k ns p xs q) is c.requires in
    let ms : Names = names_after (setting_in c.setting.result no_names) 1 ns whole in
    let inner : ms ≡ behind k m ys ns = bound_behind k ns c.setting.result c.setting.ensures whole m ys n xs q is posed in
    let e = exp_of c.args.between.now in
    let never : Asserts k ms e × (are_free_for ys xs q ≡ true) → ⊥ = λ h.
    elim c.then-not-asserts.branch [
      | derived_bind-then-not-asserts-via-then-not-asserts w ↦ let yes = c.asserts.ensures.1 h.0 in let no = w.if-not-asserts.true in cc
      | derived_bind-then-not-asserts-via-else-not-asserts+then-not-are_free_for w ↦
          let yes = h.1 in let free = w.are_free_for.ensures in let no = w.if-not-are_free_for.true in cc
    ] in
    bind_refused k ns fs whole xs q c.args.at e m ys n is ms inner never (trees (tree_of c.args.first.now ∷ tree_of c.args.last.now ∷ []))

pub derived_bind-returns-in_err-behind : goal.derived_bind-returns-in_err-behind
derived_bind-returns-in_err-behind g t c =
    let k = ground_of c.args.ground.now in
    let ns = names_in g.N.Scope.scalars c.args.names.now in
    let fs = facts_of g.S.Sequence.parts c.args.facts.now in
    let xs = names_of c.args.results in
    let q = exp_of c.args.post.now in
    let whole = mon_of c.args.m.now in
    let ys = map string_bytes c.deref.result.now in
    let m = mon_of c.deref-2.result.now in
    let n = mon_of c.in-Bind.rest.value in
    let is : whole ≡ M.Bind m ys n = ap mon_of c.in-Bind.is ∙ ap₂ (λ p bs. M.Bind (mon_of p) (map string_bytes bs) (mon_of c.in-Bind.rest.value)) (sym c.deref-2.ensures) (sym c.deref.ensures.value) in
    let posed = subst (λ p. IsPosed k ns p xs q) is c.requires in
    let ms : Names = names_after (setting_in c.setting.result no_names) 1 ns whole in
    let inner : ms ≡ behind k m ys ns = bound_behind k ns c.setting.result c.setting.ensures whole m ys n xs q is posed in
    let e = exp_of c.args.between.now in
    subst (λ r. Checked (table k) (node (R.Bind e) (trees (tree_of c.args.first.now ∷ tree_of c.args.last.now ∷ []))) (derived ns fs whole xs q) c.args.at r)
    (told_err c.from_residual.result c.in_err-behind.field-0.0 c.from_residual.ensures.1)
    (bind_bad k ns fs whole xs q c.args.at c.next.result c.next.ensures e m ys n is ms inner (c.asserts.ensures.0 c.if-not-asserts.false)
    (sym c.are_free_for.ensures ∙ c.if-not-are_free_for.false) (tree_of c.args.first.now) (tree_of c.args.last.now) c.derived.result c.in_err-behind.field-0.0
    c.derived.ensures c.in_err-behind.was)

pub derived_bind-derived_knowing-requires : goal.derived_bind-derived_knowing-requires
derived_bind-derived_knowing-requires g t c κs within =
    let k = ground_of c.args.ground.now in
    let ns = names_in g.N.Scope.scalars c.args.names.now in
    let fs = facts_of g.S.Sequence.parts c.args.facts.now in
    let xs = names_of c.args.results in
    let q = exp_of c.args.post.now in
    let whole = mon_of c.args.m.now in
    let ys = map string_bytes c.deref.result.now in
    let m = mon_of c.deref-2.result.now in
    let n = mon_of c.deref-3.result.now in
    let is : whole ≡ M.Bind m ys n = ap mon_of c.in-Bind.is ∙ ap₂ (λ p bs. M.Bind (mon_of p) (map string_bytes bs) (mon_of c.in-Bind.rest.value)) (sym c.deref-2.ensures) (sym c.deref.ensures.value)
    ∙ ap (λ p. M.Bind (mon_of c.deref-2.result.now) (map string_bytes c.deref.result.now) (mon_of p)) (sym c.deref-3.ensures) in
    let posed = subst (λ p. IsPosed k ns p xs q) is c.requires in
    let ms : Names = names_after (setting_in c.setting.result no_names) 1 ns whole in
    let inner : ms ≡ behind k m ys ns = bound_behind k ns c.setting.result c.setting.ensures whole m ys n xs q is posed in
    let e = exp_of c.args.between.now in
    let there = subst (λ (ls : Names). IsPosed k ls n xs q) (sym inner) (bind_last k ns m ys n xs q posed (sym c.are_free_for.ensures ∙ c.if-not-are_free_for.false)) in
    (omega (arith, c.decreases), (within.0, (within.1, there)))

pub derived_bind-returns : goal.derived_bind-returns
derived_bind-returns g t c =
    let k = ground_of c.args.ground.now in
    let ns = names_in g.N.Scope.scalars c.args.names.now in
    let fs = facts_of g.S.Sequence.parts c.args.facts.now in
    let xs = names_of c.args.results in
    let q = exp_of c.args.post.now in
    let whole = mon_of c.args.m.now in
    let ys = map string_bytes c.deref.result.now in
    let m = mon_of c.deref-2.result.now in
    let n = mon_of c.deref-3.result.now in
    let is : whole ≡ M.Bind m ys n = ap mon_of c.in-Bind.is ∙ ap₂ (λ p bs. M.Bind (mon_of p) (map string_bytes bs) (mon_of c.in-Bind.rest.value)) (sym c.deref-2.ensures) (sym c.deref.ensures.value)
    ∙ ap (λ p. M.Bind (mon_of c.deref-2.result.now) (map string_bytes c.deref.result.now) (mon_of p)) (sym c.deref-3.ensures) in
    let posed = subst (λ p. IsPosed k ns p xs q) is c.requires in
    let ms : Names = names_after (setting_in c.setting.result no_names) 1 ns whole in
    let inner : ms ≡ behind k m ys ns = bound_behind k ns c.setting.result c.setting.ensures whole m ys n xs q is posed in
    let e = exp_of c.args.between.now in
    bind_found k ns fs whole xs q c.args.at c.next.result c.next.ensures e m ys n is ms inner (c.asserts.ensures.0 c.if-not-asserts.false)
    (sym c.are_free_for.ensures ∙ c.if-not-are_free_for.false) (tree_of c.args.first.now) (tree_of c.args.last.now) c.derived.result c.in_ok-behind.behind
    c.derived_knowing.result c.derived.ensures c.in_ok-behind.was
    (subst (λ hs. Checked (table k) (tree_of c.args.last.now) (derived ms (Whole e ∷ hs) n xs q) c.in_ok-behind.behind c.derived_knowing.result) c.no_facts.ensures
    c.derived_knowing.ensures)

-- a choice

pub derived_if-derived_knowing-requires-2 : goal.derived_if-derived_knowing-requires-2
derived_if-derived_knowing-requires-2 g t c κs within =
    let k = ground_of c.args.ground.now in
    let ns = names_in g.N.Scope.scalars c.args.names.now in
    let fs = facts_of g.S.Sequence.parts c.args.facts.now in
    let xs = names_of c.args.results in
    let q = exp_of c.args.post.now in
    let whole = mon_of c.args.m.now in
    let e = exp_of c.in-If.test in
    let m = mon_of c.deref.result.now in
    let n = mon_of c.deref-2.result.now in
    let is : whole ≡ M.If e m n = ap mon_of c.in-If.is ∙ ap₂ (λ p r. M.If e (mon_of p) (mon_of r)) (sym c.deref.ensures) (sym c.deref-2.ensures) in
    let posed = subst (λ p. IsPosed k ns p xs q) is c.requires in
    (omega (arith, c.decreases), (within.0, (within.1, (choice_posed k ns e m n xs q posed).1)))

pub derived_if-returns : goal.derived_if-returns
derived_if-returns g t c =
    let k = ground_of c.args.ground.now in
    let ns = names_in g.N.Scope.scalars c.args.names.now in
    let fs = facts_of g.S.Sequence.parts c.args.facts.now in
    let xs = names_of c.args.results in
    let q = exp_of c.args.post.now in
    let whole = mon_of c.args.m.now in
    let e = exp_of c.in-If.test in
    let m = mon_of c.deref.result.now in
    let n = mon_of c.deref-2.result.now in
    let is : whole ≡ M.If e m n = ap mon_of c.in-If.is ∙ ap₂ (λ p r. M.If e (mon_of p) (mon_of r)) (sym c.deref.ensures) (sym c.deref-2.ensures) in
    case_found k ns fs whole xs q c.args.at c.next.result c.next.ensures e m n is (tree_of c.args.first.now) (tree_of c.args.last.now) c.derived_knowing.result
    c.in_ok-behind.behind c.derived_knowing-2.result c.derived_knowing.ensures c.in_ok-behind.was c.derived_knowing-2.ensures

-- a loop

pub derived_loop-returns-then-not-begins_with : goal.derived_loop-returns-then-not-begins_with
derived_loop-returns-then-not-begins_with g t c =
    let k = ground_of c.args.ground.now in
    let ns = names_in g.N.Scope.scalars c.args.names.now in
    let fs = facts_of g.S.Sequence.parts c.args.facts.now in
    let xs = names_of c.args.results in
    let q = exp_of c.args.post.now in
    let whole = mon_of c.args.m.now in
    let starts = map start_of c.deref.result.now in
    let guard = exp_of c.in-Loop.guard in
    let test = exp_of c.in-Loop.test in
    let body = mon_of c.in-Loop.body.value in
    let is : whole ≡ M.Loop starts guard test body = ap mon_of c.in-Loop.is ∙ ap (λ ss. M.Loop (map start_of ss) (exp_of c.in-Loop.guard) (exp_of c.in-Loop.test) (mon_of c.in-Loop.body.value)) (sym c.deref.ensures.value) in
    let posed = subst (λ p. IsPosed k ns p xs q) is c.requires in
    let ms : Names = names_after (setting_in c.setting.result no_names) 1 ns whole in
    let inner : ms ≡ within k starts ns = bound_within k ns c.setting.result c.setting.ensures whole starts guard test body xs q is posed in
    let inv = exp_of c.args.invariant.now in
    let first = exp_of c.args.first.now in
    let last = exp_of c.args.last.now in
    let never : BeginsWith k ms ns starts inv first × EndsWith k ms starts last xs q → ⊥ = λ h.
    elim c.then-not-begins_with.branch [
      | derived_loop-then-not-begins_with-via-then-not-begins_with w ↦ let yes = c.begins_with.ensures.1 h.0 in let no = w.if-not-begins_with.true in cc
      | derived_loop-then-not-begins_with-via-else-not-begins_with+then-not-ends_with w ↦
          let yes = w.ends_with.ensures.1 (subst (λ ss. EndsWith k ms (map start_of ss) last xs q) (c.deref.ensures.value ∙ sym w.deref-else-not-begins_with.ensures.value) h.1) in
          let no = w.if-not-ends_with.true in cc
    ] in
    loop_refused k ns fs whole xs q c.args.at (next c.args.at) refl starts guard test body is inv first last (shows c.args.begins.now) (shows c.args.guarded.now) (tree_of c.args.kept.now) (shows c.args.ends.now) ms inner never

pub derived_loop-shown-requires : goal.derived_loop-shown-requires
derived_loop-shown-requires g t c =
    let k = ground_of c.args.ground.now in
    let ns = names_in g.N.Scope.scalars c.args.names.now in
    let fs = facts_of g.S.Sequence.parts c.args.facts.now in
    let xs = names_of c.args.results in
    let q = exp_of c.args.post.now in
    let whole = mon_of c.args.m.now in
    assertion_sorted (scope k ns) k.lifted (exp_of c.args.first.now) (c.begins_with.ensures.0 c.if-not-begins_with.false).1

pub derived_loop-returns-in_err-second : goal.derived_loop-returns-in_err-second
derived_loop-returns-in_err-second g t c =
    let k = ground_of c.args.ground.now in
    let ns = names_in g.N.Scope.scalars c.args.names.now in
    let fs = facts_of g.S.Sequence.parts c.args.facts.now in
    let xs = names_of c.args.results in
    let q = exp_of c.args.post.now in
    let whole = mon_of c.args.m.now in
    let starts = map start_of c.deref.result.now in
    let guard = exp_of c.in-Loop.guard in
    let test = exp_of c.in-Loop.test in
    let body = mon_of c.in-Loop.body.value in
    let is : whole ≡ M.Loop starts guard test body = ap mon_of c.in-Loop.is ∙ ap (λ ss. M.Loop (map start_of ss) (exp_of c.in-Loop.guard) (exp_of c.in-Loop.test) (mon_of c.in-Loop.body.value)) (sym c.deref.ensures.value) in
    let posed = subst (λ p. IsPosed k ns p xs q) is c.requires in
    let ms : Names = names_after (setting_in c.setting.result no_names) 1 ns whole in
    let inner : ms ≡ within k starts ns = bound_within k ns c.setting.result c.setting.ensures whole starts guard test body xs q is posed in
    let inv = exp_of c.args.invariant.now in
    let first = exp_of c.args.first.now in
    let last = exp_of c.args.last.now in
    let begun : BeginsWith k ms ns starts inv first = c.begins_with.ensures.0 c.if-not-begins_with.false in
    let ended : EndsWith k ms starts last xs q =
    subst (λ ss. EndsWith k ms (map start_of ss) last xs q) (c.deref-else-not-begins_with.ensures.value ∙ sym c.deref.ensures.value)
    (c.ends_with.ensures.0 c.if-not-ends_with.false) in
    subst (λ r. Checked (table k) (node (R.Loop inv first last) (trees (shows c.args.begins.now ∷ shows c.args.guarded.now ∷ tree_of c.args.kept.now ∷ shows c.args.ends.now ∷ []))) (derived ns fs whole xs q) c.args.at r)
    (told_err c.from_residual.result c.in_err-second.field-0.0 c.from_residual.ensures.1)
    (loop_unbegun k ns fs whole xs q c.args.at c.next.result c.next.ensures starts guard test body is inv first last (shows c.args.begins.now) (shows c.args.guarded.now) (tree_of c.args.kept.now) (shows c.args.ends.now) ms inner begun ended
    c.shown.result c.in_err-second.field-0.0 c.shown.ensures c.in_err-second.was)

pub derived_loop-shown-requires-2 : goal.derived_loop-shown-requires-2
derived_loop-shown-requires-2 g t c =
    let k = ground_of c.args.ground.now in
    let ns = names_in g.N.Scope.scalars c.args.names.now in
    let fs = facts_of g.S.Sequence.parts c.args.facts.now in
    let xs = names_of c.args.results in
    let q = exp_of c.args.post.now in
    let whole = mon_of c.args.m.now in
    let starts = map start_of c.deref.result.now in
    let guard = exp_of c.in-Loop.guard in
    let test = exp_of c.in-Loop.test in
    let body = mon_of c.in-Loop.body.value in
    let is : whole ≡ M.Loop starts guard test body = ap mon_of c.in-Loop.is ∙ ap (λ ss. M.Loop (map start_of ss) (exp_of c.in-Loop.guard) (exp_of c.in-Loop.test) (mon_of c.in-Loop.body.value)) (sym c.deref.ensures.value) in
    let posed = subst (λ p. IsPosed k ns p xs q) is c.requires in
    let ms : Names = names_after (setting_in c.setting.result no_names) 1 ns whole in
    let inner : ms ≡ within k starts ns = bound_within k ns c.setting.result c.setting.ensures whole starts guard test body xs q is posed in
    let inv = exp_of c.args.invariant.now in
    let first = exp_of c.args.first.now in
    let last = exp_of c.args.last.now in
    subst (λ (ls : Names). is_truth (sort_of (scope k ls) guard) ≡ true) (sym inner) (turn_guard k ns starts guard test body xs q posed)

pub derived_loop-returns-in_err-third : goal.derived_loop-returns-in_err-third
derived_loop-returns-in_err-third g t c =
    let k = ground_of c.args.ground.now in
    let ns = names_in g.N.Scope.scalars c.args.names.now in
    let fs = facts_of g.S.Sequence.parts c.args.facts.now in
    let xs = names_of c.args.results in
    let q = exp_of c.args.post.now in
    let whole = mon_of c.args.m.now in
    let starts = map start_of c.deref.result.now in
    let guard = exp_of c.in-Loop.guard in
    let test = exp_of c.in-Loop.test in
    let body = mon_of c.in-Loop.body.value in
    let is : whole ≡ M.Loop starts guard test body = ap mon_of c.in-Loop.is ∙ ap (λ ss. M.Loop (map start_of ss) (exp_of c.in-Loop.guard) (exp_of c.in-Loop.test) (mon_of c.in-Loop.body.value)) (sym c.deref.ensures.value) in
    let posed = subst (λ p. IsPosed k ns p xs q) is c.requires in
    let ms : Names = names_after (setting_in c.setting.result no_names) 1 ns whole in
    let inner : ms ≡ within k starts ns = bound_within k ns c.setting.result c.setting.ensures whole starts guard test body xs q is posed in
    let inv = exp_of c.args.invariant.now in
    let first = exp_of c.args.first.now in
    let last = exp_of c.args.last.now in
    let begun : BeginsWith k ms ns starts inv first = c.begins_with.ensures.0 c.if-not-begins_with.false in
    let ended : EndsWith k ms starts last xs q =
    subst (λ ss. EndsWith k ms (map start_of ss) last xs q) (c.deref-else-not-begins_with.ensures.value ∙ sym c.deref.ensures.value)
    (c.ends_with.ensures.0 c.if-not-ends_with.false) in
    let held : facts_of g.S.Sequence.parts c.with-held.result ≡ Whole inv ∷ [] = c.with-held.ensures.facts ∙ ap (λ hs. Whole inv ∷ hs) c.no_facts.ensures in
    let second = subst (λ hs. Checked (table k) (shows c.args.guarded.now) (entailed ms hs guard) c.in_ok-second.second c.shown-2.result) held c.shown-2.ensures in
    subst (λ r. Checked (table k) (node (R.Loop inv first last) (trees (shows c.args.begins.now ∷ shows c.args.guarded.now ∷ tree_of c.args.kept.now ∷ shows c.args.ends.now ∷ []))) (derived ns fs whole xs q) c.args.at r)
    (told_err c.from_residual-in_err-third.result c.in_err-third.field-0.0 c.from_residual-in_err-third.ensures.1)
    (loop_unguarded k ns fs whole xs q c.args.at c.next.result c.next.ensures starts guard test body is inv first last (shows c.args.begins.now) (shows c.args.guarded.now) (tree_of c.args.kept.now) (shows c.args.ends.now) ms inner begun ended
    c.shown.result c.in_ok-second.second c.shown.ensures c.in_ok-second.was c.shown-2.result c.in_err-third.field-0.0 second c.in_err-third.was)

pub derived_loop-derived_knowing-requires : goal.derived_loop-derived_knowing-requires
derived_loop-derived_knowing-requires g t c κs bounds =
    let k = ground_of c.args.ground.now in
    let ns = names_in g.N.Scope.scalars c.args.names.now in
    let fs = facts_of g.S.Sequence.parts c.args.facts.now in
    let xs = names_of c.args.results in
    let q = exp_of c.args.post.now in
    let whole = mon_of c.args.m.now in
    let starts = map start_of c.deref.result.now in
    let guard = exp_of c.in-Loop.guard in
    let test = exp_of c.in-Loop.test in
    let body = mon_of c.deref-2.result.now in
    let is : whole ≡ M.Loop starts guard test body = ap mon_of c.in-Loop.is ∙ ap₂ (λ ss b. M.Loop (map start_of ss) (exp_of c.in-Loop.guard) (exp_of c.in-Loop.test) (mon_of b)) (sym c.deref.ensures.value) (sym c.deref-2.ensures) in
    let posed = subst (λ p. IsPosed k ns p xs q) is c.requires in
    let ms : Names = names_after (setting_in c.setting.result no_names) 1 ns whole in
    let inner : ms ≡ within k starts ns = bound_within k ns c.setting.result c.setting.ensures whole starts guard test body xs q is posed in
    let inv = exp_of c.args.invariant.now in
    let first = exp_of c.args.first.now in
    let last = exp_of c.args.last.now in
    let asserted = subst (λ (ls : Names). Asserts k ls inv) inner (c.begins_with.ensures.0 c.if-not-begins_with.false).0 in
    let there = subst (λ (ls : Names). IsPosed k ls body (start_names starts) inv) (sym inner) (turn_posed k ns starts guard test body xs q posed inv asserted) in
    let again = subst (λ ss. IsPosed k ms body (start_names (map start_of ss)) inv) (c.deref.ensures.value ∙ sym c.deref-3.ensures.value) there in
    (omega (arith, c.decreases), (bounds.0, (bounds.1, again)))

pub derived_loop-returns-in_err-fourth : goal.derived_loop-returns-in_err-fourth
derived_loop-returns-in_err-fourth g t c =
    let k = ground_of c.args.ground.now in
    let ns = names_in g.N.Scope.scalars c.args.names.now in
    let fs = facts_of g.S.Sequence.parts c.args.facts.now in
    let xs = names_of c.args.results in
    let q = exp_of c.args.post.now in
    let whole = mon_of c.args.m.now in
    let starts = map start_of c.deref.result.now in
    let guard = exp_of c.in-Loop.guard in
    let test = exp_of c.in-Loop.test in
    let body = mon_of c.deref-2.result.now in
    let is : whole ≡ M.Loop starts guard test body = ap mon_of c.in-Loop.is ∙ ap₂ (λ ss b. M.Loop (map start_of ss) (exp_of c.in-Loop.guard) (exp_of c.in-Loop.test) (mon_of b)) (sym c.deref.ensures.value) (sym c.deref-2.ensures) in
    let posed = subst (λ p. IsPosed k ns p xs q) is c.requires in
    let ms : Names = names_after (setting_in c.setting.result no_names) 1 ns whole in
    let inner : ms ≡ within k starts ns = bound_within k ns c.setting.result c.setting.ensures whole starts guard test body xs q is posed in
    let inv = exp_of c.args.invariant.now in
    let first = exp_of c.args.first.now in
    let last = exp_of c.args.last.now in
    let begun : BeginsWith k ms ns starts inv first = c.begins_with.ensures.0 c.if-not-begins_with.false in
    let ended : EndsWith k ms starts last xs q =
    subst (λ ss. EndsWith k ms (map start_of ss) last xs q) (c.deref-else-not-begins_with.ensures.value ∙ sym c.deref.ensures.value)
    (c.ends_with.ensures.0 c.if-not-ends_with.false) in
    let held : facts_of g.S.Sequence.parts c.with-held.result ≡ Whole inv ∷ [] = c.with-held.ensures.facts ∙ ap (λ hs. Whole inv ∷ hs) c.no_facts.ensures in
    let second = subst (λ hs. Checked (table k) (shows c.args.guarded.now) (entailed ms hs guard) c.in_ok-second.second c.shown-2.result) held c.shown-2.ensures in
    let known : facts_of g.S.Sequence.parts c.with-known.result ≡ Whole guard ∷ Whole inv ∷ [] = c.with-known.ensures.facts ∙ ap (λ hs. Whole guard ∷ hs) held in
    let turned = subst (λ hs. Checked (table k) (tree_of c.args.kept.now) (derived ms (Whole test ∷ hs) body (start_names starts) inv) c.in_ok-third.third c.derived_knowing.result) known
    (subst (λ ss. Checked (table k) (tree_of c.args.kept.now) (derived ms (Whole test ∷ facts_of g.S.Sequence.parts c.with-known.result) body (start_names (map start_of ss)) inv) c.in_ok-third.third c.derived_knowing.result)
    (c.deref-3.ensures.value ∙ sym c.deref.ensures.value) c.derived_knowing.ensures) in
    subst (λ r. Checked (table k) (node (R.Loop inv first last) (trees (shows c.args.begins.now ∷ shows c.args.guarded.now ∷ tree_of c.args.kept.now ∷ shows c.args.ends.now ∷ []))) (derived ns fs whole xs q) c.args.at r)
    (told_err c.from_residual-in_err-fourth.result c.in_err-fourth.field-0.0 c.from_residual-in_err-fourth.ensures.1)
    (loop_unkept k ns fs whole xs q c.args.at c.next.result c.next.ensures starts guard test body is inv first last (shows c.args.begins.now) (shows c.args.guarded.now) (tree_of c.args.kept.now) (shows c.args.ends.now) ms inner begun ended
    c.shown.result c.in_ok-second.second c.shown.ensures c.in_ok-second.was c.shown-2.result c.in_ok-third.third second c.in_ok-third.was
    c.derived_knowing.result c.in_err-fourth.field-0.0 turned c.in_err-fourth.was)

pub derived_loop-shown_knowing-requires : goal.derived_loop-shown_knowing-requires
derived_loop-shown_knowing-requires g t c =
    let k = ground_of c.args.ground.now in
    let ns = names_in g.N.Scope.scalars c.args.names.now in
    let fs = facts_of g.S.Sequence.parts c.args.facts.now in
    let xs = names_of c.args.results in
    let q = exp_of c.args.post.now in
    let whole = mon_of c.args.m.now in
    let ms : Names = names_after (setting_in c.setting.result no_names) 1 ns whole in
    assertion_sorted (scope k ms) k.lifted (exp_of c.args.last.now) (c.ends_with.ensures.0 c.if-not-ends_with.false).0

pub derived_loop-returns : goal.derived_loop-returns
derived_loop-returns g t c =
    let k = ground_of c.args.ground.now in
    let ns = names_in g.N.Scope.scalars c.args.names.now in
    let fs = facts_of g.S.Sequence.parts c.args.facts.now in
    let xs = names_of c.args.results in
    let q = exp_of c.args.post.now in
    let whole = mon_of c.args.m.now in
    let starts = map start_of c.deref.result.now in
    let guard = exp_of c.in-Loop.guard in
    let test = exp_of c.in-Loop.test in
    let body = mon_of c.deref-2.result.now in
    let is : whole ≡ M.Loop starts guard test body = ap mon_of c.in-Loop.is ∙ ap₂ (λ ss b. M.Loop (map start_of ss) (exp_of c.in-Loop.guard) (exp_of c.in-Loop.test) (mon_of b)) (sym c.deref.ensures.value) (sym c.deref-2.ensures) in
    let posed = subst (λ p. IsPosed k ns p xs q) is c.requires in
    let ms : Names = names_after (setting_in c.setting.result no_names) 1 ns whole in
    let inner : ms ≡ within k starts ns = bound_within k ns c.setting.result c.setting.ensures whole starts guard test body xs q is posed in
    let inv = exp_of c.args.invariant.now in
    let first = exp_of c.args.first.now in
    let last = exp_of c.args.last.now in
    let begun : BeginsWith k ms ns starts inv first = c.begins_with.ensures.0 c.if-not-begins_with.false in
    let ended : EndsWith k ms starts last xs q =
    subst (λ ss. EndsWith k ms (map start_of ss) last xs q) (c.deref-else-not-begins_with.ensures.value ∙ sym c.deref.ensures.value)
    (c.ends_with.ensures.0 c.if-not-ends_with.false) in
    let held : facts_of g.S.Sequence.parts c.with-held.result ≡ Whole inv ∷ [] = c.with-held.ensures.facts ∙ ap (λ hs. Whole inv ∷ hs) c.no_facts.ensures in
    let second = subst (λ hs. Checked (table k) (shows c.args.guarded.now) (entailed ms hs guard) c.in_ok-second.second c.shown-2.result) held c.shown-2.ensures in
    let known : facts_of g.S.Sequence.parts c.with-known.result ≡ Whole guard ∷ Whole inv ∷ [] = c.with-known.ensures.facts ∙ ap (λ hs. Whole guard ∷ hs) held in
    let turned = subst (λ hs. Checked (table k) (tree_of c.args.kept.now) (derived ms (Whole test ∷ hs) body (start_names starts) inv) c.in_ok-third.third c.derived_knowing.result) known
    (subst (λ ss. Checked (table k) (tree_of c.args.kept.now) (derived ms (Whole test ∷ facts_of g.S.Sequence.parts c.with-known.result) body (start_names (map start_of ss)) inv) c.in_ok-third.third c.derived_knowing.result)
    (c.deref-3.ensures.value ∙ sym c.deref.ensures.value) c.derived_knowing.ensures) in
    let behind_all = subst (λ hs. Checked (table k) (shows c.args.ends.now) (entailed ms (NotTrue test ∷ hs) last) c.in_ok-fourth.fourth c.shown_knowing.result) known c.shown_knowing.ensures in
    loop_found k ns fs whole xs q c.args.at c.next.result c.next.ensures starts guard test body is inv first last (shows c.args.begins.now) (shows c.args.guarded.now) (tree_of c.args.kept.now) (shows c.args.ends.now) ms inner begun ended
    c.shown.result c.in_ok-second.second c.shown.ensures c.in_ok-second.was c.shown-2.result c.in_ok-third.third second c.in_ok-third.was
    c.derived_knowing.result c.in_ok-fourth.fourth c.shown_knowing.result turned c.in_ok-fourth.was behind_all
