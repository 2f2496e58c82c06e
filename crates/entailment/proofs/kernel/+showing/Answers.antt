-- Each rule's instances: what is asked of them, and then their parts.
use Rattle.std.proofs.Common.{rules, ◌≡◌, ◌∷◌, refl, sym, subst, ap, true, arith}
use Rattle.expression_lang.specs.Expression as E
use Rattle.expression_lang.specs.CodeExpression.{exp_of}
use Rattle.expression_lang.specs.Sort.{sort_of, is_truth}
use Rattle.ac_expr.specs.Fact.{Whole, NotTrue}
use Rattle.ac_expr.specs.CodeChain.{facts_of}
use Rattle.rule_trees.specs.RuleTree.{Checked, tree, no_trees}
use Rattle.triple_lang.specs.Entail as R
use Rattle.triple_lang.specs.Entail.{shown}
use Rattle.entailment.specs.Table.{table}
use Rattle.entailment.specs.CodeClaim.{claim_of, scope_at}
use Rattle.triple_lang.specs.CodeEntail.{tree_of, over_both}
use Rattle.entailment.proofs.Sorts.{assertion_sorted, sides_sorted, ends_sorted}
use Rattle.entailment.proofs.Leaves.{same_alone, range_alone}
use Rattle.entailment.proofs.Walked.{refused, leaf_checked, two_parts}
use Rattle.entailment.proofs.kernel.+showing.Goals as goal

-- rules without parts

pub checked-returns-in-Same : goal.checked-returns-in-Same
checked-returns-in-Same g t c =
    let scope = scope_at g.N.Scope.scalars c.args.site.now in
    let facts = facts_of g.S.Sequence.parts c.args.facts.now in
    let claim = claim_of c.args.claim.now in
    leaf_checked (table c.args.site.now.lifted scope) R.Same (shown facts claim) c.args.at (tree_of c.args.tree.now) c.is_reflexive.result
    c.checked_leaf-in-Same.result (ap tree_of c.in-Same.is) (same_alone c.args.site.now.lifted scope facts claim)
    (c.is_reflexive.ensures c.args.site.now.lifted scope facts) c.checked_leaf-in-Same.ensures

pub checked-returns-in-Compute : goal.checked-returns-in-Compute
checked-returns-in-Compute g t c =
    let scope = scope_at g.N.Scope.scalars c.args.site.now in
    let facts = facts_of g.S.Sequence.parts c.args.facts.now in
    let claim = claim_of c.args.claim.now in
    leaf_checked (table c.args.site.now.lifted scope) R.Compute (shown facts claim) c.args.at (tree_of c.args.tree.now) c.is_computed.result
    c.checked_leaf-in-Compute.result (ap tree_of c.in-Compute.is) refl c.is_computed.ensures c.checked_leaf-in-Compute.ensures

pub checked-returns-in-Range : goal.checked-returns-in-Range
checked-returns-in-Range g t c =
    let scope = scope_at g.N.Scope.scalars c.args.site.now in
    let facts = facts_of g.S.Sequence.parts c.args.facts.now in
    let claim = claim_of c.args.claim.now in
    leaf_checked (table c.args.site.now.lifted scope) R.Range (shown facts claim) c.args.at (tree_of c.args.tree.now) c.is_range.result
    c.checked_leaf-in-Range.result (ap tree_of c.in-Range.is) (range_alone c.args.site.now.lifted scope facts claim)
    (c.is_range.ensures c.args.site.now.lifted facts) c.checked_leaf-in-Range.ensures

-- trees with two parts

pub checked-returns-in-Case : goal.checked-returns-in-Case
checked-returns-in-Case g t c =
    let scope = scope_at g.N.Scope.scalars c.args.site.now in
    let facts = facts_of g.S.Sequence.parts c.args.facts.now in
    let claim = claim_of c.args.claim.now in
    let rule = R.Case (exp_of c.deref-in-Case.result.now) in
    let there : tree_of c.args.tree.now ≡ over_both rule (tree_of c.deref-in-Case-2.result.now) (tree_of c.deref-in-Case-3.result.now) =
    cc (ap tree_of c.in-Case.is) in
    subst (λ u. Checked (table c.args.site.now.lifted scope) u (shown facts claim) c.args.at c.checked_case.result) (sym there) c.checked_case.ensures

pub checked-returns-in-Cut : goal.checked-returns-in-Cut
checked-returns-in-Cut g t c =
    let scope = scope_at g.N.Scope.scalars c.args.site.now in
    let facts = facts_of g.S.Sequence.parts c.args.facts.now in
    let claim = claim_of c.args.claim.now in
    let rule = R.Cut (exp_of c.deref-in-Cut.result.now) in
    let there : tree_of c.args.tree.now ≡ over_both rule (tree_of c.deref-in-Cut-2.result.now) (tree_of c.deref-in-Cut-3.result.now) =
    cc (ap tree_of c.in-Cut.is) in
    subst (λ u. Checked (table c.args.site.now.lifted scope) u (shown facts claim) c.args.at c.checked_cut.result) (sym there) c.checked_cut.ensures

pub checked-returns-in-Rewrite : goal.checked-returns-in-Rewrite
checked-returns-in-Rewrite g t c =
    let scope = scope_at g.N.Scope.scalars c.args.site.now in
    let facts = facts_of g.S.Sequence.parts c.args.facts.now in
    let claim = claim_of c.args.claim.now in
    let rule = R.Rewrite (exp_of c.deref-in-Rewrite.result.now) (exp_of c.deref-in-Rewrite-2.result.now) (exp_of c.deref-in-Rewrite-3.result.now) in
    let there : tree_of c.args.tree.now ≡ over_both rule (tree_of c.deref-in-Rewrite-4.result.now) (tree_of c.deref-in-Rewrite-5.result.now) =
    cc (ap tree_of c.in-Rewrite.is) in
    subst (λ u. Checked (table c.args.site.now.lifted scope) u (shown facts claim) c.args.at c.checked_rewrite.result) (sym there) c.checked_rewrite.ensures

-- the sides of a connective, and the ends of a range

pub checked_and-checked-requires : goal.checked_and-checked-requires
checked_and-checked-requires g t c κs within =
    let scope = scope_at g.N.Scope.scalars c.args.site.now in
    let said : claim_of c.args.claim.now ≡ E.And (exp_of c.deref.result.now) (exp_of c.in-Whole-And.b.value) = search rules in
    let sides = sides_sorted scope (exp_of c.deref.result.now) (exp_of c.in-Whole-And.b.value)
    (subst (λ e. is_truth (sort_of scope e) ≡ true) said c.requires) in
    (omega (arith, c.decreases), (within.0, (within.1, sides.0)))

pub checked_and-checked_knowing-requires : goal.checked_and-checked_knowing-requires
checked_and-checked_knowing-requires g t c κs within =
    let scope = scope_at g.N.Scope.scalars c.args.site.now in
    let said : claim_of c.args.claim.now ≡ E.And (exp_of c.in-Whole-And.a.value) (exp_of c.deref-3.result.now) = search rules in
    let sides = sides_sorted scope (exp_of c.in-Whole-And.a.value) (exp_of c.deref-3.result.now)
    (subst (λ e. is_truth (sort_of scope e) ≡ true) said c.requires) in
    (omega (arith, c.decreases), (within.0, (within.1, sides.1)))

pub checked_imp-checked_knowing-requires : goal.checked_imp-checked_knowing-requires
checked_imp-checked_knowing-requires g t c κs within =
    let scope = scope_at g.N.Scope.scalars c.args.site.now in
    let said : claim_of c.args.claim.now ≡ E.Imp (exp_of c.in-Whole-Imp.a.value) (exp_of c.deref-2.result.now) = search rules in
    let sides = sides_sorted scope (exp_of c.in-Whole-Imp.a.value) (exp_of c.deref-2.result.now)
    (subst (λ e. is_truth (sort_of scope e) ≡ true) said c.requires) in
    (omega (arith, c.decreases), (within.0, (within.1, sides.1)))

pub checked_or-checked_knowing-requires : goal.checked_or-checked_knowing-requires
checked_or-checked_knowing-requires g t c κs within =
    let scope = scope_at g.N.Scope.scalars c.args.site.now in
    let said : claim_of c.args.claim.now ≡ E.Or (exp_of c.in-Whole-Or.a.value) (exp_of c.deref-2.result.now) = search rules in
    let sides = sides_sorted scope (exp_of c.in-Whole-Or.a.value) (exp_of c.deref-2.result.now)
    (subst (λ e. is_truth (sort_of scope e) ≡ true) said c.requires) in
    (omega (arith, c.decreases), (within.0, (within.1, sides.1)))

pub checked_between-checked-requires-2 : goal.checked_between-checked-requires-2
checked_between-checked-requires-2 g t c κs within =
    let scope = scope_at g.N.Scope.scalars c.args.site.now in
    let low = c.in-Whole-Between.low in
    let high = c.in-Whole-Between.high in
    let said : claim_of c.args.claim.now ≡ E.Between low (exp_of c.deref-2.result.now) high = search rules in
    let ends = ends_sorted scope low (exp_of c.deref-2.result.now) high (subst (λ e. is_truth (sort_of scope e) ≡ true) said c.requires) in
    (omega (arith, c.decreases), (within.0, (within.1, ends.1)))

-- an assertion that holds or not, and one that is shown first

pub checked_case-returns-then-not-is_assertion : goal.checked_case-returns-then-not-is_assertion
checked_case-returns-then-not-is_assertion g t c =
    let scope = scope_at g.N.Scope.scalars c.args.site.now in
    let facts = facts_of g.S.Sequence.parts c.args.facts.now in
    let claim = claim_of c.args.claim.now in
    refused (table c.args.site.now.lifted scope) (R.Case (exp_of c.args.c.now)) (shown facts claim) c.args.at
    (tree (tree_of c.args.first.now) (tree (tree_of c.args.last.now) no_trees)) c.is_assertion.result c.is_assertion.ensures c.if-not-is_assertion.true

pub checked_case-returns : goal.checked_case-returns
checked_case-returns g t c =
    let scope = scope_at g.N.Scope.scalars c.args.site.now in
    let facts = facts_of g.S.Sequence.parts c.args.facts.now in
    let claim = claim_of c.args.claim.now in
    two_parts (table c.args.site.now.lifted scope) (R.Case (exp_of c.args.c.now)) (shown facts claim) c.args.at
    (tree_of c.args.first.now) (tree_of c.args.last.now)
    (shown (Whole (exp_of c.args.c.now) ∷ facts) claim) (shown (NotTrue (exp_of c.args.c.now) ∷ facts) claim) c.next.result c.in_ok-behind.behind
    c.checked_knowing.result c.checked_knowing-2.result (c.is_assertion.ensures.0 c.if-not-is_assertion.false) refl c.next.ensures c.in_ok-behind.was
    c.checked_knowing.ensures c.checked_knowing-2.ensures

pub checked_cut-returns-then-not-is_assertion : goal.checked_cut-returns-then-not-is_assertion
checked_cut-returns-then-not-is_assertion g t c =
    let scope = scope_at g.N.Scope.scalars c.args.site.now in
    let facts = facts_of g.S.Sequence.parts c.args.facts.now in
    let claim = claim_of c.args.claim.now in
    refused (table c.args.site.now.lifted scope) (R.Cut (exp_of c.args.c.now)) (shown facts claim) c.args.at
    (tree (tree_of c.args.first.now) (tree (tree_of c.args.last.now) no_trees)) c.is_assertion.result c.is_assertion.ensures c.if-not-is_assertion.true

pub checked_cut-returns : goal.checked_cut-returns
checked_cut-returns g t c =
    let scope = scope_at g.N.Scope.scalars c.args.site.now in
    let facts = facts_of g.S.Sequence.parts c.args.facts.now in
    let claim = claim_of c.args.claim.now in
    two_parts (table c.args.site.now.lifted scope) (R.Cut (exp_of c.args.c.now)) (shown facts claim) c.args.at
    (tree_of c.args.first.now) (tree_of c.args.last.now)
    (shown facts (exp_of c.args.c.now)) (shown (Whole (exp_of c.args.c.now) ∷ facts) claim) c.next.result c.in_ok-behind.behind
    c.checked.result c.checked_knowing.result (c.is_assertion.ensures.0 c.if-not-is_assertion.false) refl c.next.ensures c.in_ok-behind.was
    c.checked.ensures c.checked_knowing.ensures

pub checked_cut-checked-requires : goal.checked_cut-checked-requires
checked_cut-checked-requires g t c κs within =
    let scope = scope_at g.N.Scope.scalars c.args.site.now in
    let sorted = assertion_sorted scope c.args.site.now.lifted (exp_of c.args.c.now) (c.is_assertion.ensures.0 c.if-not-is_assertion.false) in
    (omega (arith, c.decreases), (within.0, (within.1, sorted)))

-- another assertion

pub checked_rewrite-returns : goal.checked_rewrite-returns
checked_rewrite-returns g t c =
    let scope = scope_at g.N.Scope.scalars c.args.site.now in
    let facts = facts_of g.S.Sequence.parts c.args.facts.now in
    let claim = claim_of c.args.claim.now in
    let a = exp_of c.args.a.now in
    let b = exp_of c.args.b.now in
    let rest = exp_of c.args.rest.now in
    two_parts (table c.args.site.now.lifted scope) (R.Rewrite a b rest) (shown facts claim) c.args.at
    (tree_of c.args.first.now) (tree_of c.args.last.now)
    (shown facts (E.Eq a b)) (shown facts rest) c.next.result c.in_ok-behind.behind c.checked.result c.checked-2.result (
      c.is_equation.ensures.0 c.if-not-is_equation.false,
      c.is_assertion.ensures.0 c.if-not-is_assertion.false,
      c.is_rewritten.ensures.0 c.if-not-is_rewritten.false,
    ) refl c.next.ensures c.in_ok-behind.was c.checked.ensures c.checked-2.ensures

pub checked_rewrite-checked-requires : goal.checked_rewrite-checked-requires
checked_rewrite-checked-requires g t c κs within =
    let scope = scope_at g.N.Scope.scalars c.args.site.now in
    let sorted = assertion_sorted scope c.args.site.now.lifted (E.Eq (exp_of c.args.a.now) (exp_of c.args.b.now))
    (c.is_equation.ensures.0 c.if-not-is_equation.false) in
    (omega (arith, c.decreases), (within.0, (within.1, sorted)))

pub checked_rewrite-checked-requires-2 : goal.checked_rewrite-checked-requires-2
checked_rewrite-checked-requires-2 g t c κs within =
    let scope = scope_at g.N.Scope.scalars c.args.site.now in
    let sorted = assertion_sorted scope c.args.site.now.lifted (exp_of c.args.rest.now) (c.is_assertion.ensures.0 c.if-not-is_assertion.false) in
    (omega (arith, c.decreases), (within.0, (within.1, sorted)))

pub checked_step-checked-requires : goal.checked_step-checked-requires
checked_step-checked-requires g t c κs within =
    let scope = scope_at g.N.Scope.scalars c.args.site.now in
    let sorted = assertion_sorted scope c.args.site.now.lifted (exp_of c.args.rest.now) (c.is_assertion.ensures.0 c.if-not-is_assertion.false) in
    (omega (arith, c.decreases), (within.0, (within.1, sorted)))
