-- The derivation begins where the parameters and the logical variables are in scope, and the precondition is known.
use Rattle.std.proofs.Common.{List, [], ◌∷◌, map, ap, ap₂, sym, subst, ◌∙◌}
use Rattle.program_sorts.specs.declared.phases.Phase.TheVariants.{OnNumbers}
use Rattle.c_values.specs.Name.{Name}
use Rattle.ac_expr.specs.Fact.{Fact, Whole}
use Rattle.monad_lang.specs.CodeProgram.{final_fn_of, final_unit_of}
use Rattle.monad_sorts.specs.CodeInside.{parameters_in, no_names}
use Rattle.rule_trees.specs.RuleTree.{Checked}
use Rattle.exactness.specs.Triple.{result_names}
use Rattle.triple_lang.specs.CodeDeriv.{logical_of, tree_of, triple_of}
use Rattle.triple_lang.specs.Deriv.{Names, derived}
use Rattle.hoare_check.specs.DeriveTable.{table}
use Rattle.hoare_check.specs.CodeCalled.{assertions_of}
use Rattle.hoare_check.specs.CodeNames.{with_logicals}
use Rattle.hoare_check.specs.CodePosed.{IsPosed, ground_of}
use Rattle.hoare_check.specs.CodeResults.{names_of}
use Rattle.hoare_check.proofs.TriplePosed.{before_is, posed_here}
use Rattle.hoare_check.proofs.accepting.derived_triple.Goals as goal

pub derived-requires : goal.derived-requires
derived-requires c =
    let k = ground_of c.args.ground.now in
    let u = final_unit_of c.args.ground.now.unit.now in
    let ts = map triple_of c.args.ground.now.triples.now in
    let f = final_fn_of c.args.function.now in
    let t = assertions_of c.args.triple.now in
    let ns = with_logicals (map logical_of c.deref-2.result.now) (parameters_in OnNumbers c.deref.result.now no_names) in
    let same = ap₂ (λ ls bs. with_logicals (map logical_of ls) (parameters_in OnNumbers bs no_names)) c.deref-2.ensures.value c.deref.ensures.value in
    let posed = posed_here u ts f t c.requires.sorted c.requires.assertions c.args.ground.now.lifted c.requires.level ns same in
    subst (λ (xs : List Name). IsPosed k ns f.body xs t.after) (sym c.result_of.ensures) posed

pub returns : goal.returns
returns c =
    let k = ground_of c.args.ground.now in
    let u = final_unit_of c.args.ground.now.unit.now in
    let ts = map triple_of c.args.ground.now.triples.now in
    let f = final_fn_of c.args.function.now in
    let t = assertions_of c.args.triple.now in
    let tree = tree_of c.args.triple.now.derivation in
    let r = c.derived.result in
    let ns : Names = with_logicals (map logical_of c.deref-2.result.now) (parameters_in OnNumbers c.deref.result.now no_names) in
    let names = ap₂ (λ ls bs. with_logicals (map logical_of ls) (parameters_in OnNumbers bs no_names)) c.deref-2.ensures.value c.deref.ensures.value
    ∙ sym (before_is u ts f t) in
    let facts = c.with-known.ensures.facts ∙ ap (λ (hs : List Fact). Whole t.before ∷ hs) c.new-none.ensures.facts in
    subst (λ (ms : Names). Checked (table k) tree (derived ms (Whole t.before ∷ []) f.body (result_names f.results) t.after) 0 r) names
    (subst (λ (xs : List Name). Checked (table k) tree (derived ns (Whole t.before ∷ []) f.body xs t.after) 0 r) c.result_of.ensures
    (subst (λ (hs : List Fact). Checked (table k) tree (derived ns hs f.body (names_of c.result_of.result) t.after) 0 r) facts c.derived.ensures))
