-- The names in scope behind the program are those of its values, and what is derived of it holds.
use Rattle.std.proofs.Common.{map, string_bytes, inl, inr, refl, sym, ap, subst, ◌∙◌}
use Rattle.std.proofs.lemmas.Bool.{false≢true}
use Rattle.expression_lang.specs.CodeExpression.{exp_of}
use Rattle.ac_expr.specs.CodeChain.{facts_of}
use Rattle.monad_lang.specs.CodeProgram.{mon_of, final_unit_of}
use Rattle.monad_lang.specs.Sorted.{Setting}
use Rattle.rule_trees.proofs.Checking.{checked_accepts}
use Rattle.triple_lang.specs.CodeDeriv.{tree_of, triple_of}
use Rattle.triple_lang.specs.Deriv.{Names, derived}
use Rattle.hoare_check.specs.DeriveTable.{Asserts, table}
use Rattle.hoare_check.specs.Accepted.{ground_with}
use Rattle.hoare_check.specs.CodeNames.{names_told}
use Rattle.hoare_check.proofs.ProgramPosed.{told_behind, program_posed, program_holds}
use Rattle.hoare_check.proofs.verdicts.derives.Goals as goal

pub returns-then-not-asserts-clause-verdict : goal.returns-then-not-asserts-clause-verdict
returns-then-not-asserts-clause-verdict g c =
    let k = ground_with (final_unit_of c.args.unit.now) c.args.lifted (map triple_of c.args.triples.now) in
    let ns : Names = g.N.Scope.scalars c.args.names.now in
    let m = mon_of c.args.m.now in
    let xs = map string_bytes c.args.results.now in
    let q = exp_of c.args.post.now in
    let there = ap (λ (s : Setting). names_told s m xs ns) (c.setting.ensures ns) ∙ told_behind k ns m xs c.requires.sorted in
    inl ((λ h. false≢true (sym c.if-not-asserts.true ∙ c.asserts.ensures.1 (subst (λ (ms : Names). Asserts k ms q) (sym there) h))), refl)

pub derived-requires : goal.derived-requires
derived-requires g c =
    let k = ground_with (final_unit_of c.args.unit.now) c.args.lifted (map triple_of c.args.triples.now) in
    let ns : Names = g.N.Scope.scalars c.args.names.now in
    let m = mon_of c.args.m.now in
    let xs = map string_bytes c.args.results.now in
    let q = exp_of c.args.post.now in
    let there = ap (λ (s : Setting). names_told s m xs ns) (c.setting.ensures ns) ∙ told_behind k ns m xs c.requires.sorted in
    let asserted = subst (λ (ms : Names). Asserts k ms q) there (c.asserts.ensures.0 c.if-not-asserts.false) in
    program_posed k ns m xs c.requires.sorted q asserted

pub returns-in-Ok-clause-verdict : goal.returns-in-Ok-clause-verdict
returns-in-Ok-clause-verdict g c =
    let k = ground_with (final_unit_of c.args.unit.now) c.args.lifted (map triple_of c.args.triples.now) in
    let ns : Names = g.N.Scope.scalars c.args.names.now in
    let fs = facts_of g.S.Sequence.parts c.args.facts.now in
    let m = mon_of c.args.m.now in
    let xs = map string_bytes c.args.results.now in
    let q = exp_of c.args.post.now in
    let there = ap (λ (s : Setting). names_told s m xs ns) (c.setting.ensures ns) ∙ told_behind k ns m xs c.requires.sorted in
    let asserted = subst (λ (ms : Names). Asserts k ms q) there (c.asserts.ensures.0 c.if-not-asserts.false) in
    (asserted, checked_accepts (table k) (tree_of c.args.tree.now) (derived ns fs m xs q) 0 c.in-Ok.field-0 c.in-Ok.ensures)

pub returns-in-Ok-clause-holds : goal.returns-in-Ok-clause-holds
returns-in-Ok-clause-holds g c steady triples calls p n below =
    let k = ground_with (final_unit_of c.args.unit.now) c.args.lifted (map triple_of c.args.triples.now) in
    let ns : Names = g.N.Scope.scalars c.args.names.now in
    let fs = facts_of g.S.Sequence.parts c.args.facts.now in
    let m = mon_of c.args.m.now in
    let xs = map string_bytes c.args.results.now in
    let q = exp_of c.args.post.now in
    let there = ap (λ (s : Setting). names_told s m xs ns) (c.setting.ensures ns) ∙ told_behind k ns m xs c.requires.sorted in
    let asserted = subst (λ (ms : Names). Asserts k ms q) there (c.asserts.ensures.0 c.if-not-asserts.false) in
    program_holds k ns m xs c.requires.sorted q asserted fs (tree_of c.args.tree.now)
    (checked_accepts (table k) (tree_of c.args.tree.now) (derived ns fs m xs q) 0 c.in-Ok.field-0 c.in-Ok.ensures)
    c.requires.formed steady triples calls p n below

pub returns-in-Err-clause-verdict : goal.returns-in-Err-clause-verdict
returns-in-Err-clause-verdict g c =
    let k = ground_with (final_unit_of c.args.unit.now) c.args.lifted (map triple_of c.args.triples.now) in
    let ns : Names = g.N.Scope.scalars c.args.names.now in
    let m = mon_of c.args.m.now in
    let xs = map string_bytes c.args.results.now in
    let q = exp_of c.args.post.now in
    let there = ap (λ (s : Setting). names_told s m xs ns) (c.setting.ensures ns) ∙ told_behind k ns m xs c.requires.sorted in
    let asserted = subst (λ (ms : Names). Asserts k ms q) there (c.asserts.ensures.0 c.if-not-asserts.false) in
    inr (asserted, c.in-Err.ensures)
