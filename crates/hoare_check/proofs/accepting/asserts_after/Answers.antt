-- The names in scope are the result, where there is one, and the logical variables.
use Rattle.std.proofs.Common.{◌↔◌, map, ap₂, sym, subst, ◌∙◌}
use Rattle.std.specs.Prelude.{IsTrue}
use Rattle.monad_lang.specs.CodeProgram.{final_fn_of, final_unit_of}
use Rattle.triple_lang.specs.CodeDeriv.{logical_of, triple_of}
use Rattle.triple_lang.specs.Deriv.{Names}
use Rattle.hoare_check.specs.DeriveTable.{Asserts}
use Rattle.hoare_check.specs.CodeCalled.{assertions_of}
use Rattle.hoare_check.specs.CodeNames.{with_logicals}
use Rattle.hoare_check.specs.CodePosed.{ground_of}
use Rattle.hoare_check.proofs.TriplePosed.{after_is}
use Rattle.hoare_check.proofs.accepting.asserts_after.Goals as goal

pub returns : goal.returns
returns c =
    let f = final_fn_of c.args.function.now in
    let t = assertions_of c.args.triple.now in
    let same =
    ap₂ (λ ls (ns : Names). with_logicals (map logical_of ls) ns) c.deref.ensures.value c.only_result-result.ensures
    ∙ sym (after_is (final_unit_of c.args.ground.now.unit.now) (map triple_of c.args.ground.now.triples.now) f t c.requires) in
    subst (λ (ns : Names). IsTrue c.asserts.result ↔ Asserts (ground_of c.args.ground.now) ns t.after) same c.asserts.ensures
