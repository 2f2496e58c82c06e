-- The names in scope are the parameters and the logical variables.
use Rattle.std.proofs.Common.{◌↔◌, map, ap₂, sym, subst, ◌∙◌}
use Rattle.std.specs.Prelude.{IsTrue}
use Rattle.program_sorts.specs.declared.phases.Phase.TheVariants.{OnNumbers}
use Rattle.monad_lang.specs.CodeProgram.{final_fn_of, final_unit_of}
use Rattle.monad_sorts.specs.CodeInside.{parameters_in, no_names}
use Rattle.triple_lang.specs.CodeDeriv.{logical_of, triple_of}
use Rattle.triple_lang.specs.Deriv.{Names}
use Rattle.hoare_check.specs.DeriveTable.{Asserts}
use Rattle.hoare_check.specs.CodeCalled.{assertions_of}
use Rattle.hoare_check.specs.CodeNames.{with_logicals}
use Rattle.hoare_check.specs.CodePosed.{ground_of}
use Rattle.hoare_check.proofs.TriplePosed.{before_is}
use Rattle.hoare_check.proofs.accepting.asserts_before.Goals as goal

pub returns : goal.returns
returns c =
    let f = final_fn_of c.args.function.now in
    let t = assertions_of c.args.triple.now in
    let same =
    ap₂ (λ ls bs. with_logicals (map logical_of ls) (parameters_in OnNumbers bs no_names)) c.deref-2.ensures.value c.deref.ensures.value
    ∙ sym (before_is (final_unit_of c.args.ground.now.unit.now) (map triple_of c.args.ground.now.triples.now) f t) in
    subst (λ (ns : Names). IsTrue c.asserts.result ↔ Asserts (ground_of c.args.ground.now) ns t.before) same c.asserts.ensures
