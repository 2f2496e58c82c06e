-- The globals are those of the unit.
use Rattle.std.proofs.Common.{◌↔◌, IsTrue, List, subst}
use Rattle.c_values.specs.declared.values.GlobalVar as G
use Rattle.expression_lang.specs.CodeExpression.{exp_of}
use Rattle.expression_lang.specs.CodeSort.{scope_by}
use Rattle.assertion_walks.specs.Written.{IsBeforeWrite}
use Rattle.assertion_walks.specs.CodePlace.{place_in}
use Rattle.hoare_check.specs.CodePosed.{ground_of}
use Rattle.hoare_check.proofs.write_derivations.stands_before.Goals as goal

pub returns : goal.returns
returns g c =
    let k = ground_of c.args.ground.now in
    let ns = g.N.Scope.scalars c.args.names.now in
    subst (λ (gs : List G.GlobalVar). IsTrue c.is_before_write.result ↔ IsBeforeWrite (scope_by k.unit.layout ns gs)
    (place_in c.args.place.now) (exp_of c.args.value.now) (exp_of c.args.post.now) (exp_of c.args.before.now))
    c.deref.ensures.value c.is_before_write.ensures
