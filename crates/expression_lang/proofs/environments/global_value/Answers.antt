-- A global of another name is left out.
use Rattle.std.proofs.Common.{◌≡◌, ◌∙◌, false, arith}
use Rattle.std.specs.Prelude.{string_bytes}
use Rattle.c_values.specs.Name.{same_name}
use Rattle.expression_lang.proofs.NamesFound.{global_after}
use Rattle.expression_lang.proofs.environments.global_value.Goals as goal

pub globals-preserved : goal.globals-preserved
globals-preserved c =
    let other : same_name (string_bytes c.index-vars-k.result.name) c.args.name.now ≡ false = cc (c.as_str.ensures.value, c.eq.ensures, c.if-eq.false) in
    global_after c.args.vars.now c.args.globals.now c.globals.k c.index-vars-k.result c.args.name.now (omega arith) (omega arith) c.index-vars-k.is other
    ∙ c.globals.invariant
