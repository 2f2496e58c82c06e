use Rattle.std.proofs.Common.{sym, ap, subst, ◌∙◌}
use Rattle.c_values.specs.Name.{with_name}
use Rattle.c_values.specs.CodeValue.{value_of}
use Rattle.expression_lang.specs.CodeState.{env_of}
use Rattle.expression_lang.specs.Sort.{Of}
use Rattle.expression_lang.specs.States.{IsOfSort}
use Rattle.expression_lang.specs.Machine.{machine_with}
use Rattle.expression_lang.specs.CodeExpression.{exp_of}
use Rattle.simpl_lang.specs.Exec.{Normal}
use Rattle.command_runs.specs.CodeRun.{state_in}
use Rattle.command_runs.proofs.Evaluated.{value_fits}
use Rattle.command_runs.proofs.Places.{set_parts}
use Rattle.command_runs.proofs.Given.{IsPut, local_put}
use Rattle.command_runs.proofs.frame.Frame.set.Goals as goal

pub value-requires-clause-sorted : goal.value-requires-clause-sorted
value-requires-clause-sorted c = let p = set_parts c.args.self.now c.args.name.now (exp_of c.args.e.now) c.requires.sorted in (Of p.0, p.2)

put : (c : goal.After-put) → IsPut c.args.self.now c.args.locals.now.items c.put.new.locals.items c.args.state.now c.args.name.now (value_of c.in_ok-value.value)
put c =
    let f = c.args.self.now in
    let bs = c.args.locals.now.items in
    let p = set_parts f c.args.name.now (exp_of c.args.e.now) c.requires.sorted in
    local_put f bs c.put.new.locals.items c.args.state.now c.requires.frame c.requires.fits c.args.name.now (value_of c.in_ok-value.value) p.0 p.1
    (subst (λ v. IsOfSort p.0 v) (sym c.in_ok-value.ensures) (value_fits f c.requires.frame bs c.args.state.now c.requires.fits (exp_of c.args.e.now) (Of p.0) p.2))
    c.put.ensures

pub returns-clause-fits : goal.returns-clause-fits
returns-clause-fits c = (put c).fits

pub returns-clause-run : goal.returns-clause-run
returns-clause-run c turns =
    ap (λ env. Normal (machine_with env (state_in c.args.self.now.unit.now c.args.state.now))) ((put c).env ∙ ap (λ v. with_name c.args.name.now v (env_of c.args.locals.now.items)) c.in_ok-value.ensures)
