-- How each of what may be pending goes on.
use Rattle.std.proofs.Common.{refl}
use Rattle.command_runs.specs.declared.ends.Flow as F
use Rattle.command_runs.specs.declared.machine.Pending as W
use Rattle.command_runs.proofs.StepLaws.{rest_goes, rest_passed, handler_goes, handler_passed}
use Rattle.command_runs.proofs.CallLaws.{return_step}
use Rattle.command_runs.proofs.RunLaws.{resume_as}
use Rattle.command_runs.proofs.frame.Frame.resume.Goals as goal

pub returns-in-Normal : goal.returns-in-Normal
returns-in-Normal c fs s h =
    let f = c.args.self.now in
    let bs = c.args.locals.now.items in
    resume_as f bs s fs c.args.pending (W.TheVariants.Rest c.in-Rest.rest c.in-Rest.turns) c.args.flow F.TheVariants.Normal _ c.in-Rest.is c.in-Normal.is (rest_goes f fs bs s c.in-Rest.rest c.in-Rest.turns) h

pub returns-in-Abrupt : goal.returns-in-Abrupt
returns-in-Abrupt c fs s h =
    let f = c.args.self.now in
    let bs = c.args.locals.now.items in
    resume_as f bs s fs c.args.pending (W.TheVariants.Rest c.in-Rest.rest c.in-Rest.turns) c.args.flow F.TheVariants.Abrupt _ c.in-Rest.is c.in-Abrupt.is (rest_passed f fs bs s c.in-Rest.rest c.in-Rest.turns) h

pub returns-in-Normal-flow : goal.returns-in-Normal-flow
returns-in-Normal-flow c fs s h =
    let f = c.args.self.now in
    let bs = c.args.locals.now.items in
    resume_as f bs s fs c.args.pending (W.TheVariants.Handler c.in-Handler.handler c.in-Handler.turns) c.args.flow F.TheVariants.Normal _ c.in-Handler.is c.in-Normal-flow.is (handler_passed f fs bs s c.in-Handler.handler c.in-Handler.turns) h

pub returns-in-Abrupt-flow : goal.returns-in-Abrupt-flow
returns-in-Abrupt-flow c fs s h =
    let f = c.args.self.now in
    let bs = c.args.locals.now.items in
    resume_as f bs s fs c.args.pending (W.TheVariants.Handler c.in-Handler.handler c.in-Handler.turns) c.args.flow F.TheVariants.Abrupt _ c.in-Handler.is c.in-Abrupt-flow.is (handler_goes f fs bs s c.in-Handler.handler c.in-Handler.turns) h

pub returns-in-Return : goal.returns-in-Return
returns-in-Return c fs s h =
    let f = c.args.self.now in
    let bs = c.args.locals.now.items in
    resume_as f bs s fs c.args.pending (W.TheVariants.Return c.in-Return.caller) c.args.flow c.args.flow _ c.in-Return.is refl
    (λ k. return_step f c.in-Return.caller fs bs c.give_back.new.locals.items s c.args.flow k (c.give_back.ensures s)) h
