-- Each list that is open is within the expression.
use Rattle.std.proofs.Common.{rules, arith}
use Rattle.expression_lang.specs.declared.expression.Exp.{size-Exp}
use Rattle.expression_text.proofs.Writing.{exp_left, exp_closed, within_opened, within_closed, last_smaller}
use Rattle.expression_text.proofs.exp_writing.+written.Goals as goal

pub exp_into-along-preserved : goal.exp_into-along-preserved
exp_into-along-preserved g t c =
    let less = last_smaller (size-Exp c.along.rest.now) c.in_ok-last.field-0 c.in-Some.last c.in-Some.is c.in_ok-last.ensures.smaller in
    let so_far = c.along.invariant.smaller in
    record {
      same =
          exp_left g.W.TreeWriter.writing c.along.lists.items c.push.new.self.items c.along.rest c.in-Some.last c.in_ok-last.field-0 (g.W.TreeWriter.state c.along.out) (g.W.TreeWriter.state c.front_into.new.out) _
          c.in-Some.is c.in_ok-push.ensures.items c.in_ok-last.ensures.same c.along.invariant.same;
      smaller = omega (arith, less, so_far);
      within = within_opened (size-Exp c.args.e.now) c.along.lists.items c.push.new.self.items c.along.rest c.in_ok-push.ensures.items c.along.invariant.within so_far;
    }

pub exp_into-end_into-requires : goal.exp_into-end_into-requires
exp_into-end_into-requires g t c =
    let le = (within_closed (size-Exp c.args.e.now) c.back.lists.items c.pop.new.self.items c.in-Some-pop.list c.in-Some-pop.ensures.items c.back.invariant.within).1 in
    search (rules, le)

pub exp_into-back-preserved : goal.exp_into-back-preserved
exp_into-back-preserved g t c = record {
  same =
      exp_closed g.W.TreeWriter.writing c.back.lists.items c.pop.new.self.items c.in-Some-pop.list (g.W.TreeWriter.state c.back.out) (g.W.TreeWriter.state c.end_into.new.out) _ c.in-Some-pop.ensures.items c.in_ok-end_into.ensures
      c.back.invariant.same;
  within = (within_closed (size-Exp c.args.e.now) c.back.lists.items c.pop.new.self.items c.in-Some-pop.list c.in-Some-pop.ensures.items c.back.invariant.within).0;
}
