-- The marks spread from one position after the other.
use Rattle.std.proofs.Common.{rules, arith}
use Rattle.std.proofs.lemmas.Grind.{common_steps}
use Rattle.c_levels.proofs.Spread.{begun, spreads_on, less_left, all_spread}
use Rattle.c_levels.proofs.spreading.spread.Goals as goal

pub work-init : goal.work-init
work-init c = begun _ c.args.start.items c.in_ok-work.work.items (search rules)

pub work-smaller : goal.work-smaller
work-smaller c =
    less_left c.work.marks.items c.pop.new.self.items c.work.work.items c.in-Some.k c.leads.result.now
    (record { marks = c.mark_all.new.marks.items; work = c.mark_all.new.work.items }) (search rules) (search rules)

pub work-preserved : goal.work-preserved
work-preserved c =
    spreads_on _ c.args.start.items c.work.marks.items c.pop.new.self.items c.work.work.items c.in-Some.k c.leads.result.now _
    c.work.invariant (search rules) (search rules) (search rules)

pub returns : goal.returns
returns c = all_spread _ c.args.start.items c.work.marks.items c.work.work.items c.work.invariant (grind (arith, common_steps))
