use Rattle.std.proofs.Common.{◌∙◌, ◌-◌, ◌++◌, [], map, reverse, take, sym, ap}
use Rattle.c_limits.specs.CodeMeasure as machine
use Rattle.c_limits.proofs.LimitsSteps.{gathered_more, gathered_all, gathered_none}
use Rattle.c_limits.proofs.limits.part.gather.Goals as goal
use Rattle.c_limits.proofs.limits.part.gather.Goals.{else-loop-test, then-loop-test+in-None}

pub loop-preserved : goal.loop-preserved
loop-preserved c = gathered_more c.args.count c.loop.counter c.loop.parts.items c.pop.new.self.items c.in-Some.part c.loop.sum c.in_ok-sum-in-Some.sum c.loop-test.true c.in-Some.ensures.items c.in_ok-sum-in-Some.ensures ∙ c.loop.invariant

pub returns : goal.returns
returns c =
    elim c.loop-test.branch [
      | else-loop-test w ↦
          ap (λ v. (machine.part_of c.loop.sum, reverse (map machine.part_of v.items))) w.parts-is
          ∙ sym (gathered_all c.args.count c.loop.counter _ (machine.part_of c.loop.sum) w.loop-test.false)
          ∙ c.loop.invariant
      | then-loop-test+in-None w ↦
          let left = w.in-None.ensures.rest ∙ ap (λ n. take (n - 1) c.loop.parts.items) w.in-None.ensures.cases.0 in
          let stood = w.in-None.ensures.items ∙ ap (λ l. l ++ []) left in
          ap (λ v. (machine.part_of c.loop.sum, reverse (map machine.part_of v.items))) w.parts-is
          ∙ ap (λ l. (machine.part_of c.loop.sum, reverse (map machine.part_of l))) left
          ∙ sym (ap (λ l. machine.gathered machine.cut (c.args.count - c.loop.counter) (reverse (map machine.part_of l)) (machine.part_of c.loop.sum)) stood ∙ gathered_none (c.args.count - c.loop.counter) (machine.part_of c.loop.sum))
          ∙ c.loop.invariant
    ]
