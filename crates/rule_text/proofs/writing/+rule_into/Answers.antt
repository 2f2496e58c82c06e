use Rattle.std.proofs.Common.{arith}
use Rattle.rule_text.proofs.Written.{leaf_written, node_begun, part_written, last_left, fewer, fewer_behind}
use Rattle.rule_text.proofs.writing.+rule_into.Goals as goal

pub parts-init : goal.parts-init
parts-init g t c = record {
  same =
      node_begun g.R.RuleText.its_word g.R.RuleText.its_data g.W.TreeWriter.writing c.along.lists.items c.along.rest.now c.deref.result.now c.in-Some.others.now c.in-Some.last.now (g.W.TreeWriter.state c.along.out) (g.W.TreeWriter.state c.headed_into.new.out) _
      c.deref.ensures.value c.in-Some.ensures.cases.0 c.in_ok-headed_into.ensures c.along.invariant.same;
  smaller = let h = fewer c.along.rest.now c.deref.result.now c.in-Some.others.now c.in-Some.last.now c.deref.ensures.value c.in-Some.ensures.cases.0 in omega arith;
}

pub parts-preserved : goal.parts-preserved
parts-preserved g t c = record {
  same =
      part_written g.R.RuleText.its_word g.R.RuleText.its_data g.W.TreeWriter.writing c.along.lists.items c.parts.left.now c.in-Some-split_first.behind.now c.in-Some-split_first.part.now c.in-Some.last.now (g.W.TreeWriter.state c.parts.out) (g.W.TreeWriter.state c.rule_into.new.out) _
      c.in-Some-split_first.ensures.cases.0 c.in_ok-rule_into.ensures c.parts.invariant.same;
  smaller = let h = fewer_behind c.parts.left.now c.in-Some-split_first.behind.now c.in-Some-split_first.part.now c.in-Some-split_first.ensures.cases.0 in omega (arith, c.parts.invariant.smaller);
}

pub along-smaller : goal.along-smaller
along-smaller g t c = let h = fewer c.along.rest.now c.deref.result.now c.in-Some.others.now c.in-Some.last.now c.deref.ensures.value c.in-Some.ensures.cases.0 in omega arith

pub along-preserved : goal.along-preserved
along-preserved g t c = record {
  same =
      last_left g.R.RuleText.its_word g.R.RuleText.its_data g.W.TreeWriter.writing c.along.lists.items c.push.new.self.items c.along.rest c.parts.left.now c.in-Some.last.now (g.W.TreeWriter.state c.parts.out) _
      c.in_default-split_first.ensures.cases c.in_ok-push.ensures.items c.parts.invariant.same;
  smaller = let h = c.parts.invariant.smaller in omega arith;
}

pub back-init : goal.back-init
back-init g t c =
    leaf_written g.R.RuleText.its_word g.R.RuleText.its_data g.W.TreeWriter.writing c.along.lists.items c.along.rest.now c.deref.result.now (g.W.TreeWriter.state c.along.out) (g.W.TreeWriter.state c.leaf_into.new.out) _
    c.deref.ensures.value c.in_default.ensures.cases c.in_ok-leaf_into.ensures c.along.invariant.same
