use Rattle.std.proofs.Common.{ap}
use Rattle.std.proofs.lemmas.List.{nil_from_length}
use Rattle.ac_sx.specs.CodeSx.{tree_of, trees_in}
use Rattle.c_memory.specs.Ranges.{run_of}
use Rattle.memory_text.specs.MemoryReading.{chained_at, run_at}
use Rattle.memory_text.proofs.Chained.{chain_more, chain_ended}
use Rattle.memory_text.proofs.range_reading.runs_at.Goals as goal

pub runs-preserved : goal.runs-preserved
runs-preserved c =
    chain_more run_of (run_at c.args.layout.now) c.runs.runs.items c.push.new.self.items c.in_ok-run.run' c.runs.from c.in_ok-run.end c.runs.here c.in_ok-run.behind (trees_in c.runs.rest.now) (trees_in c.in-Some.others.now) (tree_of c.in-Some.part.now)
    (chained_at (run_at c.args.layout.now) 0 c.args.at (trees_in c.args.parts.now)) (ap trees_in c.in-Some.ensures.cases.0) c.in_ok-push.ensures.items c.in_ok-run.ensures c.runs.invariant

pub returns : goal.returns
returns c =
    chain_ended run_of (run_at c.args.layout.now) c.runs.runs.items c.runs.from c.runs.here (trees_in c.runs.rest.now) (chained_at (run_at c.args.layout.now) 0 c.args.at (trees_in c.args.parts.now))
    (ap trees_in (nil_from_length c.runs.rest.now c.in_default.ensures.cases)) c.runs.invariant
