-- The memory names a function, which is found at its place.
use Rattle.std.proofs.Common.{◌≡◌, map, Some, sym, subst, arith}
use Rattle.std.specs.Prelude.{slice_get}
use Rattle.c_lang.specs.CodeTyped.{function_of}
use Rattle.memory_text.specs.CodeMemory.{memory_of}
use Rattle.running.proofs.Starts.{function_found}
use Rattle.running.proofs.answer.from_memory.Goals as goal

pub run_lines-requires-clause-start : goal.run_lines-requires-clause-start
run_lines-requires-clause-start c =
    let fs = c.args.unit.now.functions.items in
    let (named, there) = function_found fs c.deref.result.now c.in-Some.at c.as_str.result.now (memory_of c.args.memory.now).function c.index.result.now
    c.deref.ensures.value c.as_str.ensures.value c.in-Some.ensures.found c.index.ensures in
    let same : c.in-Ok-try_from.position ≡ c.in-Some.at = omega (arith, c.in-Ok-try_from.ensures) in
    record {
      typed = c.requires.typed;
      memory = c.requires.memory;
      named = named;
      there = subst (λ k. slice_get (map function_of fs) k ≡ Some (function_of c.index.result.now)) (sym same) there;
      heap = c.in-Ok.ensures.heap;
      tagged = c.in-Ok.ensures.well_tagged;
    }
