-- The calls so far, and then those of the functions that are left.
use Rattle.std.proofs.Common.{◌≡◌, ◌+◌, ◌++◌, map, length}
use Rattle.c_lang.specs.CodeTyped.{function_of}
use Rattle.c_levels.specs.CodeCalls.{call_of, calls_from}
use Rattle.c_levels.proofs.called.calls.Given as goal

abbrev pub invariant-rest : goal.invariant-rest
invariant-rest l = record {
  same : map call_of l.calls.items ++ calls_from l.caller (map function_of l.rest) ≡ calls_from 0 (map function_of l.functions);
  count : l.caller + length l.rest ≡ length l.functions;
}

abbrev pub decreases-rest : goal.decreases-rest
decreases-rest l = length l.rest
