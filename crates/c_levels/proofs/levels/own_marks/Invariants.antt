-- The marks so far.
use Rattle.std.proofs.Common.{◌≡◌, map, take}
use Rattle.std.specs.HashSet.{contains_text}
use Rattle.c_lang.specs.CodeTyped.{function_of}
use Rattle.c_levels.specs.CodeCalls.{is_start}
use Rattle.c_levels.proofs.levels.own_marks.Given as goal

abbrev pub invariant-loop-f : goal.invariant-loop-f
invariant-loop-f l = l.marks.items ≡ map (is_start (λ q. contains_text l.chosen q)) (map function_of (take l.f-index l.functions))
