-- Each call is of a program that is lighter, or of the same one in a function that is asked for less: a program that is made tidy, one
-- that is no sequence, a sequence whose first part is tidy, one of two tidy programs, and one in which a value is put in.
use Rattle.std.proofs.Common.{suc, ◌+◌, ◌*◌, vec_len, map, string_bytes}
use Rattle.monad_lang.specs.declared.program.Mon.{size-Mon}
use Rattle.monad_lang.specs.Program.{Bind}
use Rattle.monad_lang.specs.CodeProgram.{mon_of}
use Rattle.rule_walks.specs.CodeWalks.{before_in, made_in}
use Rattle.expression_steps.specs.CodePoint.{known_in}
use Rattle.polish.specs.Weight.{weight}
use Rattle.polish.specs.CodeDescent.{IsClimbed, rebuilt}
use Rattle.polish.specs.Followed.{IsOnward}
use Rattle.polish.proofs.polishing.+polishing.Given as goal

abbrev pub decreases-polished_behind : goal.decreases-polished_behind
decreases-polished_behind l = 8 * weight (mon_of l.m.now) + 7

abbrev pub decreases-polished : goal.decreases-polished
decreases-polished l = 8 * weight (mon_of l.m.now) + 6

abbrev pub decreases-single : goal.decreases-single
decreases-single l = 8 * weight (mon_of l.m.now) + 5

abbrev pub decreases-choice : goal.decreases-choice
decreases-choice l = 8 * suc (weight (mon_of l.first.now) + weight (mon_of l.last.now)) + 4

abbrev pub decreases-turning : goal.decreases-turning
decreases-turning l = 8 * suc (weight (mon_of l.body.now)) + 4

abbrev pub decreases-followed : goal.decreases-followed
decreases-followed l =
    8
    * weight
    (rebuilt l.down.parts.items
    (Bind (mon_of l.tidy.program.value) (map string_bytes l.it.names.now) (mon_of l.it.last.now)))
    + 4

abbrev pub decreases-at_bottom : goal.decreases-at_bottom
decreases-at_bottom l =
    8
    * weight
    (rebuilt l.here.down.parts.items
    (Bind (mon_of l.here.first.now) (map string_bytes l.it.names.now) (mon_of l.it.last.now)))
    + 3

abbrev pub decreases-climbed : goal.decreases-climbed
decreases-climbed l = 8 * weight (rebuilt l.down.parts.items (mon_of l.last.program.value)) + 4

abbrev pub decreases-raised : goal.decreases-raised
decreases-raised l =
    8 * weight (Bind (mon_of l.part.first.value) (map string_bytes l.part.names.items) (mon_of l.last.program.value)) + 3

abbrev pub decreases-stepped : goal.decreases-stepped
decreases-stepped l = 8 * weight (Bind (mon_of l.first.value) (map string_bytes l.names.now) (mon_of l.rest.value)) + 2

abbrev pub decreases-turned : goal.decreases-turned
decreases-turned l =
    8
    * weight
    (Bind (Bind (mon_of l.inner.first.now) (map string_bytes l.inner.names.now) (mon_of l.inner.last.now))
    (map string_bytes l.names.now) (mon_of l.rest.now))
    + 1

abbrev pub decreases-put_in : goal.decreases-put_in
decreases-put_in l = 8 * weight (Bind (mon_of l.first.now) (map string_bytes l.names.now) (mon_of l.rest.now))

-- what is left, after what was done before, is what the program is made
abbrev pub invariant-polished-along : goal.invariant-polished-along
invariant-polished-along l =
    IsOnward l.unit l.scope (known_in l.facts) (mon_of l.m) l.down (before_in l.ahead) (mon_of l.rest)

abbrev pub decreases-polished-along : goal.decreases-polished-along
decreases-polished-along l = size-Mon l.rest

-- what was made so far, under what is left of the descent, is what all makes
abbrev pub invariant-climbed-back : goal.invariant-climbed-back
invariant-climbed-back l =
    IsClimbed l.unit l.scope (known_in l.facts) l.fn.down (made_in l.fn.last) l.levels.items l.parts.items (made_in l.new)

abbrev pub decreases-climbed-back : goal.decreases-climbed-back
decreases-climbed-back l = vec_len l.parts
