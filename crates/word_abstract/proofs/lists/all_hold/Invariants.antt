-- The conditions that are left, before what is made, are the whole.
use Rattle.std.proofs.Common.{◌≡◌, map, vec_len}
use Rattle.word_abstract.specs.CodeGuards as G
use Rattle.word_abstract.specs.CodeAbstracted.{abstracted_in}
use Rattle.word_abstract.proofs.lists.all_hold.Given as goal

abbrev pub invariant-back : goal.invariant-back
invariant-back l = G.all_hold (map abstracted_in l.before.items) (abstracted_in l.whole) ≡ G.all_hold (map abstracted_in l.initial.before.items) (abstracted_in l.initial.whole)

abbrev pub decreases-back : goal.decreases-back
decreases-back l = vec_len l.before
