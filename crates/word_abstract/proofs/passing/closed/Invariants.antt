-- The fronts that are left, around what is made, are the whole.
use Rattle.std.proofs.Common.{◌≡◌, vec_len}
use Rattle.word_abstract.specs.CodeTranslated.{translated_in}
use Rattle.word_abstract.specs.CodeFronts.{with_fronts}
use Rattle.word_abstract.proofs.passing.closed.Given as goal

abbrev pub invariant-back : goal.invariant-back
invariant-back l = with_fronts l.fronts.items (translated_in l.whole.value) ≡ with_fronts l.initial.fronts.items (translated_in l.initial.whole.value)

abbrev pub decreases-back : goal.decreases-back
decreases-back l = vec_len l.fronts
