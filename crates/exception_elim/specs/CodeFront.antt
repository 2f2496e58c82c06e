-- Commands whose last part is apart, with the other parts taken to theirs.
use Rattle.std.specs.Prelude.{◌<◌, ℕ, List, [], ◌∷◌, map}
use Rattle.expression_lang.specs.CodeExpression.{exp_of}
use Rattle.simpl_lang.specs.declared.command.Simpl.{size-Simpl}
use Rattle.simpl_lang.specs.CodeCommand.{condition_of, simpl_of}
use Rattle.exception_elim.specs.declared.fronts.Front as F
use Rattle.exception_elim.specs.declared.translation.Peel as P
use Rattle.exception_elim.specs.CodeDone.{Done, done, done_of, sequence, conditional, guarded, handled, looped}

abbrev pub with_front : F.Front → Done → Done
with_front (F.TheVariants.Seq first) last = sequence (done_of first.value) last
with_front (F.TheVariants.Cond test first) last = conditional (exp_of test.value) (done_of first.value) last
with_front (F.TheVariants.Guard condition) last = guarded (condition_of condition.value) last
with_front (F.TheVariants.Catch body) last = handled (done_of body.value) last
with_front (F.TheVariants.While conditions test) last = looped (map condition_of conditions.items) (exp_of test.value) last

-- the first front first
abbrev pub with_fronts : List F.Front → Done → Done
with_fronts [] last = last
with_fronts (x ∷ xs) last = with_front x (with_fronts xs last)

abbrev pub peeled_in : P.Peel → Done
peeled_in (P.TheVariants.Ended e) = done_of e.value
peeled_in (P.TheVariants.Last front last) = with_front front (done (simpl_of last.now))

abbrev pub LastIsSmaller : P.Peel → ℕ → Type 0
LastIsSmaller (P.TheVariants.Ended e) n = Unit {0}
LastIsSmaller (P.TheVariants.Last front last) n = size-Simpl last.now < n
