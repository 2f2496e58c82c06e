-- What a loop's look at its guard and its test gives: one more turn, the end, or a failure.
use Rattle.std.proofs.Common.{◌≡◌, Bool, true, false, ◌⊎◌, inl, inr, refl, sym, subst}
use Rattle.std.proofs.lemmas.Bool.{true≢false}
use Rattle.correspondence.specs.Outcome.{Done, Failed, choose, done, fault}
use Rattle.monad_lang.specs.Run.{Answer, Failure}

-- what a look at the guard and the test gives
pub data Looked (guard test : Bool) (a : Answer) : Answer ⊎ Answer → Type 0 where
  enters : guard ≡ true → test ≡ true → Looked guard test a (inl a)
  leaves : guard ≡ true → test ≡ false → Looked guard test a (inr a)

pub looked : (guard test : Bool) (a : Answer) (z : Answer ⊎ Answer) → choose {F = Failure} guard (choose test (done (inl a)) (done (inr a))) (fault tt)
    (Done z) → Looked guard test a z
looked true true a z h = subst (λ y. Looked true true a y) (sym h) (enters refl refl)
looked true false a z h = subst (λ y. Looked true false a y) (sym h) (leaves refl refl)
looked false test a z h = absurd h

pub no_fault : (guard test : Bool) (a : Answer) → guard ≡ true → choose {F = Failure} guard (choose test (done (inl a)) (done (inr a))) (fault tt)
    (Failed tt) → ⊥
no_fault true true a e h = h
no_fault true false a e h = h
no_fault false test a e h = absurd (true≢false (sym e))
