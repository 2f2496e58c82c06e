-- What came between the facts that are left and the place filters them.
use Rattle.std.proofs.Common.{◌≡◌, ◌↔◌, ◌⊎◌, inl, inr, IsTrue, Bool, true, false, subst, sym, ◌∙◌}
use Rattle.std.proofs.lemmas.Bool.{false≢true}
use Rattle.ac_expr.specs.Known.{SomeFact}
use Rattle.ac_expr.specs.CodeChain.{facts_of}
use Rattle.ac_expr.specs.CodeLasting.{lasts}
use Rattle.ac_expr.specs.Guarded.{Lasting}
use Rattle.ac_expr.proofs.LastingFacts.{past_name, past_change, past_parts, chain}
use Rattle.ac_expr.proofs.knowing.+some.Goals as goal

-- one of two ways, of which the first is open or shut
first_open : {A B C D : Type 0} (b : Bool) → b ≡ true → (IsTrue b ↔ A) → ((A ⊎ B) ↔ C) → (C ↔ D) → IsTrue b ↔ D
first_open b e f g h = ((λ i. h.0 (g.0 (inl (f.0 i)))), (λ d. e))

first_shut : {A B C D : Type 0} (b r : Bool) → b ≡ false → (IsTrue b ↔ A) → (IsTrue r ↔ B) → ((A ⊎ B) ↔ C) → (C ↔ D) → IsTrue r ↔ D
first_shut {A} {B} b r e f i g h = ((λ k. h.0 (g.0 (inr (i.0 k)))), (λ d. by_way (g.1 (h.1 d))))
  where
    by_way : A ⊎ B → IsTrue r
    by_way (inl a) = absurd (false≢true (sym e ∙ f.1 a))
    by_way (inr k) = i.1 k

pub returns-in-Bound : goal.returns-in-Bound
returns-in-Bound g t c =
    chain c.some.ensures (past_name (g.T.FactTest.Passes c.args.test.now) (lasts g.S.Sequence.parts c.args.after.now) c.in-Bound.name.now (facts_of g.S.Sequence.parts c.in-Bound.older.now))
    (subst (λ q. SomeFact (Lasting (g.T.FactTest.Passes c.args.test.now) (lasts g.S.Sequence.parts c.args.after.now)) (facts_of g.S.Sequence.parts q) ↔ SomeFact (Lasting (g.T.FactTest.Passes c.args.test.now) (lasts g.S.Sequence.parts c.args.after.now)) (facts_of g.S.Sequence.parts c.args.facts.now))
    c.in-Bound.is c.links.invariant.same)

pub returns-in-WithoutReads : goal.returns-in-WithoutReads
returns-in-WithoutReads g t c =
    chain c.some-in-WithoutReads.ensures (past_change (g.T.FactTest.Passes c.args.test.now) (lasts g.S.Sequence.parts c.args.after.now) (facts_of g.S.Sequence.parts c.in-WithoutReads.older.now))
    (subst (λ q. SomeFact (Lasting (g.T.FactTest.Passes c.args.test.now) (lasts g.S.Sequence.parts c.args.after.now)) (facts_of g.S.Sequence.parts q) ↔ SomeFact (Lasting (g.T.FactTest.Passes c.args.test.now) (lasts g.S.Sequence.parts c.args.after.now)) (facts_of g.S.Sequence.parts c.args.facts.now))
    c.in-WithoutReads.is c.links.invariant.same)

pub returns-then-some_guard : goal.returns-then-some_guard
returns-then-some_guard g t c =
    first_open c.some_guard.result c.if-some_guard.true c.some_guard.ensures
    (past_parts (g.T.FactTest.Passes c.args.test.now) (lasts g.S.Sequence.parts c.args.after.now) c.in-Passed.count (g.S.Sequence.parts c.in-Passed.parts) (facts_of g.S.Sequence.parts c.in-Passed.older.now))
    (subst (λ q. SomeFact (Lasting (g.T.FactTest.Passes c.args.test.now) (lasts g.S.Sequence.parts c.args.after.now)) (facts_of g.S.Sequence.parts q) ↔ SomeFact (Lasting (g.T.FactTest.Passes c.args.test.now) (lasts g.S.Sequence.parts c.args.after.now)) (facts_of g.S.Sequence.parts c.args.facts.now))
    c.in-Passed.is c.links.invariant.same)

pub returns-else-some_guard : goal.returns-else-some_guard
returns-else-some_guard g t c =
    first_shut c.some_guard.result c.some-else-some_guard.result c.if-some_guard.false c.some_guard.ensures c.some-else-some_guard.ensures
    (past_parts (g.T.FactTest.Passes c.args.test.now) (lasts g.S.Sequence.parts c.args.after.now) c.in-Passed.count (g.S.Sequence.parts c.in-Passed.parts) (facts_of g.S.Sequence.parts c.in-Passed.older.now))
    (subst (λ q. SomeFact (Lasting (g.T.FactTest.Passes c.args.test.now) (lasts g.S.Sequence.parts c.args.after.now)) (facts_of g.S.Sequence.parts q) ↔ SomeFact (Lasting (g.T.FactTest.Passes c.args.test.now) (lasts g.S.Sequence.parts c.args.after.now)) (facts_of g.S.Sequence.parts c.args.facts.now))
    c.in-Passed.is c.links.invariant.same)
