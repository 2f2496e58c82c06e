-- Runs that correspond, where one side makes a step alone.
use Rattle.std.proofs.Common.{refl, sym, subst}
use Rattle.correspondence.specs.Outcome.{Done, Failed, Stopped, Outcome, Ends, done, fault, Then, goes_on, fails, stops}
use Rattle.correspondence.specs.Corresponds.{Corresponds}
use Rattle.correspondence.proofs.Corresponds.{then_corresponds}

-- Two runs with the same ends.
pub record SameEnds {A F : Type 0} (p q : Ends A F) : Type 0 where
  pub there : (o : Outcome A F) → p o → q o
  pub back : (o : Outcome A F) → q o → p o

module _ {A B F G : Type 0} {answers : A → B → Type 0} {faults : F → G → Type 0} where
  pub same_on_left : {p p' : Ends A F} {q : Ends B G} → SameEnds p p' → Corresponds answers faults p' q → Corresponds answers faults p q
  same_on_left s c = record {
    done = λ a x. c.done a (s.there (Done a) x);
    done_back = λ b x. let y = c.done_back b x in (y.0, y.1, s.back (Done y.0) y.2);
    failed = λ f x. c.failed f (s.there (Failed f) x);
    failed_back = λ g x. let y = c.failed_back g x in (y.0, y.1, s.back (Failed y.0) y.2);
    stopped = λ w x. c.stopped w (s.there (Stopped w) x);
    stopped_back = λ w x. s.back (Stopped w) (c.stopped_back w x);
  }

  pub same_on_right : {p : Ends A F} {q q' : Ends B G} → SameEnds q q' → Corresponds answers faults p q' → Corresponds answers faults p q
  same_on_right s c = record {
    done = λ a x. let y = c.done a x in (y.0, y.1, s.back (Done y.0) y.2);
    done_back = λ b x. c.done_back b (s.there (Done b) x);
    failed = λ f x. let y = c.failed f x in (y.0, y.1, s.back (Failed y.0) y.2);
    failed_back = λ g x. c.failed_back g (s.there (Failed g) x);
    stopped = λ w x. s.back (Stopped w) (c.stopped w x);
    stopped_back = λ w x. c.stopped_back w (s.there (Stopped w) x);
  }

module _ {A B F : Type 0} (a : A) (rest : A → Ends B F) where
  from_done : (o : Outcome B F) → Then (done a) rest o → rest a o
  from_done o (goes_on h k) = subst (λ x. rest x o) h k
  from_done _ (fails h) = absurd h
  from_done _ (stops h) = absurd h

  -- a first part that is done with one answer
  pub after_done : SameEnds (Then (done a) rest) (rest a)
  after_done = record { there = from_done; back = λ o k. goes_on refl k }

module _ {A B F : Type 0} (f : F) (rest : A → Ends B F) where
  from_fault : (o : Outcome B F) → Then (fault f) rest o → fault f o
  from_fault o (goes_on h k) = absurd h
  from_fault _ (fails h) = h
  from_fault _ (stops h) = absurd h

  to_fault : (o : Outcome B F) → fault f o → Then (fault {A = A} f) rest o
  to_fault (Failed g) h = fails h
  to_fault _ h = absurd h

  -- a first part that is undefined
  pub after_fault : SameEnds (Then (fault f) rest) (fault f)
  after_fault = record { there = from_fault; back = to_fault }

module _ {A F : Type 0} (p : Ends A F) where
  from_last : (o : Outcome A F) → Then p (λ a. done a) o → p o
  from_last (Done b) (goes_on {a} h k) = subst (λ x. p (Done x)) (sym k) h
  from_last (Failed f) (goes_on h k) = absurd k
  from_last (Stopped w) (goes_on h k) = absurd k
  from_last (Failed f) (fails h) = h
  from_last (Stopped w) (stops h) = h

  to_last : (o : Outcome A F) → p o → Then p (λ a. done a) o
  to_last (Done b) h = goes_on h refl
  to_last (Failed f) h = fails h
  to_last (Stopped w) h = stops h

  -- a last part that does nothing
  pub before_done : SameEnds (Then p (λ a. done a)) p
  before_done = record { there = from_last; back = to_last }

module _ {A B C F : Type 0} (p : Ends A F) (q : A → Ends B F) (r : B → Ends C F) where
  to_right : (o : Outcome C F) → Then (Then p q) r o → Then p (λ a. Then (q a) r) o
  to_right o (goes_on (goes_on h k) l) = goes_on h (goes_on k l)
  to_right _ (fails (goes_on h k)) = goes_on h (fails k)
  to_right _ (fails (fails h)) = fails h
  to_right _ (stops (goes_on h k)) = goes_on h (stops k)
  to_right _ (stops (stops h)) = stops h

  to_left : (o : Outcome C F) → Then p (λ a. Then (q a) r) o → Then (Then p q) r o
  to_left o (goes_on h (goes_on k l)) = goes_on (goes_on h k) l
  to_left _ (goes_on h (fails k)) = fails (goes_on h k)
  to_left _ (goes_on h (stops k)) = stops (goes_on h k)
  to_left _ (fails h) = fails (fails h)
  to_left _ (stops h) = stops (stops h)

  -- the brackets of parts in order
  pub in_brackets : SameEnds (Then (Then p q) r) (Then p (λ a. Then (q a) r))
  in_brackets = record { there = to_right; back = to_left }

module _ {A A' B F G : Type 0} (before : A → B → Type 0) (after : A' → B → Type 0) (faults : F → G → Type 0) where
  -- the left side goes on, and the right side has ended
  pub left_goes_on : (p : Ends A F) (r : A → Ends A' F) (q : Ends B G) → Corresponds before faults p q →
      ((a : A) (b : B) → before a b → Corresponds after faults (r a) (done b)) → Corresponds after faults (Then p r) q
  left_goes_on p r q c k =
      let d : Corresponds after faults (Then p r) (Then q (λ b. done b)) = then_corresponds before after faults p q r (λ b. done b) c k in
      same_on_right (record { there = (before_done q).back; back = (before_done q).there }) d

module _ {A B B' F G : Type 0} (before : A → B → Type 0) (after : A → B' → Type 0) (faults : F → G → Type 0) where
  -- the right side goes on, and the left side has ended
  pub right_goes_on : (p : Ends A F) (q : Ends B G) (r : B → Ends B' G) → Corresponds before faults p q →
      ((a : A) (b : B) → before a b → Corresponds after faults (done a) (r b)) → Corresponds after faults p (Then q r)
  right_goes_on p q r c k =
      let d : Corresponds after faults (Then p (λ a. done a)) (Then q r) = then_corresponds before after faults p q (λ a. done a) r c k in
      same_on_left (record { there = (before_done p).back; back = (before_done p).there }) d
