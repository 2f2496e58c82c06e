-- What corresponds to one, which corresponds to another, corresponds to the other, whatever the faults.
use Rattle.correspondence.specs.Outcome.{Ends}
use Rattle.correspondence.specs.Corresponds.{Corresponds}
use Rattle.correspondence.specs.Related.{BothFail}

pub composed : {A B C F G H : Type 0} {faults : F → G → Type 0} {faults' : G → H → Type 0}
    {p : Ends A F} {q : Ends B G} {r : Ends C H} (first : A → B → Type 0) (second : B → C → Type 0) (all : A → C → Type 0) →
    ((a : A) (b : B) (c : C) → first a b → second b c → all a c) →
    Corresponds first faults p q → Corresponds second faults' q r → Corresponds all BothFail p r
composed first second all join h k = record {
  done = λ a x. let y = h.done a x in let z = k.done y.0 y.2 in (z.0, join a y.0 z.0 y.1 z.1, z.2);
  done_back = λ c x. let y = k.done_back c x in let z = h.done_back y.0 y.2 in (z.0, join z.0 y.0 c z.1 y.1, z.2);
  failed = λ f x. let y = h.failed f x in let z = k.failed y.0 y.2 in (z.0, tt, z.2);
  failed_back = λ f x. let y = k.failed_back f x in let z = h.failed_back y.0 y.2 in (z.0, tt, z.2);
  stopped = λ w x. k.stopped w (h.stopped w x);
  stopped_back = λ w x. h.stopped_back w (k.stopped_back w x);
}
