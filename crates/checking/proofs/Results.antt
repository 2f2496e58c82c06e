-- What is told of a result's value, where something more follows from it.
use Rattle.std.specs.Prelude.{Result, Ok, Err, IfOk}

pub of_both : {T E : Type 0} (r : Result T E) (P P' Q : T → Type 0) → ((x : T) → P x → P' x → Q x) → IfOk r P → IfOk r P' → IfOk r Q
of_both (Ok x) P P' Q f h k = f x h k
of_both (Err e) P P' Q f h k = tt
