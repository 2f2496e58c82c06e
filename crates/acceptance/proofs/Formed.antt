-- A step that is accepted is formed.
use Rattle.std.proofs.Common.{◌≡◌, Bool, true, false, Ok, Err, refl}
use Rattle.std.specs.Prelude.{◌&&◌}
use Rattle.std.proofs.lemmas.Bool.{and_parts}
use Rattle.acceptance.specs.Verdict.{Answer, IsFormed}

formed : (b : Bool) (V : Answer → Type 0) → IsFormed b V (Ok tt) → b ≡ true
formed true V h = refl
formed false V h = absurd (let e : Ok tt ≡ Err 0 = h in cc)

pub is_formed : (a b : Bool) (V : Answer → Type 0) → IsFormed (a && b) V (Ok tt) → a ≡ true
is_formed a b V h = (and_parts a b (formed (a && b) V h)).0
