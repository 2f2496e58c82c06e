-- Of tests that are joined.
use Rattle.std.proofs.Common.{◌≡◌, Bool, true, ◌&&◌}
use Rattle.std.proofs.lemmas.Bool.{and_parts, and_from}

-- each by that in its place
pub both : (a b c d : Bool) → (a ≡ true → c ≡ true) → (b ≡ true → d ≡ true) → a && b ≡ true → c && d ≡ true
both a b c d f g h = let p = and_parts a b h in and_from c d (f p.0) (g p.1)

pub first : (a b : Bool) → a && b ≡ true → a ≡ true
first a b h = (and_parts a b h).0

pub second : (a b : Bool) → a && b ≡ true → b ≡ true
second a b h = (and_parts a b h).1
