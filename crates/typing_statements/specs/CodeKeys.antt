-- The keys by which the code finds numbers: the sign and the absolute value.
use Rattle.std.specs.Prelude.{◌≡◌, ℕ, ℤ, pos, int_lt, nat_eq, Bool, ◌&&◌, ◌||◌, List, unsigned_abs}
use Rattle.std.specs.Bool.{beq}
use Rattle.std.specs.List.{list_any}
use Rattle.std.specs.Ordering.{int_eq}
use Rattle.std.specs.HashSet.{HashSet, contains}
use Rattle.std.specs.declared.hash.FoldHasher.{FoldHasher}
use Rattle.std.specs.declared.hash.BuildHasherDefault.{BuildHasherDefault}

abbrev pub Keys : Type 0
Keys = HashSet (Bool × ℕ) (BuildHasherDefault FoldHasher)

abbrev pub key_of : ℤ → Bool × ℕ
key_of n = (int_lt n (pos 0), unsigned_abs n)

abbrev pub key_eq : Bool × ℕ → Bool × ℕ → Bool
key_eq a b = beq a.0 b.0 && nat_eq a.1 b.1

-- the keys are those of these numbers
abbrev pub Finds : Keys → List ℤ → Type 0
Finds keys ns = (n : ℤ) → contains key_eq keys (key_of n) ≡ list_any (int_eq n) ns

-- with the keys of these numbers
abbrev pub Notes : List ℤ → Keys → Keys → Type 0
Notes ns old new = (n : ℤ) → contains key_eq new (key_of n) ≡ (list_any (int_eq n) ns || contains key_eq old (key_of n))
