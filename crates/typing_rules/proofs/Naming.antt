-- The name of a variable that others of the name stand before.
use Rattle.std.proofs.Common.{◌≡◌, ℕ, ◌+◌, ◌++◌, nat_eq, false, codes, arith}
use Rattle.std.proofs.lemmas.Bool.Decides.{nat_tests}
use Rattle.std.specs.Fmt.{decimal}
use Rattle.c_values.specs.Name.{Name}
use Rattle.typing_rules.specs.Progress.{numbered}

pub numbered_again : (x : Name) (k : ℕ) → (k ≡ 0 → ⊥) → numbered x k ≡ x ++ codes "$" ++ decimal (k + 1)
numbered_again x k more = let e : nat_eq k 0 ≡ false = grind (arith, nat_tests) in rw e
