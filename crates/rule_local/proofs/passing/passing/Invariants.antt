-- The names so far are marked where they pass, and no place is from here on.
use Rattle.std.proofs.Common.{◌≡◌, ◌≤◌, ◌<◌, ◌+◌, ℕ, false, map}
use Rattle.c_values.specs.Name.{Name}
use Rattle.expression_lang.specs.CodeSignature.{binder_of}
use Rattle.expression_lang.specs.Signature.{names_of}
use Rattle.rule_local.specs.CodeMarks.{is_marked, IsAt}
use Rattle.rule_local.proofs.passing.passing.Given as goal

abbrev pub invariant-places : goal.invariant-places
invariant-places g l = record {
  along : (i : ℕ) (y : Name) → IsAt (names_of (map binder_of l.window)) (l.place + i) y → IsAt (names_of (map binder_of l.rest)) i y;
  before : (i : ℕ) (y : Name) → i < l.place → IsAt (names_of (map binder_of l.window)) i y → is_marked l.found.bits i ≡ g.T.NameTest.holds l.test y;
  behind : (i : ℕ) → l.place ≤ i → is_marked l.found.bits i ≡ false;
}
