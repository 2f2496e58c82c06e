-- Marks are kept, and with names behind that are marked all are.
use Rattle.std.proofs.Common.{◌≡◌, ℕ, true, map, string_bytes, length}
use Rattle.c_values.specs.Name.{Name}
use Rattle.rule_word.specs.CodeStretch.{is_marked, are_names_marked}
use Rattle.rule_word.proofs.stretch.with_names.Given as goal

abbrev pub invariant-names : goal.invariant-names
invariant-names l = record {
  kept : (x : Name) → is_marked l.marks x ≡ true → is_marked l.found x ≡ true;
  all : (m : ℕ) → ((x : Name) → is_marked l.found x ≡ true → is_marked m x ≡ true) → are_names_marked m (map string_bytes l.rest) ≡ true →
      are_names_marked m (map string_bytes l.names) ≡ true;
}

abbrev pub decreases-names : goal.decreases-names
decreases-names l = length l.rest
