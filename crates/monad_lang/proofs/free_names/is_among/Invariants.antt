-- None so far is the name.
use Rattle.std.proofs.Common.{◌≡◌, map, drop, string_bytes}
use Rattle.c_values.specs.Name.{is_among}
use Rattle.monad_lang.proofs.free_names.is_among.Given as goal

abbrev pub invariant-names : goal.invariant-names
invariant-names l = is_among l.name (map string_bytes (drop l.other-index l.names)) ≡ is_among l.name (map string_bytes l.names)
