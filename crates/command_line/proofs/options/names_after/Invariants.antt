-- The names that were found, and then those of the options that are left.
use Rattle.std.proofs.Common.{◌≡◌, ◌++◌, map, length}
use Rattle.std.specs.Prelude.{string_bytes}
use Rattle.command_line.specs.Words.{after_start}
use Rattle.command_line.proofs.options.names_after.Given as goal

abbrev pub invariant-options : goal.invariant-options
invariant-options l = map string_bytes l.names.items ++ after_start l.start (map string_bytes l.rest) ≡ after_start l.start (map string_bytes l.options)

abbrev pub decreases-options : goal.decreases-options
decreases-options l = length l.rest
