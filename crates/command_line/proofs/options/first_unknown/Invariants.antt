-- The first among the options that are left is the first of all.
use Rattle.std.proofs.Common.{◌≡◌, map, length}
use Rattle.std.specs.Prelude.{string_bytes}
use Rattle.std.specs.HashSet.{contains_text}
use Rattle.command_line.specs.Words.{first_unknown}
use Rattle.command_line.proofs.options.first_unknown.Given as goal

abbrev pub invariant-options : goal.invariant-options
invariant-options l = first_unknown (λ x. contains_text l.functions x) (map string_bytes l.rest) ≡ first_unknown (λ x. contains_text l.functions x) (map string_bytes l.options)

abbrev pub decreases-options : goal.decreases-options
decreases-options l = length l.rest
