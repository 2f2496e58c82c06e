-- The names so far, and those to come, are the whole.
use Rattle.std.proofs.Common.{◌≡◌, [], ◌++◌, drop, map, string_bytes}
use Rattle.ac_sx.specs.CodeSx.{trees_in}
use Rattle.expression_text.specs.Reading.{made}
use Rattle.expression_text.specs.Lists.{named_at, new_name_at}
use Rattle.expression_text.proofs.list_reading.new_names_at.Given as goal

abbrev pub invariant-parts : goal.invariant-parts
invariant-parts l =
    made (λ xs. map string_bytes l.names.items ++ xs) (named_at (λ x. x) new_name_at (map string_bytes l.names.items) l.at (trees_in (drop l.part-index l.parts)))
    ≡ named_at (λ x. x) new_name_at [] l.fn.at (trees_in l.fn.parts)
