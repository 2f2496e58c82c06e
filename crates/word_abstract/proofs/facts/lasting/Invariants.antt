-- Those that are kept are those that last of what was gone through.
use Rattle.std.proofs.Common.{◌≡◌, List, map, string_bytes}
use Rattle.ac_expr.specs.Fact.{Fact}
use Rattle.word_abstract.specs.CodeKnown.{newest_first}
use Rattle.word_abstract.specs.CodeFacts.{fact_in}
use Rattle.word_abstract.proofs.KnownLaws.{kept}
use Rattle.word_abstract.proofs.facts.lasting.Given as goal

abbrev pub invariant-along : goal.invariant-along
invariant-along l = (older : List Fact) → newest_first (map fact_in l.kept.items) (kept (map string_bytes l.names) l.changes older) ≡ kept (map string_bytes l.names) l.changes (newest_first (map fact_in l.yielded) older)
