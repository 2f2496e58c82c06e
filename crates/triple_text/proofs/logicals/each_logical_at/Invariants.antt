-- The logicals so far, and those to come, are the whole.
use Rattle.std.proofs.Common.{◌≡◌, ◌++◌, drop, map}
use Rattle.ac_sx.specs.CodeSx.{trees_in}
use Rattle.expression_text.specs.Reading.{made}
use Rattle.expression_text.specs.Lists.{list_at}
use Rattle.triple_lang.specs.CodeDeriv.{logical_of}
use Rattle.triple_text.specs.TripleReading.{logical_at}
use Rattle.triple_text.proofs.logicals.each_logical_at.Given as goal

abbrev pub invariant-parts : goal.invariant-parts
invariant-parts l = made (λ xs. map logical_of l.logicals.items ++ xs) (list_at logical_at l.here (trees_in (drop l.part-index l.parts))) ≡ list_at logical_at l.fn.at (trees_in l.fn.parts)
