-- The facts so far, and those to come, are the whole.
use Rattle.std.proofs.Common.{◌≡◌, ◌++◌, drop, map}
use Rattle.ac_sx.specs.CodeSx.{trees_in}
use Rattle.expression_text.specs.Reading.{made}
use Rattle.expression_text.specs.Lists.{list_at}
use Rattle.triple_lang.specs.CodeEntail.{weighed_of}
use Rattle.triple_text.specs.EntailReading.{weighed_at}
use Rattle.triple_text.proofs.entail_reading.each_weighed_at.Given as goal

abbrev pub invariant-parts : goal.invariant-parts
invariant-parts l = made (λ xs. map weighed_of l.facts.items ++ xs) (list_at weighed_at l.here (trees_in (drop l.part-index l.parts))) ≡ list_at weighed_at l.fn.at (trees_in l.fn.parts)
