-- The expressions so far, and those to come, are the whole.
use Rattle.std.proofs.Common.{◌≡◌, ◌++◌, drop, map}
use Rattle.ac_sx.specs.CodeSx.{trees_in}
use Rattle.expression_lang.specs.CodeExpression.{exp_of}
use Rattle.expression_text.specs.Reading.{made}
use Rattle.expression_text.specs.Lists.{exps_at}
use Rattle.expression_text.proofs.list_reading.exps_at.Given as goal

abbrev pub invariant-parts : goal.invariant-parts
invariant-parts l = made (λ es. map exp_of l.exps.items ++ es) (exps_at l.at (trees_in (drop l.part-index l.parts))) ≡ exps_at l.fn.at (trees_in l.fn.parts)
