-- The kinds so far, and those to come, are the whole.
use Rattle.std.proofs.Common.{◌≡◌, ◌++◌, drop, map}
use Rattle.ac_sx.specs.CodeSx.{trees_in}
use Rattle.expression_lang.specs.CodeExpression.{kind_of}
use Rattle.expression_text.specs.Reading.{made}
use Rattle.expression_text.specs.Lists.{list_at}
use Rattle.program_text.specs.Kinds.{kind_at}
use Rattle.rule_text.proofs.numbers.each_kind_at.Given as goal

abbrev pub invariant-parts : goal.invariant-parts
invariant-parts l = made (λ ks. map kind_of l.kinds.items ++ ks) (list_at kind_at l.here (trees_in (drop l.part-index l.parts))) ≡ list_at kind_at l.fn.at (trees_in l.fn.parts)
