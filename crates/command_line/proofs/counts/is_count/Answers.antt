use Rattle.std.proofs.Common.{rules, tests}
use Rattle.std.proofs.lemmas.Iterator.{YieldsList-from_slice}
use Rattle.std.proofs.lemmas.Iterator.Search.{all_from_yields_List}
use Rattle.command_line.specs.Words.{is_digit}
use Rattle.command_line.proofs.WordLists.{is_count-other}
use Rattle.command_line.proofs.counts.is_count.Goals as goal

pub returns-then-word-le9 : goal.returns-then-word-le9
returns-then-word-le9 c =
    is_count-other _ _ _ _ c.in-Some.ensures.cases.0 c.if-first-eq48.false c.if-word-le9.true
    (all_from_yields_List is_digit _ _ c.all.result c.all.ensures.ran (YieldsList-from_slice c.args.word.now cc) (λ x b q k. search (rules, tests)))
