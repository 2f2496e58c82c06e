-- A program after the steps that the code makes in its expressions.
use Rattle.monad_lang.specs.Program.{Mon}
use Rattle.monad_lang.specs.CodeProgram.{mon_of}
use Rattle.rule_walks.specs.Walk.{stays, Goes, Walked, walked}
use Rattle.rule_walks.specs.CodeWalks.{chain_in}
use Rattle.polish.specs.declared.rewriting.Rewritten as R

abbrev pub rewritten_in : R.Rewritten → Mon → Walked
rewritten_in R.TheVariants.Same m = walked m stays
rewritten_in (R.TheVariants.New p c) m = walked (mon_of p.value) (Goes (chain_in c))
