-- What the code does to a sequence before it turns it.
use Rattle.monad_lang.specs.CodeProgram.{mon_of}
use Rattle.rule_walks.specs.CodeWalks.{walk_in}
use Rattle.polish.specs.declared.descent.Parted as P
use Rattle.polish.specs.Seen.{SeenParted}

abbrev pub parted_in : P.Parted → SeenParted
parted_in p = record { before = walk_in p.before; second = mon_of p.second.now; walk = walk_in p.walk }
