-- The step is accepted, and what comes behind has this verdict.
use Rattle.std.proofs.Common.{inr}
use Rattle.acceptance.proofs.functions.from_heaps.Goals as goal

pub returns-in-Ok : goal.returns-in-Ok
returns-in-Ok c = inr (c.in-Ok.ensures, c.from_words.ensures)
