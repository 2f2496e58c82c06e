-- The step's left side is the program before it.
use Rattle.std.proofs.Common.{inr}
use Rattle.acceptance.proofs.functions.from_words.Goals as goal

pub returns-in-Ok : goal.returns-in-Ok
returns-in-Ok c = inr (rw (c.deref.ensures, c.before_words-left.ensures) at c.in-Ok.ensures, c.from_equality.ensures)
