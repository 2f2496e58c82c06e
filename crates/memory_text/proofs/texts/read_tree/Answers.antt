use Rattle.std.proofs.Common.{ap, inr}
use Rattle.ac_sx.specs.CodeSx.{tree_of}
use Rattle.c_lang.specs.CodeTyped.{unit_of}
use Rattle.memory_text.specs.declared.fault.MemoryFault.TheVariants.{Text}
use Rattle.memory_text.specs.CodeMemory.{memory_of}
use Rattle.memory_text.proofs.ReadBack.{found, only, too_many, not_few, not_many, not_refused}
use Rattle.memory_text.proofs.texts.read_tree.Goals as goal

pub returns-then-memory-gt-MOST_TURNS-clause-only : goal.returns-then-memory-gt-MOST_TURNS-clause-only
returns-then-memory-gt-MOST_TURNS-clause-only c = λ d is few.
    not_few (unit_of c.args.unit.now) (tree_of c.args.tree.now) (memory_of c.in-Ok.memory) d _ c.in-Ok.ensures c.if-memory-gt-MOST_TURNS.true is few

pub returns-then-memory-gt-MOST_TURNS-clause-fault : goal.returns-then-memory-gt-MOST_TURNS-clause-fault
returns-then-memory-gt-MOST_TURNS-clause-fault c =
    too_many (unit_of c.args.unit.now) (tree_of c.args.tree.now) (memory_of c.in-Ok.memory) _ c.in-Ok.ensures c.if-memory-gt-MOST_TURNS.true

pub returns-else-memory-gt-MOST_TURNS-clause-found : goal.returns-else-memory-gt-MOST_TURNS-clause-found
returns-else-memory-gt-MOST_TURNS-clause-found c =
    found (unit_of c.args.unit.now) (tree_of c.args.tree.now) (memory_of c.in-Ok.memory) _ c.in-Ok.ensures c.if-memory-gt-MOST_TURNS.false

pub returns-else-memory-gt-MOST_TURNS-clause-only : goal.returns-else-memory-gt-MOST_TURNS-clause-only
returns-else-memory-gt-MOST_TURNS-clause-only c = λ d is few.
    only (unit_of c.args.unit.now) (tree_of c.args.tree.now) (memory_of c.in-Ok.memory) d _ c.in-Ok.ensures is few

pub returns-else-memory-gt-MOST_TURNS-clause-turns : goal.returns-else-memory-gt-MOST_TURNS-clause-turns
returns-else-memory-gt-MOST_TURNS-clause-turns c = λ d is many.
    not_many (unit_of c.args.unit.now) (tree_of c.args.tree.now) (memory_of c.in-Ok.memory) d _ c.in-Ok.ensures c.if-memory-gt-MOST_TURNS.false is many

pub returns-in-Err-clause-only : goal.returns-in-Err-clause-only
returns-in-Err-clause-only c = λ d is few. ap Text (not_refused (unit_of c.args.unit.now) (tree_of c.args.tree.now) d c.in-Err.fault c.in-Err.ensures is)

pub returns-in-Err-clause-turns : goal.returns-in-Err-clause-turns
returns-in-Err-clause-turns c = λ d is many. inr (ap Text (not_refused (unit_of c.args.unit.now) (tree_of c.args.tree.now) d c.in-Err.fault c.in-Err.ensures is))
