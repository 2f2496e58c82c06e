use Rattle.ac_sx.specs.CodeSx.{tree_of}
use Rattle.rule_heap.specs.CodeRule as code
use Rattle.rule_text.proofs.ReadBack.{heap_found, heap_only, heap_not_refused}
use Rattle.rule_text.proofs.texts.read_heap_tree.Goals as goal

pub returns-in-Ok-clause-found : goal.returns-in-Ok-clause-found
returns-in-Ok-clause-found c = heap_found (tree_of c.args.tree.now) (code.tree_of c.in-Ok.rules) _ c.in-Ok.ensures

pub returns-in-Ok-clause-only : goal.returns-in-Ok-clause-only
returns-in-Ok-clause-only c = λ x is. heap_only (tree_of c.args.tree.now) (code.tree_of c.in-Ok.rules) _ x c.in-Ok.ensures is

pub returns-in-Err-clause-only : goal.returns-in-Err-clause-only
returns-in-Err-clause-only c = λ x is. heap_not_refused x (tree_of c.args.tree.now) c.in-Err.fault c.in-Err.ensures is
