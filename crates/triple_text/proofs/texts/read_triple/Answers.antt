use Rattle.ac_sx.specs.CodeSx.{tree_of}
use Rattle.triple_lang.specs.CodeDeriv.{triple_of}
use Rattle.triple_text.specs.TripleText.{triple_tree, is_triple}
use Rattle.triple_text.specs.TripleReading.{triple_at}
use Rattle.triple_text.proofs.TripleLaws.{triple_reads, triple_spells}
use Rattle.triple_text.proofs.ReadBack.{only, not_refused}
use Rattle.triple_text.proofs.texts.read_triple.Goals as goal

pub returns-in-Ok-clause-found : goal.returns-in-Ok-clause-found
returns-in-Ok-clause-found c = triple_spells (tree_of c.args.tree.now) 0 (triple_of c.in-Ok.triple) _ c.in-Ok.ensures

pub returns-in-Ok-clause-only : goal.returns-in-Ok-clause-only
returns-in-Ok-clause-only c = λ t is. only triple_at triple_tree is_triple triple_reads (tree_of c.args.tree.now) (triple_of c.in-Ok.triple) _ t c.in-Ok.ensures is

pub returns-in-Err-clause-only : goal.returns-in-Err-clause-only
returns-in-Err-clause-only c = λ t is. not_refused triple_at triple_tree is_triple triple_reads t (tree_of c.args.tree.now) c.in-Err.fault c.in-Err.ensures is
