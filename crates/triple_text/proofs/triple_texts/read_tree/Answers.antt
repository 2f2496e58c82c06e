use Rattle.std.proofs.Common.{map}
use Rattle.ac_sx.specs.CodeSx.{tree_of}
use Rattle.triple_lang.specs.CodeDeriv.{triple_of}
use Rattle.triple_text.specs.TripleText.{triples_tree, are_triples}
use Rattle.triple_text.specs.TripleReading.{triples_at}
use Rattle.triple_text.proofs.TripleLaws.{triples_read, triples_spell}
use Rattle.triple_text.proofs.ReadBack.{only, not_refused}
use Rattle.triple_text.proofs.triple_texts.read_tree.Goals as goal

pub returns-in-Ok-clause-found : goal.returns-in-Ok-clause-found
returns-in-Ok-clause-found c = triples_spell (tree_of c.args.tree.now) 0 (map triple_of c.in-Ok.triples.items) _ c.in-Ok.ensures

pub returns-in-Ok-clause-only : goal.returns-in-Ok-clause-only
returns-in-Ok-clause-only c = λ ts is. only triples_at triples_tree are_triples triples_read (tree_of c.args.tree.now) (map triple_of c.in-Ok.triples.items) _ ts c.in-Ok.ensures is

pub returns-in-Err-clause-only : goal.returns-in-Err-clause-only
returns-in-Err-clause-only c = λ ts is. not_refused triples_at triples_tree are_triples triples_read ts (tree_of c.args.tree.now) c.in-Err.fault c.in-Err.ensures is
