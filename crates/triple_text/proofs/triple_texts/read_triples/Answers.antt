use Rattle.triple_text.specs.TripleText.{triples_tree}
use Rattle.triple_text.proofs.TextRead.{only_memory, not_text_is_no_memory, deep_is_no_memory, deep_is_text}
use Rattle.triple_text.proofs.triple_texts.read_triples.Goals as goal

pub returns-in-Ok-clause-only : goal.returns-in-Ok-clause-only
returns-in-Ok-clause-only c = λ d is. c.read_tree.ensures.only d (c.in-Ok.ensures.only (triples_tree d) is.0.atoms is.0.depth is.0.spelled, is.1)

pub returns-in-Err-NotText-clause-only : goal.returns-in-Err-NotText-clause-only
returns-in-Err-NotText-clause-only c = λ d is. not_text_is_no_memory c.in-Err-NotText.field-0 c.in-Err-NotText.field-0-0 c.in-Err-NotText.field-0-is (only_memory c.args.bytes.now c.in-Err-NotText.field-0 d c.in-Err-NotText.ensures.only is)

pub returns-in-Err-Deep-clause-only : goal.returns-in-Err-Deep-clause-only
returns-in-Err-Deep-clause-only c = λ d is. deep_is_no_memory c.in-Err-Deep.field-0 c.in-Err-Deep.field-0-0 c.in-Err-Deep.field-0-is (only_memory c.args.bytes.now c.in-Err-Deep.field-0 d c.in-Err-Deep.ensures.only is)

pub returns-in-Err-Deep-clause-no_text : goal.returns-in-Err-Deep-clause-no_text
returns-in-Err-Deep-clause-no_text c = λ at is. deep_is_text c.in-Err-Deep.field-0 c.in-Err-Deep.field-0-0 at c.in-Err-Deep.field-0-is (c.in-Err-Deep.ensures.no_text at is)
