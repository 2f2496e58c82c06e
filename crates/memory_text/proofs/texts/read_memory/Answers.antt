use Rattle.c_lang.specs.CodeTyped.{unit_of}
use Rattle.memory_text.specs.MemoryText.{memory_tree}
use Rattle.memory_text.proofs.ReadBack.{only_memory, not_text_is_no_memory, deep_is_no_memory, deep_is_text}
use Rattle.memory_text.proofs.texts.read_memory.Goals as goal

pub returns-in-Ok-clause-only : goal.returns-in-Ok-clause-only
returns-in-Ok-clause-only c = λ d is few. c.read_tree.ensures.only d (c.in-Ok.ensures.only (memory_tree d) is.0.atoms is.0.depth is.0.spelled, is.1) few

pub returns-in-Ok-clause-turns : goal.returns-in-Ok-clause-turns
returns-in-Ok-clause-turns c = λ d is many. c.read_tree.ensures.turns d (c.in-Ok.ensures.only (memory_tree d) is.0.atoms is.0.depth is.0.spelled, is.1) many

pub returns-in-Err-NotText-clause-only : goal.returns-in-Err-NotText-clause-only
returns-in-Err-NotText-clause-only c = λ d is few.
    not_text_is_no_memory c.in-Err-NotText.field-0 c.in-Err-NotText.field-0-0 c.in-Err-NotText.field-0-is (only_memory (unit_of c.args.unit.now) c.args.bytes.now c.in-Err-NotText.field-0 d c.in-Err-NotText.ensures.only is)

pub returns-in-Err-NotText-clause-turns : goal.returns-in-Err-NotText-clause-turns
returns-in-Err-NotText-clause-turns c = λ d is many.
    not_text_is_no_memory c.in-Err-NotText.field-0 c.in-Err-NotText.field-0-0 c.in-Err-NotText.field-0-is (only_memory (unit_of c.args.unit.now) c.args.bytes.now c.in-Err-NotText.field-0 d c.in-Err-NotText.ensures.only is)

pub returns-in-Err-Deep-clause-only : goal.returns-in-Err-Deep-clause-only
returns-in-Err-Deep-clause-only c = λ d is few.
    deep_is_no_memory c.in-Err-Deep.field-0 c.in-Err-Deep.field-0-0 c.in-Err-Deep.field-0-is (only_memory (unit_of c.args.unit.now) c.args.bytes.now c.in-Err-Deep.field-0 d c.in-Err-Deep.ensures.only is)

pub returns-in-Err-Deep-clause-no_text : goal.returns-in-Err-Deep-clause-no_text
returns-in-Err-Deep-clause-no_text c = λ at is. deep_is_text c.in-Err-Deep.field-0 c.in-Err-Deep.field-0-0 at c.in-Err-Deep.field-0-is (c.in-Err-Deep.ensures.no_text at is)

pub returns-in-Err-Deep-clause-turns : goal.returns-in-Err-Deep-clause-turns
returns-in-Err-Deep-clause-turns c = λ d is many.
    deep_is_no_memory c.in-Err-Deep.field-0 c.in-Err-Deep.field-0-0 c.in-Err-Deep.field-0-is (only_memory (unit_of c.args.unit.now) c.args.bytes.now c.in-Err-Deep.field-0 d c.in-Err-Deep.ensures.only is)
