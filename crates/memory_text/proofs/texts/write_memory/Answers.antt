use Rattle.std.proofs.lemmas.Result.{IfOk-weaker}
use Rattle.memory_text.specs.CodeMemory.{memory_of}
use Rattle.memory_text.proofs.ReadBack.{written}
use Rattle.memory_text.proofs.texts.write_memory.Goals as goal

pub returns-clause-read_again : goal.returns-clause-read_again
returns-clause-read_again c = λ u is shallow. IfOk-weaker c.memory_text.result _ _ (λ text same. written u (memory_of c.args.memory.now) text.items is shallow same) c.memory_text.ensures
