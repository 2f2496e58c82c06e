-- What is answered to a memory is answered to its text.
use Rattle.std.proofs.lemmas.Result.{IfOk-weaker}
use Rattle.c_lang.specs.CodeTyped.{unit_of}
use Rattle.memory_text.specs.CodeMemory.{memory_of}
use Rattle.running.proofs.Answered.{from_memory}
use Rattle.running.proofs.answer.with_memory.Goals as goal

pub returns-in-Ok : goal.returns-in-Ok
returns-in-Ok c = λ d a.
    IfOk-weaker c.from_memory.result _ _
    (λ r h. from_memory (unit_of c.args.unit.now) d.functions c.args.memory.now (memory_of c.in-Ok.memory) c.in-Ok.ensures.found c.in-Ok.ensures.within
    r.status r.lines.items h)
    (c.from_memory.ensures d a)
