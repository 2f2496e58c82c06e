use Rattle.std.proofs.Common.{Option, sym, subst, ap}
use Rattle.std.specs.Option.{option_map}
use Rattle.simpl_lang.specs.Command.{Simpl}
use Rattle.simpl_lang.specs.CodeCommand.{simpl_of}
use Rattle.monad_lang.specs.Program.{Mon}
use Rattle.monad_lang.specs.CodeProgram.{mon_of}
use Rattle.rule_heap.specs.CodeRule as heaps
use Rattle.acceptance.specs.CodeCertificate.{step_of, steps_of}
use Rattle.acceptance.specs.declared.places.Phase.TheVariants as P
use Rattle.refused_parts.specs.Parts.{Command, Program}
use Rattle.refused_parts.specs.CodeParts.{part_of}
use Rattle.refused_parts.specs.CodeInside.{exception_inside, local_inside, heap_inside, word_inside, equal_inside}
use Rattle.refused_parts.specs.CodeWalks.{IsFound}
use Rattle.refused_parts.proofs.Answers.{at_phase, exception_answer, local_answer, heap_answer, word_answer, equal_answer}
use Rattle.refused_parts.proofs.parts.part_at.Goals as goal

pub returns-in_ok-numbered-in-Exception : goal.returns-in_ok-numbered-in-Exception
returns-in_ok-numbered-in-Exception c = λ u f s is v below.
    let steps = steps_of c.args.steps.now in
    let n = c.args.place.node in
    let o : Option Simpl = option_map (λ m. simpl_of m.now) c.in_ok-numbered-in-Exception.field-0 in
    at_phase u f s steps c.args.place P.Exception c.in-Exception.is (option_map part_of c.command.result) (option_map Command o) c.command.ensures
    (exception_answer u f s steps n below o (subst (λ body. IsFound exception_inside steps.exception.tree body n o) (sym is) c.in_ok-numbered-in-Exception.ensures)) v

pub returns-in_ok-numbered-in-Local : goal.returns-in_ok-numbered-in-Local
returns-in_ok-numbered-in-Local c = λ u f s is v below.
    let steps = steps_of c.args.steps.now in
    let n = c.args.place.node in
    let o : Option Simpl = option_map (λ m. simpl_of m.now) c.in_ok-numbered-in-Local.field-0 in
    at_phase u f s steps c.args.place P.Local c.in-Local.is (option_map part_of c.command-in-Local.result) (option_map Command o) c.command-in-Local.ensures
    (local_answer u f s steps n below o (subst (λ m. IsFound local_inside steps.local.tree (simpl_of m) n o) c.deref-left.ensures c.in_ok-numbered-in-Local.ensures)) v

pub returns-in_ok-numbered-in-Some : goal.returns-in_ok-numbered-in-Some
returns-in_ok-numbered-in-Some c = λ u f s is v below.
    let steps = steps_of c.args.steps.now in
    let step = step_of mon_of heaps.rule_of c.in-Some.step in
    let n = c.args.place.node in
    let o : Option Mon = option_map (λ m. mon_of m.now) c.in_ok-numbered-in-Some.field-0 in
    at_phase u f s steps c.args.place P.Heap c.in-Heap.is (option_map part_of c.program.result) (option_map Program o) c.program.ensures
    (heap_answer u f s steps n below step o (ap (option_map (step_of mon_of heaps.rule_of)) c.in-Some.is)
    (subst (λ m. IsFound heap_inside step.tree (mon_of m) n o) c.deref-left-in-Some.ensures c.in_ok-numbered-in-Some.ensures)) v

pub returns-in_ok-numbered-in-Word : goal.returns-in_ok-numbered-in-Word
returns-in_ok-numbered-in-Word c = λ u f s is v below.
    let steps = steps_of c.args.steps.now in
    let n = c.args.place.node in
    let o : Option Mon = option_map (λ m. mon_of m.now) c.in_ok-numbered-in-Word.field-0 in
    at_phase u f s steps c.args.place P.Word c.in-Word.is (option_map part_of c.program-in-Word.result) (option_map Program o) c.program-in-Word.ensures
    (word_answer u f s steps n below o (subst (λ m. IsFound word_inside steps.word.tree m n o) c.before_words-left.ensures c.in_ok-numbered-in-Word.ensures)) v

pub returns-in_ok-numbered-in-Equal : goal.returns-in_ok-numbered-in-Equal
returns-in_ok-numbered-in-Equal c = λ u f s is v below.
    let steps = steps_of c.args.steps.now in
    let n = c.args.place.node in
    let o : Option Mon = option_map (λ m. mon_of m.now) c.in_ok-numbered-in-Equal.field-0 in
    at_phase u f s steps c.args.place P.Equal c.in-Equal.is (option_map part_of c.program-in-Equal.result) (option_map Program o) c.program-in-Equal.ensures
    (equal_answer u f s steps n below o (subst (λ m. IsFound equal_inside steps.equal.tree (mon_of m) n o) c.deref-left-in-Equal.ensures c.in_ok-numbered-in-Equal.ensures)) v
