-- The levels that the functions have, and what is generated at these.
use Rattle.std.proofs.Common.{map, sym, ap, ◌∙◌, string_bytes}
use Rattle.std.proofs.lemmas.Result.{IfOk-weaker}
use Rattle.c_lang.specs.CodeTyped.{unit_of}
use Rattle.unit_translation.proofs.LevelsThere.{levels_of, are_levels}
use Rattle.command_line.specs.Words.{target_of}
use Rattle.command_line.specs.CodeCommand.{form_in}
use Rattle.text_answers.proofs.WellTyped.{well_typed}
use Rattle.ac_core.specs.CodeTasks.{options_of}
use Rattle.ac_core.specs.Written.{has_long_function}
use Rattle.ac_core.proofs.Told.{long_answer}
use Rattle.ac_core.proofs.NamedLevels.{named_levels}
use Rattle.ac_core.proofs.programs.write_named.Goals as goal

pub written-requires-clause-generated : goal.written-requires-clause-generated
written-requires-clause-generated g c =
    let u = c.args.unit.now in
    let typed = well_typed (target_of (options_of c.args.asked)) (unit_of u) c.requires.read in
    let each = c.in_ok-modes.ensures.one_each in
    let levels = levels_of u c.in_ok-modes.modes in
    let default' = named_levels u c.in_ok-modes.modes _ _ _ _ typed each c.in_ok-modes.ensures.defaults
    (ap (map string_bytes) c.deref.ensures.value ∙ c.in_ok-bytes.ensures) (ap (map string_bytes) c.deref-2.ensures.value ∙ c.in_ok-words.ensures) in
    let is = c.in_ok-generated.ensures.generated levels (are_levels u c.in_ok-modes.modes typed each) in
    record { levels = levels; default = default'; is = is; within = sym c.has_long_function.ensures ∙ c.if-has_long_function.false; few = sym c.has_few_locals.ensures ∙ c.if-not-has_few_locals.false }

pub returns-then-has_long_function : goal.returns-then-has_long_function
returns-then-has_long_function g c =
    let u = c.args.unit.now in
    let typed = well_typed (target_of (options_of c.args.asked)) (unit_of u) c.requires.read in
    let each = c.in_ok-modes.ensures.one_each in
    let levels = levels_of u c.in_ok-modes.modes in
    let default' = named_levels u c.in_ok-modes.modes _ _ _ _ typed each c.in_ok-modes.ensures.defaults
    (ap (map string_bytes) c.deref.ensures.value ∙ c.in_ok-bytes.ensures) (ap (map string_bytes) c.deref-2.ensures.value ∙ c.in_ok-words.ensures) in
    let is = c.in_ok-generated.ensures.generated levels (are_levels u c.in_ok-modes.modes typed each) in
    IfOk-weaker c.line.result _ _
    (λ a. long_answer (form_in c.args.asked.writing) (options_of c.args.asked) (unit_of u) levels a.status a.lines.items c.requires.named default'
    (ap has_long_function (sym is) ∙ sym c.has_long_function.ensures ∙ c.if-has_long_function.true))
    c.line.ensures
