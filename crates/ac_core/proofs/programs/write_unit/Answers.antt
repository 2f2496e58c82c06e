-- The first name that isn't there, or each is there.
use Rattle.std.proofs.Common.{map, sym, ap, ◌∙◌}
use Rattle.std.specs.HashSet.{contains_text}
use Rattle.std.proofs.lemmas.Result.{IfOk-weaker}
use Rattle.c_values.specs.Name.{is_among}
use Rattle.c_lang.specs.CodeTyped.{function_of, unit_of}
use Rattle.command_line.specs.CodeCommand.{form_in}
use Rattle.command_line.proofs.UnknownNames.{same_unknown}
use Rattle.ac_core.specs.CodeTasks.{options_of}
use Rattle.ac_core.specs.Written.{is_function}
use Rattle.ac_core.proofs.Told.{unnamed_answer}
use Rattle.ac_core.proofs.programs.write_unit.Goals as goal

pub write_named-requires-clause-named : goal.write_named-requires-clause-named
write_named-requires-clause-named g c =
    same_unknown (is_function (unit_of c.args.unit.now)) (contains_text c.in_ok-functions.functions)
    (λ x. sym (c.in_ok-functions.ensures x ∙ ap (λ gs. is_among x (map (λ f. f.name) (map function_of gs))) c.deref.ensures.value)) (options_of c.args.asked)
    ∙ sym c.in-None.ensures

pub returns-in-Some : goal.returns-in-Some
returns-in-Some g c =
    IfOk-weaker c.unknown_name.result _ _
    (λ a. unnamed_answer (form_in c.args.asked.writing) (options_of c.args.asked) (unit_of c.args.unit.now) c.in-Some.name.now a.status a.lines.items
    (same_unknown (is_function (unit_of c.args.unit.now)) (contains_text c.in_ok-functions.functions)
    (λ x. sym (c.in_ok-functions.ensures x ∙ ap (λ gs. is_among x (map (λ f. f.name) (map function_of gs))) c.deref.ensures.value)) (options_of c.args.asked)
    ∙ sym c.in-Some.ensures))
    c.unknown_name.ensures
