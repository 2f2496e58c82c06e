-- What is written, as a tree, as lines or as a certificate.
use Rattle.std.proofs.Common.{sym, subst}
use Rattle.std.proofs.lemmas.Result.{IfOk-weaker}
use Rattle.c_lang.specs.CodeTyped.{unit_of}
use Rattle.simpl_lang.specs.Command.{SimplUnit}
use Rattle.simpl_lang.specs.CodeCommand.{simpl_unit_of}
use Rattle.monad_lang.specs.CodeProgram.{final_unit_of}
use Rattle.unit_translation.specs.CodeTranslated.{AllReadyToLift}
use Rattle.unit_translation.proofs.ReadyToLift.{generated_are_ready}
use Rattle.unit_text.specs.UnitText.{unit_text}
use Rattle.abs_print.specs.Programs.{unit_text as unit_lines}
use Rattle.command_line.specs.Words.{target_of}
use Rattle.command_line.specs.CodeCommand.{form_in}
use Rattle.text_answers.proofs.WellTyped.{well_typed}
use Rattle.ac_core.specs.CodeTasks.{options_of}
use Rattle.ac_core.specs.Written.{gives}
use Rattle.ac_core.proofs.Shown.{shows, translates}
use Rattle.ac_core.proofs.programs.written.Goals as goal

pub translate_generated-requires : goal.translate_generated-requires
translate_generated-requires g c =
    let u = unit_of c.args.unit.now in
    record {
      ready = subst (λ (g : SimplUnit). AllReadyToLift g.functions g.signatures) (sym c.requires.generated.is)
          (generated_are_ready u (well_typed (target_of (options_of c.args.asked)) u c.requires.read) c.requires.generated.levels);
    }

pub translate_generated-requires-in-Notation : goal.translate_generated-requires-in-Notation
translate_generated-requires-in-Notation g c =
    let u = unit_of c.args.unit.now in
    record {
      ready = subst (λ (g : SimplUnit). AllReadyToLift g.functions g.signatures) (sym c.requires.generated.is)
          (generated_are_ready u (well_typed (target_of (options_of c.args.asked)) u c.requires.read) c.requires.generated.levels);
    }

pub certificate-requires : goal.certificate-requires
certificate-requires g c =
    let u = unit_of c.args.unit.now in
    record {
      ready = subst (λ (g : SimplUnit). AllReadyToLift g.functions g.signatures) (sym c.requires.generated.is)
          (generated_are_ready u (well_typed (target_of (options_of c.args.asked)) u c.requires.read) c.requires.generated.levels);
    }

pub returns-in-Certificate : goal.returns-in-Certificate
returns-in-Certificate g c =
    IfOk-weaker c.certificate.result _ _
    (λ lines e. subst (λ w. gives (options_of c.args.asked) (unit_of c.args.unit.now) (form_in w) lines.items) (sym c.in-Certificate.is)
    (translates (options_of c.args.asked) (unit_of c.args.unit.now) c.requires.read (simpl_unit_of c.args.generated) c.requires.named c.requires.generated lines.items e))
    c.certificate.ensures

pub returns-in_ok-programs-in-Tree : goal.returns-in_ok-programs-in-Tree
returns-in_ok-programs-in-Tree g c =
    IfOk-weaker c.write_program.result _ _
    (λ lines e. subst (λ w. gives (options_of c.args.asked) (unit_of c.args.unit.now) (form_in w) lines.items) (sym c.in-Tree.is)
    (shows (options_of c.args.asked) (unit_of c.args.unit.now) c.requires.read (simpl_unit_of c.args.generated) c.requires.named c.requires.generated unit_text
    (final_unit_of c.in_ok-programs-in-Tree.programs) lines.items c.in_ok-programs-in-Tree.ensures.last e))
    c.write_program.ensures

pub returns-in_ok-programs-in-Notation : goal.returns-in_ok-programs-in-Notation
returns-in_ok-programs-in-Notation g c =
    IfOk-weaker c.print.result _ _
    (λ lines e. subst (λ w. gives (options_of c.args.asked) (unit_of c.args.unit.now) (form_in w) lines.items) (sym c.in-Notation.is)
    (shows (options_of c.args.asked) (unit_of c.args.unit.now) c.requires.read (simpl_unit_of c.args.generated) c.requires.named c.requires.generated unit_lines
    (final_unit_of c.in_ok-programs-in-Notation.programs) lines.items c.in_ok-programs-in-Notation.ensures.last e))
    c.print.ensures
