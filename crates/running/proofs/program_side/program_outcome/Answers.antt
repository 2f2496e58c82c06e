-- The last programs can be run from there, and their end is that of the side.
use Rattle.std.proofs.Common.{map, sym, ap, subst, ◌∙◌, arith}
use Rattle.c_values.specs.CodeValue.{value_of}
use Rattle.expression_lang.specs.CodeSignature.{binder_of}
use Rattle.expression_lang.specs.Signature.{kinds_of}
use Rattle.expression_lang.specs.View.{views_at}
use Rattle.acceptance.specs.Accepted.{IsAccepted}
use Rattle.pipeline.specs.Units.{last_unit}
use Rattle.checking.specs.Checked.{level_in}
use Rattle.running.specs.CodeRuns.{unit_at}
use Rattle.running.proofs.ProgramRuns.{within, is_there, takes_them, globals_typed, program_end}
use Rattle.running.proofs.program_side.program_outcome.Goals as goal

pub index-program-requires : goal.index-program-requires
index-program-requires c =
    let (d, a) = c.requires.accepted in
    let v = c.in_ok-programs.programs in
    let last = c.in_ok-programs.ensures.last d a.is_text ∙ ap (λ g. last_unit g d.functions) a.generated in
    let exact = c.in_ok-programs.ensures.exact d a.is_text (unit_at c.args.start) (level_in d.functions) c.requires.start.typed a.generated
    (subst (λ g. IsAccepted g d.functions) (sym a.generated) a.accepted) in
    let there = within c.args.start c.requires.start d.functions v last exact in
    omega (arith, there, v.functions.ok.0)

pub run_abstract-requires-clause-unit : goal.run_abstract-requires-clause-unit
run_abstract-requires-clause-unit c =
    let (d, a) = c.requires.accepted in
    (c.in_ok-programs.ensures.exact d a.is_text (unit_at c.args.start) (level_in d.functions) c.requires.start.typed a.generated
    (subst (λ g. IsAccepted g d.functions) (sym a.generated) a.accepted)).well_formed

pub run_abstract-requires-clause-called : goal.run_abstract-requires-clause-called
run_abstract-requires-clause-called c =
    let (d, a) = c.requires.accepted in
    let v = c.in_ok-programs.programs in
    let last = c.in_ok-programs.ensures.last d a.is_text ∙ ap (λ g. last_unit g d.functions) a.generated in
    let exact = c.in_ok-programs.ensures.exact d a.is_text (unit_at c.args.start) (level_in d.functions) c.requires.start.typed a.generated
    (subst (λ g. IsAccepted g d.functions) (sym a.generated) a.accepted) in
    let g = c.index-program.result.now in
    takes_them c.args.start c.requires.start d.functions v last exact g
    (is_there c.args.start c.requires.start d.functions v last exact g c.index-program.ensures) c.deref-2.result.now c.deref-3.result.now
    (ap (map value_of) c.deref-2.ensures.value ∙ c.in_ok-words.ensures.arguments)
    (ap (map value_of) c.deref-3.ensures.value ∙ c.in_ok-arguments.ensures
    ∙ ap (λ ps. views_at (kinds_of (map binder_of ps)) (map value_of c.deref-2.result.now)) c.deref.ensures.value)

pub run_abstract-requires-clause-globals : goal.run_abstract-requires-clause-globals
run_abstract-requires-clause-globals c =
    let (d, a) = c.requires.accepted in
    let v = c.in_ok-programs.programs in
    let last = c.in_ok-programs.ensures.last d a.is_text ∙ ap (λ g. last_unit g d.functions) a.generated in
    let exact = c.in_ok-programs.ensures.exact d a.is_text (unit_at c.args.start) (level_in d.functions) c.requires.start.typed a.generated
    (subst (λ g. IsAccepted g d.functions) (sym a.generated) a.accepted) in
    let g = c.index-program.result.now in
    globals_typed c.args.start c.requires.start d.functions v last exact g
    (is_there c.args.start c.requires.start d.functions v last exact g c.index-program.ensures) c.deref-2.result.now c.deref-3.result.now
    (ap (map value_of) c.deref-2.ensures.value ∙ c.in_ok-words.ensures.arguments)
    (ap (map value_of) c.deref-3.ensures.value ∙ c.in_ok-arguments.ensures
    ∙ ap (λ ps. views_at (kinds_of (map binder_of ps)) (map value_of c.deref-2.result.now)) c.deref.ensures.value)
    c.in_ok-globals.globals.items c.in_ok-globals.ensures.typed c.in_ok-globals.ensures.values

pub returns : goal.returns
returns c = λ d a.
    let v = c.in_ok-programs.programs in
    let last = c.in_ok-programs.ensures.last d a.is_text ∙ ap (λ g. last_unit g d.functions) a.generated in
    let exact = c.in_ok-programs.ensures.exact d a.is_text (unit_at c.args.start) (level_in d.functions) c.requires.start.typed a.generated
    (subst (λ g. IsAccepted g d.functions) (sym a.generated) a.accepted) in
    let g = c.index-program.result.now in
    program_end c.args.start c.requires.start d.functions v last exact g
    (is_there c.args.start c.requires.start d.functions v last exact g c.index-program.ensures) c.deref-2.result.now c.deref-3.result.now
    (ap (map value_of) c.deref-2.ensures.value ∙ c.in_ok-words.ensures.arguments)
    (ap (map value_of) c.deref-3.ensures.value ∙ c.in_ok-arguments.ensures
    ∙ ap (λ ps. views_at (kinds_of (map binder_of ps)) (map value_of c.deref-2.result.now)) c.deref.ensures.value)
    c.in_ok-globals.globals.items c.in_ok-globals.ensures.typed c.in_ok-globals.ensures.values
    c.run_abstract.result c.run_abstract.ensures.end c.run_abstract.ensures.lasts
