-- What is made of a typed text has a text: the certificate, and the last programs.
use Rattle.std.proofs.Common.{◌≡◌, suc, ◌^◌, true, ◌&&◌, List, [], ◌∷◌, length, Option, Some, None, refl, ap, ◌∙◌}
use Rattle.std.specs.Prelude.{nat_le}
use Rattle.std.specs.List.{list_all}
use Rattle.std.proofs.lemmas.Bool.{and_parts, and_from}
use Rattle.c_values.specs.Name.{Name}
use Rattle.c_values.specs.Types.{Target}
use Rattle.expression_lang.specs.Sort.{Level, Kind, is_kind}
use Rattle.expression_lang.specs.Signature.{Binder, Signature, names_of}
use Rattle.expression_text.specs.Names.{is_name}
use Rattle.expression_text.specs.Lists.{each}
use Rattle.simpl_lang.specs.Command.{SimplFn}
use Rattle.program_text.specs.MonText.{is_mon}
use Rattle.command_text.specs.CommandText.{is_command}
use Rattle.rule_text.specs.ExceptionText as exceptions
use Rattle.rule_text.specs.LocalText as locals
use Rattle.rule_text.specs.WordText as words
use Rattle.rule_text.specs.EqualityText as equality
use Rattle.rule_word.specs.Scopes.{result_as_list}
use Rattle.ac_expr.specs.SameExp.{same_exp}
use Rattle.ac_expr.proofs.SameExps.{exp_is}
use Rattle.ac_expr.proofs.Itself.{exp_itself}
use Rattle.c_lang.specs.Typed.{TypedUnit}
use Rattle.c_lang.specs.WellTyped.{IsWellTyped}
use Rattle.typing_laws.proofs.SpelledTexts.{texts_are_written}
use Rattle.unit_names.specs.HasNames.{HasNames}
use Rattle.named_texts.proofs.Units.{typed_units_have_names}
use Rattle.generation.specs.Generate.{generated}
use Rattle.generated_texts.specs.HasTexts as made
use Rattle.generated_texts.specs.HasTexts.{is_binder, is_result, function_has_text, signature_has_text}
use Rattle.generated_texts.proofs.UnitTexts.{generated_has_texts}
use Rattle.pipeline.specs.Ready.{CallsLifted}
use Rattle.acceptance.specs.Certificate.{Steps}
use Rattle.pipeline.specs.Made.{tidy_certificate}
use Rattle.pipeline.specs.Units.{on_numbers, functions_with, last_unit}
use Rattle.certificate_text.specs.CertificateText as certificates
use Rattle.made_texts.specs.HasTexts.{AllHaveTexts}
use Rattle.made_texts.proofs.MadeTexts.{generated_texts}
use Rattle.unit_text.specs.UnitText as units
use Rattle.text_answers.specs.TextAnswer.{IsRead}
use Rattle.text_answers.proofs.WellTyped.{well_typed}
use Rattle.ac_core.specs.CodeTasks.{has_few_locals, are_few}

-- generated functions

names_are : (bs : List Binder) → each is_binder bs ≡ true → each is_name (names_of bs) ≡ true
names_are [] h = refl
names_are (b ∷ bs) h =
    let p = and_parts (is_binder b) (each is_binder bs) h in
    and_from (is_name b.name) (each is_name (names_of bs)) (and_parts (is_name b.name) (is_kind b.kind) p.0).0 (names_are bs p.1)

names_length : (bs : List Binder) → length (names_of bs) ≡ length bs
names_length [] = refl
names_length (b ∷ bs) = ap (λ n. suc n) (names_length bs)

all_have : (fs : List SimplFn) → each function_has_text fs ≡ true → list_all are_few fs ≡ true → AllHaveTexts fs
all_have [] h k = tt
all_have (f ∷ fs) h k =
    let p = and_parts (function_has_text f) (each function_has_text fs) h in
    let q = and_parts (are_few f) (list_all are_few fs) k in
    let r = and_parts (is_name f.name && each is_binder f.locals) (is_command f.body) p.0 in
    let s = and_parts (is_name f.name) (each is_binder f.locals) r.0 in (
      record {
        name = s.0;
        locals = names_are f.locals s.1;
        few = ap (λ n. nat_le n (2 ^ 32)) (names_length f.locals) ∙ q.0;
        body = r.1;
      },
      all_have fs p.1 q.1,
    )

-- last programs

results_are : (o : Option Kind) → is_result o ≡ true → each is_kind (result_as_list o) ≡ true
results_are None h = refl
results_are (Some k) h = and_from (is_kind k) true h refl

last_program : (c : Steps) → certificates.is_function c ≡ true → is_mon c.equal.program ≡ true
last_program c h =
    let names = is_name c.name && certificates.is_heap c.level c.heap in
    let exception = is_command c.exception.program && exceptions.is_tree c.exception.tree in
    let local = is_mon c.local.program && locals.is_tree c.local.tree in
    let word = is_mon c.word.program && words.is_tree c.word.tree in
    let equal = is_mon c.equal.program && equality.is_tree c.equal.tree in
    let a = and_parts names (exception && (local && (word && equal))) h in
    let b = and_parts exception (local && (word && equal)) a.1 in
    let d = and_parts local (word && equal) b.1 in
    let e = and_parts word equal d.1 in
    (and_parts (is_mon c.equal.program) (equality.is_tree c.equal.tree) e.1).0

last_functions : (ss : List Signature) (cs : List Steps) → each signature_has_text ss ≡ true → each certificates.is_function cs ≡ true →
    each units.is_function (functions_with on_numbers (λ c. c.equal.program) ss cs) ≡ true
last_functions [] cs h k = refl
last_functions (s ∷ ss) [] h k = refl
last_functions (s ∷ ss) (c ∷ cs) h k =
    let p = and_parts (signature_has_text s) (each signature_has_text ss) h in
    let q = and_parts (certificates.is_function c) (each certificates.is_function cs) k in
    let r = and_parts (is_name s.name && each is_binder s.params) (is_result s.result) p.0 in
    and_from (units.is_function (on_numbers s c.equal.program)) (each units.is_function (functions_with on_numbers (λ c. c.equal.program) ss cs))
    (and_from (is_name s.name && each units.is_parameter s.params) (each is_kind (result_as_list s.result) && is_mon c.equal.program) r.0
    (and_from (each is_kind (result_as_list s.result)) (is_mon c.equal.program) (results_are s.result r.1) (last_program c q.0)))
    (last_functions ss cs p.1 q.1)

module _ (target : Target) (u : TypedUnit) (read : IsRead target u) (levels : Name → Level) where
  typed : IsWellTyped u
  typed = well_typed target u read

  have_names : HasNames u
  have_names =
      let t = read.is_text in
      typed_units_have_names target t.tree u (texts_are_written read.text t.tokens t.tree read.short t.are_tokens t.is_tree.spells) t.typed

  have_texts : made.HasTexts (generated u levels)
  have_texts = generated_has_texts u typed have_names levels

  module _ (calls : CallsLifted levels u.functions) (few : has_few_locals (generated u levels) ≡ true) where
    pub certificate_has_text : each certificates.is_function (tidy_certificate same_exp (generated u levels)) ≡ true
    certificate_has_text =
        generated_texts same_exp exp_is exp_itself u typed levels calls (all_have (generated u levels).functions have_texts.functions few)

    pub unit_has_text : units.is_unit (last_unit (generated u levels) (tidy_certificate same_exp (generated u levels))) ≡ true
    unit_has_text = last_functions (generated u levels).signatures (tidy_certificate same_exp (generated u levels)) have_texts.signatures certificate_has_text
