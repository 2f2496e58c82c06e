-- The arguments are those of the memory, and of the parameters' types.
use Rattle.std.proofs.Common.{◌≡◌, map, ap, ap₂, sym, subst, ◌∙◌}
use Rattle.std.proofs.lemmas.Result.{IfOk-weaker}
use Rattle.c_values.specs.CodeParts.{values_in}
use Rattle.c_values.specs.CodeTypes.{type_of}
use Rattle.c_values.specs.Layout.{shape_of}
use Rattle.c_values.specs.Value.{Values}
use Rattle.c_lang.specs.CodeTyped.{unit_of, function_of}
use Rattle.c_lang.specs.declared.tree.Variable.{Variable}
use Rattle.c_meaning.specs.Fitting.{AreOfTypes}
use Rattle.memory_text.specs.CodeMemory.{memory_of}
use Rattle.memory_text.specs.MemoryText.{parameter_shapes}
use Rattle.memory_text.proofs.Shapes.{parameters_shapes}
use Rattle.run_start.specs.Start.{all_as_words}
use Rattle.run_start.proofs.Begins.{arguments_typed}
use Rattle.run_start.proofs.Lists.{listed_as}
use Rattle.run_start.proofs.arguments.arguments_of.Goals as goal

pub returns : goal.returns
returns c =
    let l = c.args.unit.now.layout in
    let u = unit_of c.args.unit.now in
    let f = function_of c.args.function.now in
    let m = memory_of c.args.memory.now in
    let whole : Values = all_as_words (parameter_shapes l f) m.arguments in
    let same : all_as_words (map (shape_of l) (map (λ (v : Variable). type_of v.ty) c.deref.result.now)) (values_in c.deref-2.result.now) ≡ whole =
    ap₂ (λ vs ws. all_as_words (map (shape_of l) (map (λ (v : Variable). type_of v.ty) vs)) (values_in ws)) c.deref.ensures.value c.deref-2.ensures.value
    ∙ ap (λ ss. all_as_words ss m.arguments) (parameters_shapes l c.args.function.now.params.items) in
    record {
      arguments = IfOk-weaker c.all_as_words.result _ _ (λ words e. listed_as words.items whole (e ∙ same)) c.all_as_words.ensures;
      typed = IfOk-weaker c.all_as_words.result _ _ (λ words e. subst (AreOfTypes l f.params) (sym (listed_as words.items whole (e ∙ same))) (arguments_typed u f m c.requires.unit c.requires.function c.requires.memory)) c.all_as_words.ensures;
    }
