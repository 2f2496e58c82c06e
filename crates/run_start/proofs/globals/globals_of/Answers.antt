-- The globals begin with the values that are set, and these are of their types.
use Rattle.std.proofs.Common.{◌≡◌, map, ap₂, sym, subst, ◌∙◌}
use Rattle.std.proofs.lemmas.Result.{IfOk-weaker}
use Rattle.c_values.specs.CodeValue.{global_of}
use Rattle.c_lang.specs.CodeTyped.{unit_of}
use Rattle.memory_text.specs.CodeMemory.{memory_of, setting_of}
use Rattle.run_start.specs.Start.{values_set}
use Rattle.run_start.proofs.Begins.{globals_shaped}
use Rattle.run_start.proofs.Settings.{AreShaped, typed_values, same_names}
use Rattle.run_start.proofs.globals.globals_of.Goals as goal

pub returns : goal.returns
returns c =
    let l = c.args.unit.now.layout in
    let u = unit_of c.args.unit.now in
    let m = memory_of c.args.memory.now in
    let gs = c.args.unit.now.globals.items in
    let same : values_set l (map global_of c.deref.result.now) (map setting_of c.deref-2.result.now) ≡ values_set l u.globals m.globals =
    ap₂ (λ xs ss. values_set l (map global_of xs) (map setting_of ss)) c.deref.ensures.value c.deref-2.ensures.value in
    record {
      values = IfOk-weaker c.values_set.result _ _ (λ values e. same_names gs values.items (values_set l u.globals m.globals) (e ∙ same)) c.values_set.ensures;
      typed = IfOk-weaker c.values_set.result _ _ (λ values e. typed_values l gs values.items (subst (AreShaped l u.globals) (sym (e ∙ same)) (globals_shaped u m c.requires.unit c.requires.memory))) c.values_set.ensures;
    }
