-- The names and levels of the code's functions are those of the certificate's.
use Rattle.std.proofs.Common.{List, map, length, sym, ap, ◌∙◌}
use Rattle.std.proofs.lemmas.List.{length-map}
use Rattle.c_lang.specs.Typed.{TypedFn}
use Rattle.c_lang.specs.CodeTyped.{function_of, unit_of}
use Rattle.c_levels.specs.CodeModes.{AreLevels}
use Rattle.acceptance.specs.Certificate.{Steps}
use Rattle.acceptance.specs.CodeCertificate.{steps_of}
use Rattle.acceptance.specs.declared.certificate.Steps as S
use Rattle.c_lang.specs.declared.tree.TypedFn as F
use Rattle.checking.specs.Checked.{apart, function_names, level_in, names_in}
use Rattle.checking.specs.Levels.{levels_listed}
use Rattle.checking.proofs.Decided.{levels_are}
use Rattle.checking.proofs.Named.{steps_names, steps_levels}
use Rattle.checking.proofs.Told.{told_for, if_given, one_each}
use Rattle.checking.proofs.levels.levels_of.Goals as goal

pub returns-clause-told : goal.returns-clause-told
returns-clause-told c =
    told_for _ _ _ _ _ _ c.listed_levels.result (ap (λ (fs : List F.TypedFn). function_names (map function_of fs)) c.deref.ensures.value)
    (steps_names c.deref-2.result.now ∙ ap (λ (cs : List S.Steps). names_in (map steps_of cs)) c.deref-2.ensures.value)
    (steps_levels c.deref-2.result.now ∙ ap (λ (cs : List S.Steps). levels_listed (map steps_of cs)) c.deref-2.ensures.value)
    c.listed_levels.ensures

pub returns-clause-one_each : goal.returns-clause-one_each
returns-clause-one_each c =
    let cs = map steps_of c.args.c.now.functions.items in
    one_each (function_names (unit_of c.args.u.now).functions) (names_in cs) (levels_listed cs) c.listed_levels.result (length c.args.u.now.functions.items)
    (length-map cs (λ (s : Steps). s.level) ∙ sym (length-map cs (λ (s : Steps). s.name)))
    (length-map (unit_of c.args.u.now).functions (λ (f : TypedFn). f.name) ∙ length-map c.args.u.now.functions.items function_of)
    (returns-clause-told c)

pub returns-clause-by_name : goal.returns-clause-by_name
returns-clause-by_name c = λ typed.
    let u = unit_of c.args.u.now in
    let cs = map steps_of c.args.c.now.functions.items in
    if_given (apart u cs) (levels_listed cs) c.listed_levels.result (λ m. AreLevels u m (level_in cs)) (returns-clause-told c)
    (λ m none same. levels_are u cs none typed m same)
