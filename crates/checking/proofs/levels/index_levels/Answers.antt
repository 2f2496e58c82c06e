-- The names and levels of the code's entries are those of the index, and of the certificate that it is of.
use Rattle.std.proofs.Common.{List, map, length, sym, ap, refl, ◌∙◌}
use Rattle.std.proofs.lemmas.List.{length-map}
use Rattle.c_lang.specs.Typed.{TypedFn}
use Rattle.c_lang.specs.CodeTyped.{function_of, unit_of}
use Rattle.c_lang.specs.declared.tree.TypedFn as F
use Rattle.c_levels.specs.CodeModes.{AreLevels}
use Rattle.certificate_text.specs.CertificateIndex.{Entry}
use Rattle.certificate_text.specs.CodeIndex.{entry_of, index_in}
use Rattle.certificate_text.specs.declared.index.FunEntry as E
use Rattle.checking.specs.Checked.{apart, function_names, level_in}
use Rattle.checking.specs.Levels.{levels_listed, entry_names, entry_levels}
use Rattle.checking.proofs.Indexed.{names_there, levels_there}
use Rattle.checking.proofs.Decided.{levels_are}
use Rattle.checking.proofs.Named.{entries_names, entries_levels}
use Rattle.checking.proofs.Told.{told_for, if_given, one_each}
use Rattle.checking.proofs.levels.index_levels.Goals as goal

pub returns-clause-told : goal.returns-clause-told
returns-clause-told c =
    told_for _ _ _ _ _ _ c.listed_levels.result (ap (λ (fs : List F.TypedFn). function_names (map function_of fs)) c.deref.ensures.value)
    (entries_names c.deref-2.result.now ∙ ap (λ (es : List E.FunEntry). entry_names (map entry_of es)) c.deref-2.ensures.value)
    (entries_levels c.deref-2.result.now ∙ ap (λ (es : List E.FunEntry). entry_levels (map entry_of es)) c.deref-2.ensures.value)
    c.listed_levels.ensures

pub returns-clause-one_each : goal.returns-clause-one_each
returns-clause-one_each c =
    let es = (index_in c.args.index.now).functions in
    one_each (function_names (unit_of c.args.u.now).functions) (entry_names es) (entry_levels es) c.listed_levels.result (length c.args.u.now.functions.items)
    (length-map es (λ (e : Entry). e.level) ∙ sym (length-map es (λ (e : Entry). e.name)))
    (length-map (unit_of c.args.u.now).functions (λ (f : TypedFn). f.name) ∙ length-map c.args.u.now.functions.items function_of)
    (returns-clause-told c)

pub returns-clause-by_name : goal.returns-clause-by_name
returns-clause-by_name c = λ d is typed.
    let u = unit_of c.args.u.now in
    let i = index_in c.args.index.now in
    if_given (apart u d.functions) (levels_listed d.functions) c.listed_levels.result (λ m. AreLevels u m (level_in d.functions))
    (told_for (function_names u.functions) _ _ _ _ _ c.listed_levels.result refl (names_there i d is) (levels_there i d is) (returns-clause-told c))
    (λ m none same. levels_are u d.functions none typed m same)
