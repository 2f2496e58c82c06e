-- The levels are the certificate's, and so what is generated is at them.
use Rattle.std.proofs.Common.{◌≡◌, List, map, ap, ◌∙◌, arith}
use Rattle.std.proofs.lemmas.List.{length-map}
use Rattle.expression_lang.specs.CodeExpression.{level_of}
use Rattle.simpl_lang.specs.CodeCommand.{simpl_unit_of}
use Rattle.c_lang.specs.CodeTyped.{unit_of, function_of}
use Rattle.c_levels.specs.declared.modes.Modes.{Modes}
use Rattle.c_levels.specs.CodeModes.{levels_in}
use Rattle.certificate_text.specs.CertificateText.{Certificate}
use Rattle.certificate_text.specs.CertificateIndex.{index_of}
use Rattle.certificate_text.specs.CodeIndex.{index_in}
use Rattle.certificate_text.specs.declared.index.CertIndex as I
use Rattle.certificate_text.specs.declared.index.FunEntry as E
use Rattle.checking.specs.Checked.{level_in}
use Rattle.checking.specs.Levels.{levels_listed}
use Rattle.checking.proofs.Indexed.{code_levels}
use Rattle.checking.proofs.Decided.{long_enough, levels_are, well_formed, at_levels}
use Rattle.checking.proofs.OneText.{one_index}
use Rattle.checking.proofs.trials.try_listed.Goals as goal

-- the levels that were taken from the index are the certificate's
told : (i : I.CertIndex) (d : Certificate) (m : Modes) (es : List E.FunEntry) → index_in i ≡ index_of d → es ≡ i.functions.items →
    levels_in m ≡ map (λ (e : E.FunEntry). level_of e.level) es → levels_in m ≡ levels_listed d.functions
told i d m es is same h = h ∙ ap (map (λ (e : E.FunEntry). level_of e.level)) same ∙ code_levels i d is

pub generate-requires : goal.generate-requires
generate-requires g c =
    let (d, is, same) = c.requires.scanned in
    let k = length-map c.args.unit.now.functions.items function_of in
    let l = long_enough (unit_of c.args.unit.now) d.functions (c.requires.listed d is) c.in_ok-modes.modes
    (told c.args.index d c.in_ok-modes.modes c.deref.result.now same c.deref.ensures.value c.in_ok-modes.ensures) in
    omega (arith, k, l)

pub check_telling-requires-clause-formed : goal.check_telling-requires-clause-formed
check_telling-requires-clause-formed g c =
    let (d, is, same) = c.requires.scanned in
    let none = c.requires.listed d is in
    well_formed (unit_of c.args.unit.now) d.functions none c.requires.typed (simpl_unit_of c.in_ok-generated.generated)
    (c.in_ok-generated.ensures.generated (level_in d.functions)
    (levels_are (unit_of c.args.unit.now) d.functions none c.requires.typed c.in_ok-modes.modes
    (told c.args.index d c.in_ok-modes.modes c.deref.result.now same c.deref.ensures.value c.in_ok-modes.ensures)))

pub check_telling-requires-clause-at_levels : goal.check_telling-requires-clause-at_levels
check_telling-requires-clause-at_levels g c = λ d is.
    let none = c.requires.listed d is in
    let same = one_index c.args.text.now (index_in c.args.index) d c.requires.scanned is in
    at_levels (unit_of c.args.unit.now) d.functions none c.requires.typed (simpl_unit_of c.in_ok-generated.generated)
    (c.in_ok-generated.ensures.generated (level_in d.functions)
    (levels_are (unit_of c.args.unit.now) d.functions none c.requires.typed c.in_ok-modes.modes
    (told c.args.index d c.in_ok-modes.modes c.deref.result.now same c.deref.ensures.value c.in_ok-modes.ensures)))

pub returns : goal.returns
returns g c = λ d is.
    let none = c.requires.listed d is in
    let same = one_index c.args.text.now (index_in c.args.index) d c.requires.scanned is in
    let are = levels_are (unit_of c.args.unit.now) d.functions none c.requires.typed c.in_ok-modes.modes
    (told c.args.index d c.in_ok-modes.modes c.deref.result.now same c.deref.ensures.value c.in_ok-modes.ensures) in
    record {
      index = same;
      levels = are;
      generated = c.in_ok-generated.ensures.generated (level_in d.functions) are;
      answer = c.in_ok-answer.ensures.answer d is;
    }
