-- The lines of the parts are those of the whole.
use Rattle.std.proofs.Common.{◌++◌, map, ap, sym, subst, ◌∙◌}
use Rattle.std.proofs.lemmas.Result.{on_ok_weaker}
use Rattle.c_values.specs.CodeValue.{global_of}
use Rattle.c_memory.specs.CodeTag.{tag_of}
use Rattle.expression_lang.specs.CodeState.{globals_of}
use Rattle.c_memory.specs.Ranges.{run_of}
use Rattle.c_lang.specs.CodeTyped.{unit_of, function_of}
use Rattle.memory_text.specs.CodeMemory.{memory_of}
use Rattle.run_start.proofs.Begins.{memory_parts}
use Rattle.run_lines.specs.CodeEnds.{EndInSpace}
use Rattle.run_lines.specs.RunLines.{program_word, result_line, tag_lines, global_lines, bytes_lines}
use Rattle.run_lines.proofs.Ranges.{ends_in_space}
use Rattle.run_lines.proofs.Texts.{first_given, four_written}
use Rattle.run_lines.proofs.groups.write_program_value.Goals as goal

pub bytes_lines-requires : goal.bytes_lines-requires
bytes_lines-requires g c =
    let u = unit_of c.args.unit.now in
    let m = memory_parts u (memory_of c.args.memory.now) c.requires.memory in
    subst (λ rs. EndInSpace (map run_of rs)) (sym c.deref-3.ensures.value) (ends_in_space u.layout 0 (map run_of c.args.memory.now.bytes.items) m.bytes)

pub returns : goal.returns
returns g c =
    let l = c.args.unit.now.layout in
    let f = function_of c.args.function.now in
    let heap = g.H.Heap.content c.args.heap.now in
    let old = c.args.lines.now.items in
    let first = c.result_line.new.lines.items in
    let second = c.tag_lines.new.lines.items in
    let third = c.global_lines.new.lines.items in
    let value = c.in_ok-result_line.ensures ∙ ap (λ v. old ++ result_line program_word l f.result v) (sym (first_given c.args.value.now)) in
    let tags = c.in_ok-tag_lines.ensures ∙ ap (λ ts. first ++ tag_lines program_word l heap (map tag_of ts)) c.deref.ensures.value in
    let globals = c.in_ok-global_lines.ensures ∙ ap (λ xs. second ++ global_lines program_word l (map global_of xs) (globals_of xs c.args.globals.now)) c.deref-2.ensures.value in
    on_ok_weaker c.bytes_lines.result
    (λ ended. four_written old first second third c.bytes_lines.new.lines.items _ _ _ _ value tags globals
    (ended ∙ ap (λ rs. third ++ bytes_lines program_word heap (map run_of rs)) c.deref-3.ensures.value))
    c.bytes_lines.ensures
