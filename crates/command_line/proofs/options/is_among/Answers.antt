use Rattle.std.proofs.Common.{string_bytes, sym, ◌∙◌, rules, tests}
use Rattle.std.specs.Str.{bytes_eq}
use Rattle.std.proofs.lemmas.Iterator.{YieldsList-from_slice}
use Rattle.std.proofs.lemmas.Iterator.Search.{any_from_yields_List}
use Rattle.command_line.proofs.WordLists.{list_any-map}
use Rattle.command_line.proofs.options.is_among.Goals as goal

pub returns : goal.returns
returns c =
    let word = c.args.word.now in
    let words = c.args.words.now in
    any_from_yields_List (λ other. bytes_eq word (string_bytes other)) _ _ _ c.any.ensures.ran (YieldsList-from_slice words cc) (λ x b q k. search (rules, tests))
    ∙ sym (list_any-map (bytes_eq word) string_bytes words)
