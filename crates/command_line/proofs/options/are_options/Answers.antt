use Rattle.std.proofs.Common.{◌≡◌, Bool, false, not, ◌&&◌, map, string_bytes, sym, ap, ◌∙◌, rules, tests}
use Rattle.std.specs.List.{list_all}
use Rattle.std.proofs.Math.Bool.{and-true}
use Rattle.std.proofs.lemmas.Iterator.{YieldsList-from_slice}
use Rattle.std.proofs.lemmas.Iterator.Search.{all_from_yields_List}
use Rattle.std.proofs.lemmas.List.Folds.{list_all-map}
use Rattle.command_line.specs.Words.{is_option}
use Rattle.command_line.proofs.options.are_options.Goals as goal

without : (both all answer : Bool) → both ≡ false → answer ≡ all → answer ≡ (all && not both)
without both all answer h e = e ∙ sym (and-true all) ∙ ap (λ b. all && not b) (sym h)

pub returns-then-not-have_both_targets : goal.returns-then-not-have_both_targets
returns-then-not-have_both_targets c =
    let words = c.args.words.now in
    let all : c.all.result ≡ list_all is_option (map string_bytes words) =
    all_from_yields_List (λ word. is_option (string_bytes word)) _ _ c.all.result c.all.ensures.ran (YieldsList-from_slice words cc) (λ x b q k. search (rules, tests))
    ∙ sym (list_all-map is_option string_bytes words) in
    without _ _ _ (sym c.have_both_targets.ensures ∙ c.if-not-have_both_targets.true) all
