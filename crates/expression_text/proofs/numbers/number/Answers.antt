use Rattle.std.proofs.Common.{◌∙◌, ◌++◌, ap, sym, lit<}
use Rattle.std.proofs.lemmas.Str.{encode_ascii}
use Rattle.expression_text.specs.Numbers.{not_negated}
use Rattle.expression_text.proofs.NumbersRead.{number_plain}
use Rattle.expression_text.proofs.numbers.number.Goals as goal

pub returns : goal.returns
returns c =
    c.not_negated.ensures ∙ ap not_negated c.natural-2.ensures
    ∙ number_plain c.args.word.now (λ rest e. c.in_default.ensures.cases rest (e ∙ ap (λ minus. minus ++ rest) (sym (encode_ascii 45 (lit< tt)))))
