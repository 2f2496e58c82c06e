-- The parts as words are those of the whole.
use Rattle.std.proofs.Common.{◌≡◌, ◌≤◌, suc, [], length, map, ap, sym, ◌∙◌, arith}
use Rattle.c_values.specs.CodeParts.{values_in, rank, ranks}
use Rattle.c_values.specs.CodeTypes.{type_of}
use Rattle.c_values.specs.CodeValue.{value_of}
use Rattle.c_values.specs.Layout.{shape_of}
use Rattle.c_values.specs.Value.{Parts}
use Rattle.c_values.proofs.Listed.{parts_value, parts_listed}
use Rattle.c_values.proofs.Compared.{rank_in}
use Rattle.memory_text.specs.CodeTypes.{types_in}
use Rattle.run_start.specs.Start.{all_as_words}
use Rattle.run_start.proofs.OneByOne.{words_more, types_ended, values_ended, parts_made, no_parts_made}
use Rattle.run_start.proofs.words.+words.Goals as goal

pub as_words-all_as_words-requires : goal.as_words-all_as_words-requires
as_words-all_as_words-requires t c =
    let whole : rank (value_of c.args.value.now) ≡ suc (ranks (values_in c.deref.result.now)) =
    ap (λ v. rank (value_of v)) c.in-Parts.is ∙ ap rank (parts_value c.in-Parts.parts) ∙ ap (λ vs. suc (ranks (values_in vs))) (sym c.deref.ensures.value) in
    (omega (arith, whole, c.decreases), tt)

pub as_words-returns-in_default : goal.as_words-returns-in_default
as_words-returns-in_default t c =
    parts_listed c.new.result [] c.new.ensures.items
    ∙ no_parts_made (shape_of c.args.layout.now (type_of c.args.ty.now)) (value_of c.args.value.now) (values_in c.in-Parts.parts.items)
    (ap value_of c.in-Parts.is ∙ parts_value c.in-Parts.parts) c.in_default.ensures

pub as_words-returns-in_ok-words-in-Parts : goal.as_words-returns-in_ok-words-in-Parts
as_words-returns-in_ok-words-in-Parts t c =
    parts_value c.in_ok-words-in-Parts.words
    ∙ parts_made (shape_of c.args.layout.now (type_of c.args.ty.now)) (map (shape_of c.args.layout.now) (types_in c.in-Some.types)) (value_of c.args.value.now) (values_in c.deref.result.now) (values_in c.in_ok-words-in-Parts.words.items)
    (ap value_of c.in-Parts.is ∙ parts_value c.in-Parts.parts ∙ ap (λ vs. Parts (values_in vs)) (sym c.deref.ensures.value)) c.in-Some.ensures c.in_ok-words-in-Parts.ensures

pub all_as_words-as_words-requires : goal.all_as_words-as_words-requires
all_as_words-as_words-requires t c =
    let less = rank_in c.args.values.now c.values.k c.index-values-k.result c.values-test.true c.index-values-k.is in
    (omega (arith, less, c.decreases), tt)

pub all_as_words-values-preserved : goal.all_as_words-values-preserved
all_as_words-values-preserved t c =
    words_more c.args.layout.now (types_in c.args.types) (type_of c.get.result.now) c.values.words.items c.push.new.self.items c.in_ok-as_words.field-0 c.args.values.now c.values.k c.index-values-k.result
    (all_as_words (map (shape_of c.args.layout.now) (types_in c.args.types)) (values_in c.args.values.now))
    c.get.ensures c.values-test.true c.index-values-k.is c.in_ok-push.ensures.items c.in_ok-as_words.ensures c.values.invariant

pub all_as_words-returns-then-k-len : goal.all_as_words-returns-then-k-len
all_as_words-returns-then-k-len t c =
    let le : length (types_in c.args.types) ≤ c.values.k = omega (arith, c.if-k-len.true, c.len.ensures) in
    types_ended c.args.layout.now (types_in c.args.types) c.values.words.items c.args.values.now c.values.k
    (all_as_words (map (shape_of c.args.layout.now) (types_in c.args.types)) (values_in c.args.values.now)) le c.values.invariant

pub all_as_words-returns : goal.all_as_words-returns
all_as_words-returns t c =
    values_ended c.args.layout.now (types_in c.args.types) c.values.words.items c.args.values.now c.values.k
    (all_as_words (map (shape_of c.args.layout.now) (types_in c.args.types)) (values_in c.args.values.now)) c.values-test.false c.values.invariant
