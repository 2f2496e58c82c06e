use Rattle.std.proofs.Common.{ap, sym, subst, ◌∙◌}
use Rattle.std.specs.Prelude.{codes}
use Rattle.ac_sx.specs.Tree.{more}
use Rattle.ac_sx.specs.CodeSx.{first_of}
use Rattle.expression_text.specs.CodeFault.{Gives}
use Rattle.expression_text.specs.Reading.{made}
use Rattle.certificate_text.specs.CertificateReading.{certificate_row}
use Rattle.certificate_text.specs.CertificateIndex.{index_of}
use Rattle.certificate_text.specs.CodeIndex.{index_in}
use Rattle.certificate_text.proofs.Entries.{parted}
use Rattle.certificate_text.proofs.Scanned.{behind_word, no_version}
use Rattle.certificate_text.proofs.scanning.index_row.Goals as goal

pub index_from-requires-clause-there : goal.index_from-requires-clause-there
index_from-requires-clause-there c =
    let (ts, there) = c.requires.there in
    let (t, us, same, is, left) = parted c.args.text.now 6 c.args.parts.now c.in-Some.others.now c.in-Some.version.now ts c.in-Some.ensures.cases.0 there in
    (us, behind_word c.args.text.now 6 c.in-Some.others.now t us (codes "1") (c.is_word.ensures.yes 6 t is c.if-is_word.true) left)

pub second_index-requires-clause-there : goal.second_index-requires-clause-there
second_index-requires-clause-there c =
    let (ts, there) = c.requires.there in
    let (t, us, same, is, left) = parted c.args.text.now 6 c.args.parts.now c.in-Some.others.now c.in-Some.version.now ts c.in-Some.ensures.cases.0 there in
    (us, behind_word c.args.text.now 6 c.in-Some.others.now t us (codes "2") (c.is_word-else-is_word.ensures.yes 6 t is c.if-is_word-2.true) left)

pub returns-then-is_word : goal.returns-then-is_word
returns-then-is_word c = λ ts there.
    let (t, us, same, is, left) = parted c.args.text.now 6 c.args.parts.now c.in-Some.others.now c.in-Some.version.now ts c.in-Some.ensures.cases.0 there in
    let word = c.is_word.ensures.yes 6 t is c.if-is_word.true in
    subst (Gives index_in c.index_from.result) (ap (λ x. made index_of (certificate_row 0 (first_of x))) (sym (same ∙ ap (λ u. more u us) word))) (c.index_from.ensures us (behind_word c.args.text.now 6 c.in-Some.others.now t us (codes "1") word left))

pub returns-then-is_word-2 : goal.returns-then-is_word-2
returns-then-is_word-2 c = λ ts there.
    let (t, us, same, is, left) = parted c.args.text.now 6 c.args.parts.now c.in-Some.others.now c.in-Some.version.now ts c.in-Some.ensures.cases.0 there in
    let word = c.is_word-else-is_word.ensures.yes 6 t is c.if-is_word-2.true in
    subst (Gives index_in c.second_index.result) (ap (λ x. made index_of (certificate_row 0 (first_of x))) (sym (same ∙ ap (λ u. more u us) word))) (c.second_index.ensures us (behind_word c.args.text.now 6 c.in-Some.others.now t us (codes "2") word left))

pub returns-else-is_word-2 : goal.returns-else-is_word-2
returns-else-is_word-2 c = λ ts there.
    let (t, us, same, is, left) = parted c.args.text.now 6 c.args.parts.now c.in-Some.others.now c.in-Some.version.now ts c.in-Some.ensures.cases.0 there in
    ap (λ x. made index_of (certificate_row 0 (first_of x))) same ∙ ap (made index_of) (no_version t us (c.is_word.ensures.no 6 t is c.if-is_word.false) (c.is_word-else-is_word.ensures.no 6 t is c.if-is_word-2.false))
