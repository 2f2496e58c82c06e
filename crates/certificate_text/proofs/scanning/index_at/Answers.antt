use Rattle.std.proofs.Common.{ap, sym, subst, ◌∙◌}
use Rattle.std.specs.Prelude.{codes}
use Rattle.ac_sx.specs.Tree.{Node, more}
use Rattle.expression_text.specs.CodeFault.{Gives}
use Rattle.expression_text.specs.Reading.{made}
use Rattle.certificate_text.specs.CertificateReading.{certificate_at}
use Rattle.certificate_text.specs.CertificateIndex.{index_of}
use Rattle.certificate_text.specs.CodeIndex.{index_in}
use Rattle.certificate_text.proofs.Entries.{parted}
use Rattle.certificate_text.proofs.Scanned.{listed, behind_word, no_head}
use Rattle.certificate_text.proofs.scanning.index_at.Goals as goal

pub is_word-requires-clause-spelt : goal.is_word-requires-clause-spelt
is_word-requires-clause-spelt c =
    let (root, text, these) = c.requires.there in
    let (ts, there, read) = listed c.args.text.now c.args.parts.now root text these in
    let (t, us, same, is, left) = parted c.args.text.now 1 c.args.parts.now c.in-Some.others.now c.in-Some.head.now ts c.in-Some.ensures.cases.0 there in
    (1, t, is)

pub index_row-requires-clause-there : goal.index_row-requires-clause-there
index_row-requires-clause-there c =
    let (root, text, these) = c.requires.there in
    let (ts, there, read) = listed c.args.text.now c.args.parts.now root text these in
    let (t, us, same, is, left) = parted c.args.text.now 1 c.args.parts.now c.in-Some.others.now c.in-Some.head.now ts c.in-Some.ensures.cases.0 there in
    (us, behind_word c.args.text.now 1 c.in-Some.others.now t us (codes "cert") (c.is_word.ensures.yes 1 t is c.if-is_word.true) left)

pub returns-then-is_word : goal.returns-then-is_word
returns-then-is_word c = λ root text these.
    let (ts, there, read) = listed c.args.text.now c.args.parts.now root text these in
    let (t, us, same, is, left) = parted c.args.text.now 1 c.args.parts.now c.in-Some.others.now c.in-Some.head.now ts c.in-Some.ensures.cases.0 there in
    let word = c.is_word.ensures.yes 1 t is c.if-is_word.true in
    subst (Gives index_in c.index_row.result) (ap (λ x. made index_of (certificate_at 0 (Node x))) (sym (same ∙ ap (λ u. more u us) word)) ∙ ap (made index_of) read)
    (c.index_row.ensures us (behind_word c.args.text.now 1 c.in-Some.others.now t us (codes "cert") word left))

pub returns-else-is_word : goal.returns-else-is_word
returns-else-is_word c = λ root text these.
    let (ts, there, read) = listed c.args.text.now c.args.parts.now root text these in
    let (t, us, same, is, left) = parted c.args.text.now 1 c.args.parts.now c.in-Some.others.now c.in-Some.head.now ts c.in-Some.ensures.cases.0 there in
    ap (made index_of) (sym read ∙ ap (λ x. certificate_at 0 (Node x)) same ∙ no_head t us (c.is_word.ensures.no 1 t is c.if-is_word.false))
