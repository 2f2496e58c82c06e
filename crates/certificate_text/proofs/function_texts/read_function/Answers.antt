use Rattle.std.proofs.Common.{refl}
use Rattle.std.proofs.lemmas.Option.{slice_get_read}
use Rattle.acceptance.specs.CodeCertificate.{steps_of}
use Rattle.certificate_text.specs.CertificateText.{function_tree}
use Rattle.certificate_text.specs.CodeIndex.{index_in}
use Rattle.certificate_text.proofs.Located.{entry_there, function_placed}
use Rattle.certificate_text.proofs.function_texts.read_function.Goals as goal

pub slice_bounds-spelt_tree-count : goal.slice_bounds-spelt_tree-count
slice_bounds-spelt_tree-count c =
    let (d, is, same) = c.requires.scanned in
    let entries = c.args.index.now.functions.items in
    let (f, there) = entry_there c.args.bytes.now (index_in c.args.index.now) entries c.args.k c.index-entry.result.now c.requires.scanned refl (slice_get_read entries _ c.args.k _ refl c.requires.within c.index-entry.ensures) d is in
    there.order

pub slice_bounds-spelt_tree-start : goal.slice_bounds-spelt_tree-start
slice_bounds-spelt_tree-start c =
    let (d, is, same) = c.requires.scanned in
    let entries = c.args.index.now.functions.items in
    let (f, there) = entry_there c.args.bytes.now (index_in c.args.index.now) entries c.args.k c.index-entry.result.now c.requires.scanned refl (slice_get_read entries _ c.args.k _ refl c.requires.within c.index-entry.ensures) d is in
    there.order

pub slice_bounds-spelt_tree-end : goal.slice_bounds-spelt_tree-end
slice_bounds-spelt_tree-end c =
    let (d, is, same) = c.requires.scanned in
    let entries = c.args.index.now.functions.items in
    let (f, there) = entry_there c.args.bytes.now (index_in c.args.index.now) entries c.args.k c.index-entry.result.now c.requires.scanned refl (slice_get_read entries _ c.args.k _ refl c.requires.within c.index-entry.ensures) d is in
    there.within

pub spelt_tree-requires-clause-spelt : goal.spelt_tree-requires-clause-spelt
spelt_tree-requires-clause-spelt c =
    let (d, is, same) = c.requires.scanned in
    let entries = c.args.index.now.functions.items in
    let (f, there) = entry_there c.args.bytes.now (index_in c.args.index.now) entries c.args.k c.index-entry.result.now c.requires.scanned refl (slice_get_read entries _ c.args.k _ refl c.requires.within c.index-entry.ensures) d is in
    (function_tree f, there.atoms, there.depth, there.spelt)

pub function_in-requires : goal.function_in-requires
function_in-requires c =
    let (d, is, same) = c.requires.scanned in
    let entries = c.args.index.now.functions.items in
    let (f, there) = entry_there c.args.bytes.now (index_in c.args.index.now) entries c.args.k c.index-entry.result.now c.requires.scanned refl (slice_get_read entries _ c.args.k _ refl c.requires.within c.index-entry.ensures) d is in
    (f, there.is, c.in_ok-tree.ensures.tree (function_tree f) there.atoms there.depth there.spelt)

pub returns-clause-found : goal.returns-clause-found
returns-clause-found c = λ d is.
    let entries = c.args.index.now.functions.items in
    let (f, there) = entry_there c.args.bytes.now (index_in c.args.index.now) entries c.args.k c.index-entry.result.now c.requires.scanned refl (slice_get_read entries _ c.args.k _ refl c.requires.within c.index-entry.ensures) d is in
    function_placed steps_of c.function_in.result f d.functions c.args.k there.function (c.function_in.ensures f there.is (c.in_ok-tree.ensures.tree (function_tree f) there.atoms there.depth there.spelt))
