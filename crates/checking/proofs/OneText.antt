-- A text is that of one certificate, and longer than this has functions.
use Rattle.std.proofs.Common.{◌≡◌, ℕ, ◌<◌, ◌≤◌, List, [], ◌∷◌, length, ap, ◌∙◌, arith}
use Rattle.std.specs.Prelude.{codes}
use Rattle.std.proofs.lemmas.List.{length-append}
use Rattle.ac_sx.specs.Tree.{Tree, Trees, Atom, Node, no_trees, more, spelling, spellings, file, closing, space, line_end}
use Rattle.expression_text.specs.Lists.{trees_for}
use Rattle.acceptance.specs.Certificate.{Steps}
use Rattle.certificate_text.specs.CertificateText.{target_word, function_tree, Version, One, Two, Certificate, version_trees}
use Rattle.certificate_text.specs.CertificateIndex.{Index, index_of}
use Rattle.certificate_text.specs.Answer.{IsCertificateText}
use Rattle.certificate_text.specs.IndexAnswer.{IsIndexOf}
use Rattle.certificate_text.proofs.Located.{one_certificate}

pub one_index : (text : List ℕ) (i : Index) (c : Certificate) → IsIndexOf text i → IsCertificateText text c → i ≡ index_of c
one_index text i c h is = let (d, other, same) = h in same ∙ ap index_of (one_certificate text d c other is)

-- how many functions there are

functions_spelt : (cs : List Steps) → length cs ≤ length (spellings (trees_for function_tree cs))
functions_spelt [] = omega arith
functions_spelt (c ∷ []) = omega arith
functions_spelt (c ∷ d ∷ cs) =
    let more_spelt = functions_spelt (d ∷ cs) in
    let both = length-append (spelling (function_tree c)) (space ∷ spellings (trees_for function_tree (d ∷ cs))) in
    omega (arith, more_spelt, both)

behind_spelt : (t : Tree) (ts : Trees) → length (spellings ts) ≤ length (spellings (more t ts))
behind_spelt t no_trees = omega arith
behind_spelt t (more u us) =
    let both = length-append (spelling t) (space ∷ spellings (more u us)) in
    omega (arith, both)

list_spelt : (ts : Trees) → length (spellings ts) < length (file (Node ts))
list_spelt ts =
    let inner = length-append (spellings ts) (closing ∷ []) in
    let whole = length-append (spelling (Node ts)) (line_end ∷ []) in
    omega (arith, inner, whole)

version_spelt : (v : Version) (fs : Trees) → length (spellings fs) ≤ length (spellings (version_trees v fs))
version_spelt One fs = behind_spelt (Atom (codes "1")) fs
version_spelt (Two t) fs =
    let inner = behind_spelt (Atom (target_word t)) fs in
    let outer = behind_spelt (Atom (codes "2")) (more (Atom (target_word t)) fs) in
    omega (arith, inner, outer)

pub fewer_than_bytes : (text : List ℕ) (c : Certificate) → IsCertificateText text c → length c.functions < length text
fewer_than_bytes text c is =
    let fs = trees_for function_tree c.functions in
    let functions = functions_spelt c.functions in
    let version = version_spelt c.version fs in
    let head = behind_spelt (Atom (codes "cert")) (version_trees c.version fs) in
    let list = list_spelt (more (Atom (codes "cert")) (version_trees c.version fs)) in
    let spelled = ap length is.0.spelled in
    omega (arith, functions, version, head, list, spelled)
