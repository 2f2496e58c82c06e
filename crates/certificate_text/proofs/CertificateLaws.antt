-- A certificate is read from its tree, and what is read is the certificate whose tree it is.
use Rattle.std.proofs.Common.{◌≡◌, ℕ, Bool, true, false, cond, List, Option, Some, None, Ok, Err, refl, ap, ap₂, sym, ◌∙◌}
use Rattle.std.specs.Prelude.{codes}
use Rattle.c_values.specs.Name.{Name, same_name}
use Rattle.c_values.specs.Types.{Target}
use Rattle.ac_sx.specs.Tree.{Tree, Trees, Atom, Node, no_trees, more}
use Rattle.ac_sx.specs.CodeSx.{headed_in, first_of}
use Rattle.expression_text.specs.Reading.{Read, next, ◌>>=◌}
use Rattle.expression_text.specs.Words.{looked_up}
use Rattle.expression_text.specs.Lists.{each, trees_for, list_at}
use Rattle.expression_text.proofs.LookedUp.{looked_up_is, name_is}
use Rattle.expression_text.proofs.Behind.{IsReadAs, AreReadAs, bind_ok, value_ok}
use Rattle.expression_text.proofs.ListLaws.{list_reads, list_spells}
use Rattle.acceptance.specs.Certificate.{Steps}
use Rattle.certificate_text.specs.CertificateText.{target_word, targets, function_tree, is_function, Version, One, Two, Certificate, version_trees, certificate_tree, is_certificate}
use Rattle.certificate_text.specs.CertificateReading.{word_from, target_at, function_at, functions_at, second_row, certificate_row, certificate_by, certificate_at}
use Rattle.certificate_text.proofs.StepLaws.{headed_is}
use Rattle.certificate_text.proofs.Parted.{targets_found}
use Rattle.certificate_text.proofs.FunctionLaws.{function_reads, function_spells}

abbrev with_version : Version → List Steps → Certificate
with_version v fs = record { version = v; functions = fs }

functions_read : (v : Version) (fs : List Steps) → each is_function fs ≡ true → AreReadAs (functions_at v) (trees_for function_tree fs) (with_version v fs)
functions_read v fs is = λ at. ap (λ r. r >>= λ x. Ok (with_version v x.0, x.1)) (list_reads function_at function_tree is_function function_reads fs is at)

pub certificate_reads : (c : Certificate) → is_certificate c ≡ true → IsReadAs certificate_at (certificate_tree c) c
certificate_reads c is = by c.version
  where
    by : (v : Version) → IsReadAs certificate_at (certificate_tree (with_version v c.functions)) (with_version v c.functions)
    by One = λ at. functions_read One c.functions is (next (next (next at)))
    by (Two t) = λ at.
        ap (λ o. word_from (next (next (next at))) o >>= λ x. functions_at (Two x.0) x.1 (trees_for function_tree c.functions)) (targets_found t)
        ∙ functions_read (Two t) c.functions is (next (next (next (next at))))

abbrev IsCertificateTree : Tree → Certificate → Type 0
IsCertificateTree t c = (t ≡ certificate_tree c) × (is_certificate c ≡ true)

abbrev AreOf : Version → Trees → Certificate → Type 0
AreOf v ts c = (v ≡ c.version) × (ts ≡ trees_for function_tree c.functions) × (is_certificate c ≡ true)

functions_spell : (v : Version) (ts : Trees) (at : ℕ) (c : Certificate) (n : ℕ) → functions_at v at ts ≡ Ok (c, n) → AreOf v ts c
functions_spell v ts at c n read =
    let (x, first, last) = bind_ok (list_at function_at at ts) (λ x. Ok (with_version v x.0, x.1)) (c, n) read in
    let h = list_spells function_at function_tree is_function function_spells ts at x.0 x.1 first in
    let same : with_version v x.0 ≡ c = value_ok (with_version v x.0) x.1 c n last in
    (ap (λ (d : Certificate). d.version) same, h.0 ∙ ap (λ (d : Certificate). trees_for function_tree d.functions) same, ap is_certificate (sym same) ∙ h.1)

-- with a version and the functions behind it
whole : (v : Version) (ts : Trees) (c : Certificate) → AreOf v ts c → IsCertificateTree (Node (more (Atom (codes "cert")) (version_trees v ts))) c
whole v ts c is = (ap₂ (λ w us. Node (more (Atom (codes "cert")) (version_trees w us))) is.0 is.1, is.2)

target_spells : (t : Tree) (at : ℕ) (x : Target) (n : ℕ) → target_at at t ≡ Ok (x, n) → t ≡ Atom (target_word x)
target_spells (Node ts) at x n read = absurd cc
target_spells (Atom w) at x n read = by (looked_up target_word targets w) refl read
  where
    by : (o : Option Target) → looked_up target_word targets w ≡ o → word_from at o ≡ Ok (x, n) → Atom w ≡ Atom (target_word x)
    by None e f = absurd cc
    by (Some y) e f = ap Atom (sym (looked_up_is target_word targets w y e) ∙ ap target_word (value_ok y (next at) x n f))

second_spells : (at inner : ℕ) (ts : Trees) (c : Certificate) (n : ℕ) → second_row at inner (first_of ts) ≡ Ok (c, n) → IsCertificateTree (Node (more (Atom (codes "cert")) (more (Atom (codes "2")) ts))) c
second_spells at inner no_trees c n read = absurd cc
second_spells at inner (more t ts) c n read =
    let (x, first, last) = bind_ok (target_at inner t) (λ x. functions_at (Two x.0) x.1 ts) (c, n) read in
    let h = whole (Two x.0) ts c (functions_spell (Two x.0) ts x.1 c n last) in
    (ap (λ u. Node (more (Atom (codes "cert")) (more (Atom (codes "2")) (more u ts)))) (target_spells t inner x.0 x.1 first) ∙ h.0, h.1)

version_spells : (at : ℕ) (w : Name) (ts : Trees) (c : Certificate) (n : ℕ) (b d : Bool) → same_name w (codes "1") ≡ b → same_name w (codes "2") ≡ d →
    cond {A = Read Certificate} b (functions_at One (next (next (next at))) ts) (cond {A = Read Certificate} d (second_row at (next (next (next at))) (first_of ts)) (Err (next (next at)))) ≡ Ok (c, n) →
    IsCertificateTree (Node (more (Atom (codes "cert")) (more (Atom w) ts))) c
version_spells at w ts c n true d e f read =
    let h = whole One ts c (functions_spell One ts (next (next (next at))) c n read) in
    (ap (λ v. Node (more (Atom (codes "cert")) (more (Atom v) ts))) (name_is w (codes "1") e) ∙ h.0, h.1)
version_spells at w ts c n false true e f read =
    let h = second_spells at (next (next (next at))) ts c n read in
    (ap (λ v. Node (more (Atom (codes "cert")) (more (Atom v) ts))) (name_is w (codes "2") f) ∙ h.0, h.1)
version_spells at w ts c n false false e f read = absurd cc

row_spells : (at : ℕ) (ts : Trees) (c : Certificate) (n : ℕ) → certificate_row at (first_of ts) ≡ Ok (c, n) → IsCertificateTree (Node (more (Atom (codes "cert")) ts)) c
row_spells at (more (Atom w) ts) c n read = version_spells at w ts c n (same_name w (codes "1")) (same_name w (codes "2")) refl refl read
row_spells at _ c n read = absurd cc

pub certificate_spells : (t : Tree) (at : ℕ) (c : Certificate) (n : ℕ) → certificate_at at t ≡ Ok (c, n) → IsCertificateTree t c
certificate_spells t at c n read = by_head (headed_in t) refl read
  where
    by_word : (w : Name) (ts : Trees) (b : Bool) → headed_in t ≡ Some (w, ts) → same_name w (codes "cert") ≡ b → cond {A = Read Certificate} b (certificate_row at (first_of ts)) (Err at) ≡ Ok (c, n) → IsCertificateTree t c
    by_word w ts false e f g = absurd cc
    by_word w ts true e f g = let h = row_spells at ts c n g in (headed_is t w ts e ∙ ap (λ v. Node (more (Atom v) ts)) (name_is w (codes "cert") f) ∙ h.0, h.1)

    by_head : (o : Option (Name × Trees)) → headed_in t ≡ o → certificate_by at o ≡ Ok (c, n) → IsCertificateTree t c
    by_head None e g = absurd cc
    by_head (Some (w, ts)) e g = by_word w ts (same_name w (codes "cert")) e refl g
