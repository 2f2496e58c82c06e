-- The functions of a certificate, found in its text by the index.
use Rattle.std.proofs.Common.{◌≡◌, ◌≤◌, ℕ, zero, suc, ◌+◌, true, List, [], ◌∷◌, length, map, slice_get, Some, Result, Ok, Err, refl, ap, sym, subst, ◌∙◌, arith}
use Rattle.std.specs.Prelude.{codes, option_map, IfOk}
use Rattle.std.specs.List.{slice_range}
use Rattle.std.proofs.lemmas.Bool.{and_parts}
use Rattle.std.proofs.lemmas.Option.{slice_get-map}
use Rattle.c_values.specs.Types.{Ilp32, Lp64}
use Rattle.ac_sx.specs.declared.spans.SxPart.{SxPart}
use Rattle.ac_sx.specs.Tree.{Tree, Trees, Atom, Node, more, IsTree, spelling, depth, deepest}
use Rattle.ac_sx.specs.Spans.{parts_from, parts_of}
use Rattle.ac_sx.proofs.Built.{one_file}
use Rattle.expression_text.specs.declared.fault.TextFault.{TextFault}
use Rattle.expression_text.specs.declared.fault.TextFault.TheVariants as F
use Rattle.expression_text.specs.CodeFault.{Fails}
use Rattle.expression_text.specs.Lists.{each, trees_for}
use Rattle.expression_text.proofs.Behind.{behind, value_ok}
use Rattle.acceptance.specs.Certificate.{Steps}
use Rattle.certificate_text.specs.declared.index.FunEntry.{FunEntry}
use Rattle.certificate_text.specs.CertificateText.{function_tree, is_function, Version, One, Two, Certificate, version_trees, certificate_tree}
use Rattle.certificate_text.specs.CertificateReading.{function_at}
use Rattle.certificate_text.specs.CertificateIndex.{Entry, Index, entry_at, entries_from, front, index_of}
use Rattle.certificate_text.specs.CodeIndex.{entry_of}
use Rattle.certificate_text.specs.Answer.{IsCertificateText}
use Rattle.certificate_text.specs.TextParts.{IsAt, AreAt}
use Rattle.certificate_text.proofs.ReadBack as back
use Rattle.certificate_text.proofs.CertificateLaws.{certificate_reads}
use Rattle.certificate_text.proofs.FunctionLaws.{function_reads}
use Rattle.certificate_text.proofs.Spelt.{file_at}

-- an entry's part of a text is the tree of the function of its place
pub record IsThere (text : List ℕ) (cs : List Steps) (k : ℕ) (e : Entry) (c : Steps) : Type 0 where
  pub function : slice_get cs k ≡ Some c
  pub is : is_function c ≡ true
  pub order : e.start ≤ e.end
  pub within : e.end ≤ length text
  pub spelt : slice_range text e.start e.end ≡ spelling (function_tree c)
  pub atoms : IsTree (function_tree c)
  pub depth : depth (function_tree c) ≤ deepest

first_there : (text : List ℕ) (at : ℕ) (p : SxPart) (c : Steps) (cs : List Steps) → IsAt text at p (function_tree c) → is_function c ≡ true → IsThere text (c ∷ cs) 0 (entry_at at c) c
first_there text at p c cs is fine = record {
  function = refl;
  is = fine;
  order = omega arith;
  within = subst (λ n. n ≤ length text) is.end is.within;
  spelt = ap (λ n. slice_range text n (at + length (spelling (function_tree c)))) (sym is.start) ∙ ap (slice_range text p.start) (sym is.end) ∙ is.spelt;
  atoms = is.atoms;
  depth = is.depth;
}

next_there : (text : List ℕ) (c d : Steps) (cs : List Steps) (k : ℕ) (e : Entry) → IsThere text cs k e c → IsThere text (d ∷ cs) (suc k) e c
next_there text c d cs k e is = record {
  function = is.function;
  is = is.is;
  order = is.order;
  within = is.within;
  spelt = is.spelt;
  atoms = is.atoms;
  depth = is.depth;
}

located : (text : List ℕ) (at : ℕ) (parts : List SxPart) (cs : List Steps) (k : ℕ) (e : Entry) → AreAt text at parts (trees_for function_tree cs) → each is_function cs ≡ true → slice_get (entries_from at cs) k ≡ Some e → (c : Steps) × IsThere text cs k e c
located text at parts [] k e there are found = absurd cc
located text at [] (c ∷ cs) k e there are found = absurd there
located text at (p ∷ ps) (c ∷ cs) zero e there are found =
    let same : entry_at at c ≡ e = cc in
    (c, subst (λ x. IsThere text (c ∷ cs) 0 x c) same (first_there text at p c cs there.0 (and_parts (is_function c) (each is_function cs) are).0))
located text at (p ∷ ps) (c ∷ cs) (suc k) e there are found =
    let (d, is) = located text (at + length (spelling (function_tree c)) + 1) ps cs k e there.1 (and_parts (is_function c) (each is_function cs) are).1 found in
    (d, next_there text d c cs k e is)

-- the functions behind the version
functions_at : (text : List ℕ) (c : Certificate) → IsCertificateText text c → (parts : List SxPart) × AreAt text (length (front c.version)) parts (trees_for function_tree c.functions)
functions_at text c is = by (trees_for function_tree c.functions) c.version (file_at text (more (Atom (codes "cert")) (version_trees c.version (trees_for function_tree c.functions))) is.0.spelled is.0.atoms is.0.depth)
  where
    by : (fs : Trees) (v : Version) → AreAt text 1 (parts_of (Node (more (Atom (codes "cert")) (version_trees v fs)))) (more (Atom (codes "cert")) (version_trees v fs)) → (parts : List SxPart) × AreAt text (length (front v)) parts fs
    by fs One there = (parts_from 8 fs, there.1.1)
    by fs (Two Ilp32) there = (parts_from 14 fs, there.1.1.1)
    by fs (Two Lp64) there = (parts_from 13 fs, there.1.1.1)

-- a text is of one certificate
pub one_certificate : (text : List ℕ) (c d : Certificate) → IsCertificateText text c → IsCertificateText text d → c ≡ d
one_certificate text c d is other =
    let same = one_file (certificate_tree c) (certificate_tree d) is.0.atoms other.0.atoms (sym is.0.spelled ∙ other.0.spelled) in
    back.only (certificate_tree c) c (behind 0 (certificate_tree c)) d (certificate_reads c is.1 0) (same, other.1)

pub entry_there : (text : List ℕ) (i : Index) (es : List FunEntry) (k : ℕ) (e : FunEntry) → (d : Certificate) × IsCertificateText text d × (i ≡ index_of d) → i.functions ≡ map entry_of es → slice_get es k ≡ Some e →
    (c : Certificate) → IsCertificateText text c → (f : Steps) × IsThere text c.functions k (entry_of e) f
entry_there text i es k e scanned is_of found c is =
    let (d, other, indexed) = scanned in
    let (parts, there) = functions_at text c is in
    let entries : map entry_of es ≡ entries_from (length (front c.version)) c.functions = sym is_of ∙ ap (λ (x : Index). x.functions) indexed ∙ ap (λ x. (index_of x).functions) (one_certificate text d c other is) in
    located text (length (front c.version)) parts c.functions k (entry_of e) there is.1 (ap (λ xs. slice_get xs k) (sym entries) ∙ slice_get-map entry_of es k ∙ ap (option_map entry_of) found)

-- one function, by its tree
pub function_found : (t : Tree) (c f : Steps) (n : ℕ) → is_function c ≡ true → t ≡ function_tree c → function_at 0 t ≡ Ok (f, n) → f ≡ c
function_found t c f n is same read = value_ok f n c (behind 0 (function_tree c)) (sym read ∙ ap (function_at 0) same ∙ function_reads c is 0)

pub function_told : (t : Tree) (c : Steps) (fault : TextFault) → is_function c ≡ true → t ≡ function_tree c → Fails fault (function_at 0 t) → fault ≡ F.Memory
function_told t c (F.Shape n) is same bad = absurd (let read = sym bad ∙ ap (function_at 0) same ∙ function_reads c is 0 in cc)
function_told t c F.Memory is same bad = refl
function_told t c F.NotText is same bad = absurd bad
function_told t c F.Deep is same bad = absurd bad

pub function_placed : {X E : Type 0} (view : X → Steps) (r : Result X E) (f : Steps) (fs : List Steps) (k : ℕ) → slice_get fs k ≡ Some f → IfOk r (λ x. view x ≡ f) → IfOk r (λ x. slice_get fs k ≡ Some (view x))
function_placed view (Ok x) f fs k there is = there ∙ ap (λ y. Some y) (sym is)
function_placed view (Err e) f fs k there is = tt
