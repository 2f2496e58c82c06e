-- The entries of functions, one after the other.
use Rattle.std.proofs.Common.{◌≡◌, ℕ, ◌+◌, List, [], ◌∷◌, ◌++◌, length, map, Ok, Err, refl, ap, ap₂, sym, subst, ◌∙◌, append_assoc}
use Rattle.ac_sx.specs.declared.spans.SxPart.{SxPart}
use Rattle.ac_sx.specs.Tree.{Tree, Trees, no_trees, more, spelling}
use Rattle.expression_text.specs.declared.fault.TextFault.{TextFault}
use Rattle.expression_text.specs.declared.fault.TextFault.TheVariants as F
use Rattle.expression_text.specs.CodeFault.{Fails}
use Rattle.expression_text.specs.Reading.{Read, ◌>>=◌, made}
use Rattle.expression_text.specs.Lists.{list_at}
use Rattle.c_values.specs.Name.{Name}
use Rattle.acceptance.specs.Certificate.{Steps}
use Rattle.rule_text.proofs.GivenLaws.{made_ok}
use Rattle.certificate_text.specs.declared.index.FunEntry.{FunEntry}
use Rattle.certificate_text.specs.CertificateText.{function_tree, Version, Certificate}
use Rattle.certificate_text.specs.CertificateReading.{function_at}
use Rattle.certificate_text.specs.CertificateIndex.{Entry, entry_at, entries_from}
use Rattle.certificate_text.specs.CodeIndex.{entry_of}
use Rattle.certificate_text.specs.TextParts.{IsAt, AreAt}
use Rattle.certificate_text.proofs.FunctionLaws.{function_spells}

pub made_err : {A B : Type 0} (f : A → B) (r : Read A) (n : ℕ) → made f r ≡ Err n → r ≡ Err n
made_err f (Ok (a, m)) n e = absurd cc
made_err f (Err m) n e = let h : m ≡ n = cc in ap Err h

pub fails_made : {A B : Type 0} (f : A → B) (r : Read A) (fault : TextFault) → Fails fault r → Fails fault (made f r)
fails_made f r (F.Shape n) bad = ap (made f) bad
fails_made f r F.Memory bad = tt
fails_made f r F.NotText bad = bad
fails_made f r F.Deep bad = bad

pub made_fails : {A B : Type 0} (f : A → B) (r : Read A) (fault : TextFault) → Fails fault (made f r) → Fails fault r
made_fails f r (F.Shape n) bad = made_err f r n bad
made_fails f r F.Memory bad = tt
made_fails f r F.NotText bad = bad
made_fails f r F.Deep bad = bad

-- the parts of a text, one by one
pub parted : (text : List ℕ) (at : ℕ) (parts others : List SxPart) (p : SxPart) (ts : Trees) → parts ≡ p ∷ others → AreAt text at parts ts →
    (t : Tree) × (us : Trees) × (ts ≡ more t us) × IsAt text at p t × AreAt text (at + length (spelling t) + 1) others us
parted text at parts others p ts split there = by ts (subst (λ ps. AreAt text at ps ts) split there)
  where
    by : (us : Trees) → AreAt text at (p ∷ others) us → (t : Tree) × (vs : Trees) × (us ≡ more t vs) × IsAt text at p t × AreAt text (at + length (spelling t) + 1) others vs
    by no_trees is = absurd is
    by (more t us) is = (t, us, refl, is.0, is.1)

pub none_left : (text : List ℕ) (at : ℕ) (parts : List SxPart) (ts : Trees) → parts ≡ [] → AreAt text at parts ts → ts ≡ no_trees
none_left text at parts ts none there = by ts (subst (λ ps. AreAt text at ps ts) none there)
  where
    by : (us : Trees) → AreAt text at [] us → us ≡ no_trees
    by no_trees is = refl
    by (more t us) is = absurd is

-- an entry, by its function's text
pub entry_made : (text : List ℕ) (start at n : ℕ) (p : SxPart) (t u : Tree) (c : Steps) (name : Name) → IsAt text start p t → u ≡ t → function_at at u ≡ Ok (c, n) → name ≡ c.name →
    made (entry_at start) (function_at at t) ≡ Ok (record { name = name; level = c.level; start = p.start; end = p.end }, n)
entry_made text start at n p t u c name is same read named =
    let there = ap (function_at at) (sym same) ∙ read in
    let spelt = function_spells t at c n there in
    let end : start + length (spelling (function_tree c)) ≡ p.end = ap (λ x. start + length (spelling x)) (sym spelt.0) ∙ sym is.end in
    let entry : entry_at start c ≡ record { name = name; level = c.level; start = p.start; end = p.end } =
    ap (λ x. record { name = x; level = c.level; start = start; end = start + length (spelling (function_tree c)) }) (sym named)
    ∙ ap₂ (λ x y. record { name = name; level = c.level; start = x; end = y }) (sym is.start) end in
    ap (made (entry_at start)) there ∙ ap (λ x. Ok (x, n)) entry

-- the entries so far, and those to come, are the whole
abbrev pub AreSoFar : List ℕ → List FunEntry → List SxPart → ℕ → Read (List Entry) → Type 0
AreSoFar text entries parts here whole = (at : ℕ) × (ts : Trees) × AreAt text at parts ts × (made (λ es. map entry_of entries ++ es) (made (entries_from at) (list_at function_at here ts)) ≡ whole)

mapped : (es : List FunEntry) (e : FunEntry) → map entry_of (es ++ e ∷ []) ≡ map entry_of es ++ entry_of e ∷ []
mapped [] e = refl
mapped (x ∷ xs) e = ap (λ ys. entry_of x ∷ ys) (mapped xs e)

one_more : (at next : ℕ) (c : Steps) (es : List Entry) (e : Entry) (r : Read (List Steps)) → entry_at at c ≡ e → at + length (spelling (function_tree c)) + 1 ≡ next →
    made (λ ys. (es ++ e ∷ []) ++ ys) (made (entries_from next) r) ≡ made (λ ys. es ++ ys) (made (entries_from at) (r >>= λ y. Ok (c ∷ y.0, y.1)))
one_more at next c es e (Ok (cs, n)) is behind =
    ap (λ ys. Ok (ys, n)) (append_assoc es (e ∷ []) (entries_from next cs) ∙ ap₂ (λ x k. es ++ x ∷ entries_from k cs) (sym is) (sym behind))
one_more at next c es e (Err n) is behind = refl

pub entries_more : (text : List ℕ) (before now : List FunEntry) (e : FunEntry) (parts others : List SxPart) (p : SxPart) (here behind : ℕ) (whole : Read (List Entry)) → parts ≡ p ∷ others → now ≡ before ++ e ∷ [] →
    ((start : ℕ) (t : Tree) → IsAt text start p t → made (entry_at start) (function_at here t) ≡ Ok (entry_of e, behind)) → AreSoFar text before parts here whole → AreSoFar text now others behind whole
entries_more text before now e parts others p here behind whole split pushed given so_far =
    let (at, ts, there, same) = so_far in
    let (t, us, is_more, is, left) = parted text at parts others p ts split there in
    let (c, read, entry) = made_ok (entry_at at) (function_at here t) (entry_of e) behind (given at t is) in
    let spelt = function_spells t here c behind read in
    let next = at + length (spelling t) + 1 in (
      next,
      us,
      left,
      ap (λ es. made (λ ys. es ++ ys) (made (entries_from next) (list_at function_at behind us))) (ap (map entry_of) pushed ∙ mapped before e)
          ∙ one_more at next c (map entry_of before) (entry_of e) (list_at function_at behind us) entry (ap (λ x. at + length (spelling x) + 1) (sym spelt.0))
          ∙ ap (λ r. made (λ ys. map entry_of before ++ ys) (made (entries_from at) (r >>= λ x. list_at function_at x.1 us >>= λ y. Ok (x.0 ∷ y.0, y.1)))) (sym read)
          ∙ ap (λ x. made (λ ys. map entry_of before ++ ys) (made (entries_from at) (list_at function_at here x))) (sym is_more)
          ∙ same,
    )

pub entries_refused : (text : List ℕ) (before : List FunEntry) (parts others : List SxPart) (p : SxPart) (here : ℕ) (fault : TextFault) (whole : Read (List Entry)) → parts ≡ p ∷ others →
    ((start : ℕ) (t : Tree) → IsAt text start p t → Fails fault (made (entry_at start) (function_at here t))) → AreSoFar text before parts here whole → Fails fault whole
entries_refused text before parts others p here F.Memory whole split bad so_far = tt
entries_refused text before parts others p here F.NotText whole split bad so_far =
    let (at, ts, there, same) = so_far in
    let (t, us, is_more, is, left) = parted text at parts others p ts split there in
    bad at t is
entries_refused text before parts others p here F.Deep whole split bad so_far =
    let (at, ts, there, same) = so_far in
    let (t, us, is_more, is, left) = parted text at parts others p ts split there in
    bad at t is
entries_refused text before parts others p here (F.Shape n) whole split bad so_far =
    let (at, ts, there, same) = so_far in
    let (t, us, is_more, is, left) = parted text at parts others p ts split there in
    let read = made_err (entry_at at) (function_at here t) n (bad at t is) in
    sym same
    ∙ ap (λ x. made (λ ys. map entry_of before ++ ys) (made (entries_from at) (list_at function_at here x))) is_more
    ∙ ap (λ r. made (λ ys. map entry_of before ++ ys) (made (entries_from at) (r >>= λ x. list_at function_at x.1 us >>= λ y. Ok (x.0 ∷ y.0, y.1)))) read

-- a version before the entries
abbrev with_version : Version → List Steps → Certificate
with_version v cs = record { version = v; functions = cs }
