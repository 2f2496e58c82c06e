-- What a certificate begins with, told from the parts of its text.
use Rattle.std.proofs.Common.{◌≡◌, ℕ, ◌+◌, Bool, true, false, cond, List, [], ◌∷◌, length, Some, Err, refl, ap, sym, subst, ◌∙◌, if◌then◌else◌}
use Rattle.std.specs.Prelude.{codes}
use Rattle.c_values.specs.Name.{Name, same_name}
use Rattle.c_values.specs.Types.{Target, Ilp32, Lp64}
use Rattle.ac_sx.specs.declared.spans.SxPart.{SxPart}
use Rattle.ac_sx.specs.Tree.{Tree, Trees, Atom, Node, no_trees, more, spelling}
use Rattle.ac_sx.specs.Spans.{parts_of}
use Rattle.ac_sx.specs.CodeSx.{first_of}
use Rattle.expression_text.specs.Reading.{Read, ◌>>=◌}
use Rattle.expression_text.specs.Words.{looked_up}
use Rattle.expression_text.proofs.LookedUp.{name_is}
use Rattle.certificate_text.specs.CertificateText.{target_word, One, Two, Certificate}
use Rattle.certificate_text.specs.CertificateReading.{word_from, target_at, functions_at, second_row, certificate_row, certificate_at}
use Rattle.certificate_text.specs.Answer.{IsTextOf}
use Rattle.certificate_text.specs.TextParts.{AreAt}
use Rattle.certificate_text.proofs.Spelt.{file_at}

pub different : (x y : Name) → (x ≡ y → ⊥) → same_name x y ≡ false
different x y other = by (same_name x y) refl
  where
    by : (b : Bool) → same_name x y ≡ b → b ≡ false
    by true e = absurd (other (name_is x y e))
    by false e = refl

-- the parts of a tree's text are those of a list
pub listed : (text : List ℕ) (parts : List SxPart) (t : Tree) → IsTextOf text t → parts ≡ parts_of t → (ts : Trees) × AreAt text 1 parts ts × (certificate_at 0 (Node ts) ≡ certificate_at 0 t)
listed text parts (Atom w) is same = (no_trees, subst (λ ps. AreAt text 1 ps no_trees) (sym same) tt, refl)
listed text parts (Node ts) is same = (ts, subst (λ ps. AreAt text 1 ps ts) (sym same) (file_at text ts is.spelled is.atoms is.depth), refl)

-- the parts behind a word
pub behind_word : (text : List ℕ) (at : ℕ) (parts : List SxPart) (t : Tree) (ts : Trees) (w : Name) → t ≡ Atom w → AreAt text (at + length (spelling t) + 1) parts ts → AreAt text (at + length w + 1) parts ts
behind_word text at parts t ts w is there = subst (λ u. AreAt text (at + length (spelling u) + 1) parts ts) is there

pub no_head : (t : Tree) (ts : Trees) → (t ≡ Atom (codes "cert") → ⊥) → certificate_at 0 (Node (more t ts)) ≡ Err 0
no_head (Node us) ts other = refl
no_head (Atom w) ts other = ap (λ b. cond {A = Read Certificate} b (certificate_row 0 (first_of ts)) (Err 0)) (different w (codes "cert") (λ e. other (ap Atom e)))

pub no_version : (t : Tree) (ts : Trees) → (t ≡ Atom (codes "1") → ⊥) → (t ≡ Atom (codes "2") → ⊥) → certificate_row 0 (Some (t, ts)) ≡ Err 2
no_version (Node us) ts other neither = refl
no_version (Atom w) ts other neither =
    ap (λ b. cond {A = Read Certificate} b (functions_at One 3 ts) (cond {A = Read Certificate} (same_name w (codes "2")) (second_row 0 3 (first_of ts)) (Err 2))) (different w (codes "1") (λ e. other (ap Atom e)))
    ∙ ap (λ b. cond {A = Read Certificate} b (second_row 0 3 (first_of ts)) (Err 2)) (different w (codes "2") (λ e. neither (ap Atom e)))

no_target : (t : Tree) → (t ≡ Atom (codes "ilp32") → ⊥) → (t ≡ Atom (codes "lp64") → ⊥) → target_at 3 t ≡ Err 3
no_target (Node us) other neither = refl
no_target (Atom w) other neither =
    ap (λ b. word_from 3 (if b then Some Ilp32 else looked_up target_word (Lp64 ∷ []) w)) (different (codes "ilp32") w (λ e. other (ap Atom (sym e))))
    ∙ ap (λ b. word_from 3 (if b then Some Lp64 else looked_up target_word [] w)) (different (codes "lp64") w (λ e. neither (ap Atom (sym e))))

pub no_second : (t : Tree) (ts : Trees) → (t ≡ Atom (codes "ilp32") → ⊥) → (t ≡ Atom (codes "lp64") → ⊥) → second_row 0 3 (Some (t, ts)) ≡ Err 3
no_second t ts other neither = ap (λ (r : Read Target). r >>= λ x. functions_at (Two x.0) x.1 ts) (no_target t other neither)
