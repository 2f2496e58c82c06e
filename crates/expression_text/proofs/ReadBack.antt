-- What the answers of the reader say of a tree.
use Rattle.std.proofs.Common.{◌≡◌, ℕ, Ok, Err, refl, ap, sym, ◌∙◌}
use Rattle.ac_sx.specs.Tree.{Tree}
use Rattle.expression_lang.specs.Expression.{Exp}
use Rattle.expression_text.specs.declared.fault.TextFault.{TextFault}
use Rattle.expression_text.specs.declared.fault.TextFault.TheVariants as F
use Rattle.expression_text.specs.Reading.{Read}
use Rattle.expression_text.specs.ExpText.{exp_tree}
use Rattle.expression_text.specs.ExpReading.{exp_at}
use Rattle.expression_text.specs.CodeFault.{Fails}
use Rattle.expression_text.specs.Answer.{IsExpText}
use Rattle.expression_text.proofs.Behind.{behind, value_ok}
use Rattle.expression_text.proofs.ExpsText.{exp_reads, exp_spells}

pub exp_found : {e : Exp} {n : ℕ} (t : Tree) → exp_at 0 t ≡ Ok (e, n) → IsExpText t e
exp_found {e = e} {n = n} t read = exp_spells t 0 e n read

reads : (f : Exp) (t : Tree) → IsExpText t f → exp_at 0 t ≡ Ok (f, behind 0 (exp_tree f))
reads f t is = ap (exp_at 0) is.0 ∙ exp_reads f is.1 0

pub exp_only : {e : Exp} {n : ℕ} (f : Exp) (t : Tree) → exp_at 0 t ≡ Ok (e, n) → IsExpText t f → e ≡ f
exp_only {e = e} {n = n} f t read is = value_ok e n f (behind 0 (exp_tree f)) (sym read ∙ reads f t is)

-- no text of an expression is refused
pub refused_only : (f : Exp) (t : Tree) (fault : TextFault) → Fails fault (exp_at 0 t) → IsExpText t f → fault ≡ F.Memory
refused_only f t (F.Shape at) bad is = absurd (let read = sym bad ∙ reads f t is in cc)
refused_only f t F.Memory bad is = refl
refused_only f t F.NotText bad is = absurd bad
refused_only f t F.Deep bad is = absurd bad

pub not_refused : {A : Type 0} {x : A} {n : ℕ} (read : Read A) (at : ℕ) → read ≡ Ok (x, n) → read ≡ Err at → ⊥
not_refused read at good bad = let both = sym good ∙ bad in cc
